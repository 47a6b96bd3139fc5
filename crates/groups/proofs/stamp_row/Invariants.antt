-- `groups::stamp_row` meets its contract. The loop's invariant: the entries of the species that are not left. Assumes nothing.
use Rattle.groups.proofs.Cells.{Row}
use Rattle.groups.proofs.stamp_row.Given as goal

abbrev pub invariant-loop-b : goal.invariant-loop-b
invariant-loop-b l = Row l.g l.a l.b-iterator.left l.initial.out l.out
