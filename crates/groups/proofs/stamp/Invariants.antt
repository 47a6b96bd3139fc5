-- `groups::stamp` meets its contract. The loop's invariant: the rows of the species that are not left. Assumes nothing.
use Rattle.groups.proofs.Cells.{Rows}
use Rattle.groups.proofs.stamp.Given as goal

abbrev pub invariant-loop-a : goal.invariant-loop-a
invariant-loop-a l = Rows l.g l.a-iterator.left l.initial.out l.out
