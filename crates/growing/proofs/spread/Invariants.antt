-- The loop goes over the species of the set, from the lowest up.
use Rattle.growing.proofs.Leaves.{Spreading}
use Rattle.growing.proofs.spread.Given as goal

abbrev pub invariant-loop-i : goal.invariant-loop-i
invariant-loop-i l = Spreading l.s l.at l.initial.room l.i-iterator.left l.next l.room
