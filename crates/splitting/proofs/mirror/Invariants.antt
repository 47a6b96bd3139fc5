-- The loop's invariant: what the rows had of the species that are not left stands in the other rows too.
use Rattle.splitting.proofs.Mirroring.{Gives}
use Rattle.sets.specs.Sets.{size}
use Rattle.splitting.proofs.Walks.{Walked}
use Rattle.splitting.proofs.mirror.Given as goal

abbrev pub invariant-loop-left : goal.invariant-loop-left
invariant-loop-left l = Walked l.s (Gives l.fn.g) l.fn.g l.g l.left

abbrev pub decreases-loop-left : goal.decreases-loop-left
decreases-loop-left l = size l.left
