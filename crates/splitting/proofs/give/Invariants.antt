-- The loop's invariant: a is in the rows of the species that are not left.
use Rattle.std.proofs.Common.{◌≡◌}
use Rattle.sets.specs.Sets.{size}
use Rattle.splitting.proofs.Walks.{Walked}
use Rattle.splitting.proofs.give.Given as goal

abbrev pub invariant-loop-left : goal.invariant-loop-left
invariant-loop-left l = Walked l.row (λ i x y. (x ≡ i) × (y ≡ l.a)) l.fn.g l.g l.left

abbrev pub decreases-loop-left : goal.decreases-loop-left
decreases-loop-left l = size l.left
