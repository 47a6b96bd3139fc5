-- The loop's invariant: the group of each node before i, the root aside, is joined beside that of each sibling.
use Rattle.std.proofs.Common.{◌<◌, ℕ}
use Rattle.trees.specs.Triplets.{Triplets, Proper}
use Rattle.bodies.specs.Nodes.{nodes}
use Rattle.masks.specs.Masks.{Masks}
use Rattle.earned.specs.Siblings.{Beside}
use Rattle.earned.proofs.first_unearned.Given as goal

abbrev pub invariant-loop-i : goal.invariant-loop-i
invariant-loop-i l = (E : Triplets) → Proper E → Masks E l.masks → (k : ℕ) → k < l.i → 0 < k → (j : ℕ) → Beside E (nodes l.tree.body.now) k j
