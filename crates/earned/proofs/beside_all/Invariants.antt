-- The loop's invariant: node i's group is joined beside that of each sibling before j.
use Rattle.std.proofs.Common.{◌<◌, ℕ}
use Rattle.trees.specs.Triplets.{Triplets, Proper}
use Rattle.bodies.specs.Nodes.{nodes}
use Rattle.masks.specs.Masks.{Masks}
use Rattle.earned.specs.Siblings.{Beside}
use Rattle.earned.proofs.beside_all.Given as goal

abbrev pub invariant-loop-j : goal.invariant-loop-j
invariant-loop-j l = (E : Triplets) → Proper E → Masks E l.masks → (k : ℕ) → k < l.j → Beside E (nodes l.tree.body.now) l.i k
