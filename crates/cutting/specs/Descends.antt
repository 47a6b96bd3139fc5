-- The node at which the species of a set that are under a node part.
use Rattle.std.proofs.Math.Bool.{So}
use Rattle.std.specs.Prelude.{◌≡◌, ℕ, ◌≤◌, ◌<◌}
use Rattle.sets.specs.Species.{Species}
use Rattle.trees.specs.Cut.{cut}
use Rattle.trees.specs.Trees.{house, under}
use Rattle.bodies.specs.Draws.{subtree}
use Rattle.bodies.specs.Nodes.{Nodes}

-- node j has every species of U that is under node i
abbrev pub HasAll : Nodes → Species → ℕ → ℕ → Type 0
HasAll v U i j = (x : ℕ) → So (under (subtree v i) x) → So (U x) → So (under (subtree v j) x)

-- r is node i or a later one, and its cut is that of i; of the children of r among the first k nodes none has every species of U that is under i
pub record Descends (v : Nodes) (U : Species) (i r k : ℕ) : Type 0 where
  pub later : i ≤ r
  pub within : r < v.count
  pub same : cut U (house (subtree v r)) ≡ cut U (house (subtree v i))
  pub parts : (c : ℕ) → c < k → 0 < c → v.parent c ≡ r → HasAll v U i c → ⊥
