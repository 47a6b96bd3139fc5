-- Building one set into a room: what is written, and what is answered. Document 01, "Triplets, links, building": "To build S".
use Rattle.std.specs.Prelude.{Bool, Err, List, Ok, Result, ◌≡◌, ◌*◌, ◌+◌, ◌≤◌, false, true, ℕ}
use Rattle.std.proofs.lemmas.List.Edits.{sets}
use Rattle.sets.specs.Sets.{has}
use Rattle.trees.specs.Build.{Outcome, stop, tree}
use Rattle.trees.specs.Trees.{Tree}
use Rattle.bodies.specs.Draws.{bytes, node_count}
use Rattle.bodies.specs.Nodes.{width}
use Rattle.growing.specs.declared.Build.{Build}
use Rattle.growing.specs.declared.Build.TheVariants.{Plain, Veto}

-- is it the veto build?
abbrev pub vetoes : Build → Bool
vetoes Plain = false
vetoes Veto = true

-- R is a tree. It stands in the room from node `at` on, under the parent p, and the next node is m; the room was o before. With k species it has
-- at most 2k - 1 nodes.
pub record Stands (R : Outcome) (k p at : ℕ) (o o' : List ℕ) (m : ℕ) : Type 0 where
  pub drawn : Tree
  pub is : R ≡ tree drawn
  pub next : m ≡ at + node_count drawn
  pub body : o' ≡ sets o (width * at) (bytes drawn p at)
  pub few : m + 1 ≤ at + 2 * k

-- the next node's number, or the set that stops
abbrev pub Grows : Outcome → ℕ → ℕ → ℕ → List ℕ → List ℕ → Result ℕ ℕ → Type 0
Grows R k p at o o' (Ok m) = Stands R k p at o o' m
Grows R k p at o o' (Err u) = R ≡ stop (has u)
