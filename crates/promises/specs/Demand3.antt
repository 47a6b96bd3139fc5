-- Demand 3: listing loses nothing. Two good trees with every species give the same table exactly when they have the same groups; from such a table, with
-- the room named, the builder never refuses and returns that tree's groups and no others, in house order. Request T-03: "demands 2 and 3 [..] read 'exactly
-- the species of the set' for 'every species' [..], and demand 3's builder is handed that set".
use Rattle.std.specs.Prelude.{List, [], ◌∷◌, ◌↔◌, ◌≡◌, ℕ, ◌≤◌, ◌/◌, ◌%◌, length}
use Rattle.sets.specs.Sets.{has, size}
use Rattle.trees.specs.Trees.{SameGroups, under}
use Rattle.triples.specs.Index.{C}
use Rattle.bodies.specs.Draws.{ordered, tree_of}
use Rattle.bodies.specs.Nodes.{room_for}
use Rattle.refusals.specs.Told.{looked_count, number_of_nodes, told, value}
use Rattle.promises.specs.Operations.{Given, Lister, Operations}
use Rattle.answers.specs.Inputs.{Body, Count}
use Rattle.promises.specs.Demand2.{Wrote, front}

-- the body of a good tree with exactly the species of the set s
pub record Full (n s : ℕ) (b : List ℕ) : Type 0 where
  pub body : Body n b
  pub every : (x : ℕ) → under (tree_of b) x ≡ has s x

-- the collection of one tree
abbrev pub alone : ℕ → List ℕ → List ℕ
alone n b = 1 ∷ n ∷ 1 ∷ length b / 256 ∷ length b % 256 ∷ b

-- its table, as f lists it over what t held
abbrev pub table_of : Lister → ℕ → List ℕ → List ℕ → List ℕ
table_of f n b t = (f (alone n b) t).after

-- that tree's house-order body, with its groups and no others, was written
pub record Returns (n : ℕ) (b o : List ℕ) (g : Given) : Type 0 where
  pub count : ℕ
  pub looked : ℕ
  pub told_is : g.told ≡ told 0 (value number_of_nodes count ∷ value looked_count looked ∷ [])
  pub wrote : Wrote n count o g.after
  pub body : front count g.after ≡ ordered b
  pub groups : SameGroups (tree_of (front count g.after)) (tree_of b)

pub record Demand3 (L : Operations) : Type 0 where
  pub known : (n s : ℕ) (b b' t t' : List ℕ) → Count n → Full n s b → Full n s b' → length t ≡ C n 3 → length t' ≡ C n 3
      → (table_of L.list n b t ≡ table_of L.list n b' t') ↔ SameGroups (tree_of b) (tree_of b')
  pub rebuilt : (n s : ℕ) (b t o : List ℕ) → Count n → Full n s b → length t ≡ C n 3 → room_for (size s) ≤ length o
      → Returns n b o (L.build n s (table_of L.list n b t) o)
