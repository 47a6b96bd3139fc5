-- The sets that a build visits, and how many triples it looks at. Request T-09: "Each build now also returns the number of triples it looked at: for every
-- set split, or found joined, the combinations of three of its species, added up. It equals that sum over the sets visited in order, up to any stop."
use Rattle.std.specs.Prelude.{Bool, cond, true, false, List, [], ◌∷◌, ◌++◌, ℕ, zero, suc, ◌+◌, length}
use Rattle.sets.specs.Species.{Species, members}
use Rattle.trees.specs.Trees.{Tree, Forest, leaf, node, nil, cons, under_f}
use Rattle.trees.specs.Triplets.{Triplets}
use Rattle.trees.specs.Links.{lone, parts, joined}
use Rattle.trees.specs.Build.{Outcome, tree, stop, build_in}
use Rattle.trees.specs.Combinations.{C}

-- one species: nothing is visited; else all of S joined: S, "found joined"; else S, "split", and then r, the visits to its parts
abbrev pub visit : Bool → Bool → Species → List Species → List Species
visit true j S r = []
visit false true S r = S ∷ []
visit false false S r = S ∷ r

abbrev pub stopped : Outcome → Bool
stopped (tree t) = false
stopped (stop U) = true

-- the visits h to the parts, part after part, "up to any stop": behind a part that stops (g is what the parts become) no other is visited
abbrev pub in_turn : (Species → Outcome) → (Species → List Species) → List Species → List Species
in_turn g h [] = []
in_turn g h (p ∷ ps) = h p ++ cond (stopped (g p)) [] (in_turn g h ps)

-- v: which of the two builds
module _ (v : Bool) (E : Triplets) (N : ℕ) where
  -- level by level as `build_in`, which takes a set for joined where no level is left
  unfoldable pub visited_in : ℕ → Species → List Species
  visited_in zero S = S ∷ []
  visited_in (suc k) S = visit (lone (members N S)) (joined E N S) S (in_turn (λ p. build_in v E N k p) (λ p. visited_in k p) (parts E N S))

  -- "the sets visited in order, up to any stop"
  unfoldable pub visited : Species → List Species
  visited S = visited_in N S

-- "the combinations of three of its species, added up"
abbrev pub triples : ℕ → List Species → ℕ
triples N [] = 0
triples N (U ∷ l) = C (length (members N U)) 3 + triples N l

-- "the number of triples it looked at"
unfoldable pub looked : Bool → Triplets → ℕ → Species → ℕ
looked v E N S = triples N (visited v E N S)

-- ---- what the theorems say of it

-- the groups of the inner nodes, in preorder
abbrev mutual
  pub inner_groups : Tree → List Species
  inner_groups (leaf x) = []
  inner_groups (node f) = under_f f ∷ inner_groups_f f

  pub inner_groups_f : Forest → List Species
  inner_groups_f nil = []
  inner_groups_f (cons t f) = inner_groups t ++ inner_groups_f f

-- "fully nested trees": at each node one leaf, and beside it the same again
pub data Nested : Tree → Type 0 where
  one : (x : ℕ) → Nested (leaf x)
  leaf_first : (x : ℕ) {t : Tree} → Nested t → Nested (node (cons (leaf x) (cons t nil)))
  leaf_last : (x : ℕ) {t : Tree} → Nested t → Nested (node (cons t (cons (leaf x) nil)))

-- the species 0 to k, each nested in the next
abbrev pub nest : ℕ → Tree
nest zero = leaf 0
nest (suc k) = node (cons (nest k) (cons (leaf (suc k)) nil))
