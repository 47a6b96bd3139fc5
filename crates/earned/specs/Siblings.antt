-- The groups of sibling nodes, as the code goes from node to node.
use Rattle.std.specs.Prelude.{Bool, MatchOption, Option, false, true, ◌≢◌, ◌≡◌, ℕ, ◌<◌}
use Rattle.trees.specs.Check.{JoinedBeside}
use Rattle.trees.specs.Triplets.{Triplets}
use Rattle.bodies.specs.Draws.{subtree}
use Rattle.bodies.specs.Nodes.{Nodes, none}

-- where node j is a sibling of node i, i's group is joined beside j's
abbrev pub Beside : Triplets → Nodes → ℕ → ℕ → Type 0
Beside E v i j = 0 < j → j < v.count → j ≢ i → v.parent j ≡ v.parent i → JoinedBeside E (subtree v i) (subtree v j)

-- node i has a sibling beside which its group is not joined
pub record NotJoined (E : Triplets) (v : Nodes) (i : ℕ) : Type 0 where
  pub sibling : ℕ
  pub later : 0 < sibling
  pub within : sibling < v.count
  pub other : sibling ≢ i
  pub parent : v.parent sibling ≡ v.parent i
  pub split : JoinedBeside E (subtree v i) (subtree v sibling) → ⊥

-- what the answer r says of node i
pub record SaysBeside (E : Triplets) (v : Nodes) (i : ℕ) (r : Bool) : Type 0 where
  pub joined : r ≡ true → (j : ℕ) → Beside E v i j
  pub apart : r ≡ false → NotJoined E v i

-- r is the first node but the root whose group is not joined beside some sibling's
pub record UnearnedNode (E : Triplets) (v : Nodes) (r : ℕ) : Type 0 where
  pub later : 0 < r
  pub within : r < v.count
  pub before : (i : ℕ) → 0 < i → i < r → (j : ℕ) → Beside E v i j
  pub inner : v.species r ≡ none
  pub apart : NotJoined E v r

-- r is that node; none where the group of each node but the root is joined beside every sibling's
abbrev pub FirstUnearnedNode : Triplets → Nodes → Option ℕ → Type 0
FirstUnearnedNode E v r = MatchOption r ((i : ℕ) → 0 < i → i < v.count → (j : ℕ) → Beside E v i j) (UnearnedNode E v)
