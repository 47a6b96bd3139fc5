-- The two builds. The plain build is document 01's, "Triplets, links, building": "To build S: one species is a leaf. With two or more, take the connected
-- parts. If there is one part, stop with no tree; otherwise each part becomes a child, by lowest species, and each part is then split again by the same
-- rule." "The refusal names the first set that stops, in preorder." Aho, Sagiv, Szymanski and Ullman (1981); source 000, l.194. The veto build is
-- request T-06's: "as ours, but where a set's links join it all, every species of that set becomes a leaf under it"; source 004, l.125 (Build_PC).
use Rattle.std.specs.Prelude.{Bool, true, false, List, [], ◌∷◌, ℕ, zero, suc, get_or}
use Rattle.sets.specs.Species.{Species, members}
use Rattle.trees.specs.Trees.{Tree, Forest, leaf, node, nil, cons}
use Rattle.trees.specs.Triplets.{Triplets}
use Rattle.trees.specs.Links.{lone, parts, joined}

pub data Outcome : Type 0 where
  tree : Tree → Outcome
  stop : Species → Outcome

-- the same for the children of one node
pub data Outcomes : Type 0 where
  trees : Forest → Outcomes
  stops : Species → Outcomes

-- the first that stops, in preorder, is the refusal
abbrev pub next : Outcome → Outcomes → Outcomes
next (stop U) r = stops U
next (tree t) (stops U) = stops U
next (tree t) (trees f) = trees (cons t f)

abbrev pub gather : (Species → Outcome) → List Species → Outcomes
gather g [] = trees nil
gather g (p ∷ ps) = next (g p) (gather g ps)

-- every species of the list a leaf
abbrev pub leaf_each : List ℕ → Forest
leaf_each [] = nil
leaf_each (x ∷ l) = cons (leaf x) (leaf_each l)

-- The one place where the two builds differ, a set whose links join it all: the plain build (false) stops with no tree; in the veto build (true) "every
-- species of that set becomes a leaf under it".
abbrev pub ending : Bool → ℕ → Species → Outcome
ending false N S = stop S
ending true N S = tree (node (leaf_each (members N S)))

-- one species x: a leaf; else all of the set joined: w; else a node over the parts
abbrev pub choose : Bool → Bool → ℕ → Outcome → Outcomes → Outcome
choose true j x w r = tree (leaf x)
choose false true x w r = w
choose false false x w (trees f) = tree (node f)
choose false false x w (stops U) = stop U

-- v: which of the two builds
module _ (v : Bool) (E : Triplets) (N : ℕ) where
  -- at most k levels; a part has fewer species than its set, so that N levels are enough
  unfoldable pub build_in : ℕ → Species → Outcome
  build_in zero S = ending v N S
  build_in (suc k) S = choose (lone (members N S)) (joined E N S) (get_or (members N S) 0 0) (ending v N S) (gather (λ p. build_in k p) (parts E N S))

  unfoldable pub build_by : Species → Outcome
  build_by S = build_in N S

-- the plain build, and the veto build
abbrev pub build : Triplets → ℕ → Species → Outcome
build = build_by false

abbrev pub veto : Triplets → ℕ → Species → Outcome
veto = build_by true
