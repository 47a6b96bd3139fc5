-- The working body of loosening: the first m nodes of a draft are a tree in house order. n: a number that all species are below.
use Rattle.std.proofs.Math.Bool.{So}
use Rattle.std.specs.Prelude.{List, ◌≡◌, ℕ, ◌+◌, length, take}
use Rattle.sets.specs.Species.{Below, Species}
use Rattle.trees.specs.Loosen.{drop}
use Rattle.trees.specs.Trees.{Tree, in_house_order, under, well_formed}
use Rattle.bodies.specs.Draws.{body_of, node_count, subtree, tree_of}
use Rattle.bodies.specs.Nodes.{body_length, nodes}

-- the group of node k of a tree's body
abbrev pub group_at : Tree → ℕ → Species
group_at T k = under (subtree (nodes (body_of T)) k)

-- the tree of the first m nodes of a draft
abbrev pub draft_tree : ℕ → List ℕ → Tree
draft_tree m draft = tree_of (take (body_length m) draft)

-- they are the body of a good tree in house order
pub record HouseDraft (n m : ℕ) (draft : List ℕ) : Type 0 where
  pub formed : So (well_formed (draft_tree m draft))
  pub below : Below n (under (draft_tree m draft))
  pub ordered : So (in_house_order (draft_tree m draft))
  pub count : node_count (draft_tree m draft) ≡ m
  pub body : take (body_length m) draft ≡ body_of (draft_tree m draft)

-- node k was dropped from the tree in `draft`: `draft'` has what is left
pub record NodeDropped (n m k : ℕ) (draft draft' : List ℕ) : Type 0 where
  pub size : length draft' ≡ length draft
  pub house : (m' : ℕ) → m' + 1 ≡ m → HouseDraft n m' draft'
  pub tree : (m' : ℕ) → m' + 1 ≡ m → draft_tree m' draft' ≡ drop n (group_at (draft_tree m draft) k) (draft_tree m draft)
