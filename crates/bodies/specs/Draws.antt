-- From nodes to the tree that they draw, and from a tree to its body. Document 01, "A tree's body and the collection".
use Rattle.std.specs.Prelude.{List, [], ◌∷◌, ◌++◌, ℕ, zero, suc, ◌+◌}
use Rattle.std.proofs.lemmas.List.Edits.{sets}
use Rattle.trees.specs.Trees.{Tree, Forest, leaf, node, nil, cons, house}
use Rattle.bodies.specs.Nodes.{Nodes, nodes, children, none, leaf_bytes, inner_bytes}

-- the trees at some nodes, side by side
abbrev pub forest_of : (ℕ → Tree) → List ℕ → Forest
forest_of t [] = nil
forest_of t (i ∷ l) = cons (t i) (forest_of t l)

-- a node with this species and these children
abbrev pub grow : ℕ → Forest → Tree
grow s nil = leaf s
grow s (cons t f) = node (cons t f)

-- the tree under node i, k levels down, children in node order
unfoldable pub tree_at : Nodes → ℕ → ℕ → Tree
tree_at v zero i = leaf (v.species i)
tree_at v (suc k) i = grow (v.species i) (forest_of (λ j. tree_at v k j) (children v i))

-- no node lies deeper than there are nodes
abbrev pub subtree : Nodes → ℕ → Tree
subtree v i = tree_at v v.count i

-- the tree of a body
abbrev pub tree_of : List ℕ → Tree
tree_of b = subtree (nodes b) 0

-- how many nodes a tree has
abbrev mutual
  pub node_count : Tree → ℕ
  node_count (leaf x) = 1
  node_count (node f) = suc (node_count_f f)

  pub node_count_f : Forest → ℕ
  node_count_f nil = 0
  node_count_f (cons t f) = node_count t + node_count_f f

-- the bytes of a tree in preorder: its own node has the number at, and the parent p
abbrev mutual
  pub bytes : Tree → ℕ → ℕ → List ℕ
  bytes (leaf x) p at = leaf_bytes p x
  bytes (node f) p at = inner_bytes p ++ bytes_f f at (suc at)

  pub bytes_f : Forest → ℕ → ℕ → List ℕ
  bytes_f nil p at = []
  bytes_f (cons t f) p at = bytes t p at ++ bytes_f f p (at + node_count t)

-- the body of a tree
abbrev pub body_of : Tree → List ℕ
body_of t = bytes t none 0

-- the house-order body of a body
abbrev pub ordered : List ℕ → List ℕ
ordered b = body_of (house (tree_of b))

-- the room o once the body b was written: "order and build write the body and change nothing behind it"
abbrev pub written : List ℕ → List ℕ → List ℕ
written o b = sets o 0 b
