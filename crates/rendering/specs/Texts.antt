-- The text of a tree. Request T-02: "Newick without lengths or blanks, in house order, semicolon last".
use Rattle.std.specs.Prelude.{List, [], ◌∷◌, ◌++◌, ℕ}
use Rattle.trees.specs.Trees.{Tree, Forest, leaf, node, nil, cons, house}
use Rattle.bodies.specs.Draws.{tree_of}
use Rattle.writing.specs.Texts.{decimal}

-- a leaf is its species number; the sign m stands before the first child, a comma before each other one: 40 and 41 are the brackets, 44 is the comma
abbrev mutual
  pub subtree_text : Tree → List ℕ
  subtree_text (leaf x) = decimal x
  subtree_text (node f) = children_text 40 f

  pub children_text : ℕ → Forest → List ℕ
  children_text m nil = 41 ∷ []
  children_text m (cons t f) = m ∷ (subtree_text t ++ children_text 44 f)

-- 59 is the semicolon
abbrev pub text_of : Tree → List ℕ
text_of t = subtree_text t ++ (59 ∷ [])

-- the text of a body
abbrev pub newick_text : List ℕ → List ℕ
newick_text b = text_of (house (tree_of b))

-- no text of 64 species or fewer is longer: 118 digits, 63 brackets that open and 63 that close, 63 commas, and the semicolon
abbrev pub text_room : ℕ
text_room = 308
