-- The nodes of a body and the tree rules. Document 01, "A tree's body and the collection".
use Rattle.std.specs.Prelude.{◌≡◌, Bool, ◌||◌, not, List, [], ◌∷◌, ℕ, ◌+◌, ◌-◌, ◌*◌, ◌/◌, ◌%◌, ◌≤◌, ◌<◌, eqb, ltb, length, get_or}
use Rattle.sets.specs.Species.{from}
use Rattle.bodies.specs.declared.Node.{Node}

-- nodes by their numbers: how many, and of each its parent and its species
pub record Nodes : Type 0 where
  pub count : ℕ
  pub parent : ℕ → ℕ
  pub species : ℕ → ℕ

-- the one definition that reads nodes from bytes: an entry has w bytes, first the parent, then the species
abbrev pub nodes_of : ℕ → List ℕ → Nodes
nodes_of w b = record { count = length b / w; parent = λ i. get_or b (w * i) 0; species = λ i. get_or b (w * i + 1) 0 }

-- "A body is two bytes a node: parent, species."
abbrev pub width : ℕ
width = 2

abbrev pub nodes : List ℕ → Nodes
nodes b = nodes_of width b

-- one of them
abbrev pub node_at' : Nodes → ℕ → Node
node_at' v i = record { parent = v.parent i; species = v.species i }

-- at most two nodes a species, less one, and at most 64 species: 127 nodes
abbrev pub most_nodes : ℕ
most_nodes = 127

-- the length of a body of k nodes
abbrev pub body_length : ℕ → ℕ
body_length k = width * k

-- the longest body: 254 bytes
abbrev pub longest : ℕ
longest = body_length most_nodes

-- "A body has 2 to 254 bytes, always an even number"; "body length 0, odd or over 254"
abbrev pub bad_length : ℕ → Bool
bad_length l = eqb l 0 || (not (eqb (l % width) 0) || ltb longest l)

-- the root's parent, and the species of a node with children
abbrev pub none : ℕ
none = 255

-- the one definition that spells the bytes of a node, in the order that `nodes_of` reads them
abbrev pub node_bytes : ℕ → ℕ → List ℕ
node_bytes p s = p ∷ s ∷ []

-- under the parent p: a leaf with the species x, a node with children, and the node v, whatever its own parent
abbrev pub leaf_bytes : ℕ → ℕ → List ℕ
leaf_bytes p x = node_bytes p x

abbrev pub inner_bytes : ℕ → List ℕ
inner_bytes p = node_bytes p none

abbrev pub under_bytes : ℕ → Node → List ℕ
under_bytes p v = node_bytes p v.species

-- the room that the body of any tree of s species fits into: 4s - 2 bytes
abbrev pub room_for : ℕ → ℕ
room_for s = body_length (2 * s - 1)

-- the nodes with parent i, among the k nodes from j on
abbrev pub children_among : Nodes → ℕ → ℕ → ℕ → List ℕ
children_among v i k j = from j k (λ x. eqb (v.parent x) i)

-- the children of i, in node order; node 0 is nobody's child (shut, so that it does not unfold where the count is a numeral)
unfoldable pub children : Nodes → ℕ → List ℕ
children v i = children_among v i (v.count - 1) 1

-- a good body, in document 01's sentences
pub record Good (n : ℕ) (v : Nodes) : Type 0 where
  -- "Node 0 is the root, with parent 255."
  pub root : 0 < v.count → v.parent 0 ≡ 255
  -- "Every later node's parent is a smaller node number."
  pub later : (i : ℕ) → 0 < i → i < v.count → v.parent i < i
  -- "A node with children has species 255 and at least two children."
  pub inner : (i : ℕ) → i < v.count → 0 < length (children v i) → v.species i ≡ 255
  pub two : (i : ℕ) → i < v.count → 0 < length (children v i) → 2 ≤ length (children v i)
  -- "A node without children has a species below n, .."
  pub outer : (i : ℕ) → i < v.count → length (children v i) ≡ 0 → v.species i < n
  -- ".. and no species stands twice."
  pub once : (i j : ℕ) → i < j → j < v.count → length (children v i) ≡ 0 → length (children v j) ≡ 0 → v.species i ≡ v.species j → ⊥
