-- The byte place of refusal 14, over the texts of the form. Request T-01: "The byte place is the earliest of: the first byte that no text of this form
-- has there, limits aside (the text's length where it ends early); the bracket one too deep; the first sign of the 128th node; the digit that takes a
-- number past 254."
use Rattle.std.specs.Prelude.{List, [], ◌∷◌, ◌++◌, ◌≡◌, ℕ, suc, ◌+◌, ◌*◌, ◌<◌, length, take}
use Rattle.trees.specs.Trees.{Tree}
use Rattle.bodies.specs.Nodes.{most_nodes}
use Rattle.newick.specs.Form.{Form}
use Rattle.newick.specs.Signs.{Sign, sign, pick}

-- some text of the form begins with u
abbrev pub Begins : List ℕ → Type 0
Begins u = (t : Tree) × (v : List ℕ) × Form t (u ++ v)

-- how many brackets a text opens, and how many it closes
abbrev pub opens : List ℕ → ℕ
opens [] = 0
opens (b ∷ u) = pick 0 (λ x. 0) 1 0 0 0 0 0 0 (sign b) + opens u

abbrev pub closes : List ℕ → ℕ
closes [] = 0
closes (b ∷ u) = pick 0 (λ x. 0) 0 1 0 0 0 0 0 (sign b) + closes u

-- where a text has got to: where a subtree may begin; in a species number, with this value so far; elsewhere
pub data Spot : Type 0 where
  fresh : Spot
  in_number : ℕ → Spot
  elsewhere : Spot

-- the spot behind a blank, and behind a digit
abbrev pub blanked : Spot → Spot
blanked fresh = fresh
blanked (in_number v) = elsewhere
blanked elsewhere = elsewhere

abbrev pub figured : ℕ → Spot → Spot
figured x fresh = in_number x
figured x (in_number v) = in_number (10 * v + x)
figured x elsewhere = elsewhere

-- a subtree may begin behind an opening bracket and a comma
abbrev pub onward : Spot → Sign → Spot
onward p s = pick (blanked p) (λ x. figured x p) fresh elsewhere fresh elsewhere elsewhere elsewhere elsewhere s

unfoldable pub spot : Spot → List ℕ → Spot
spot p [] = p
spot p (b ∷ u) = spot (onward p (sign b)) u

-- does a node begin with this sign? 1 or 0
abbrev pub node_begins : Spot → Sign → ℕ
node_begins fresh s = pick 0 (λ x. 1) 1 0 0 0 0 0 0 s
node_begins (in_number v) s = 0
node_begins elsewhere s = 0

-- how many nodes begin in a text
unfoldable pub nodes_begun : Spot → List ℕ → ℕ
nodes_begun p [] = 0
nodes_begun p (b ∷ u) = node_begins p (sign b) + nodes_begun (onward p (sign b)) u

-- what can be wrong at place p of the text w: at one of its bytes, or at its length
pub data Wrong (w : List ℕ) (p : ℕ) : Type 0 where
  -- "the first byte that no text of this form has there, limits aside"
  stray : p < length w → (Begins (take (suc p) w) → ⊥) → Wrong w p
  -- "the text's length where it ends early"
  early : p ≡ length w → ((t : Tree) → Form t w → ⊥) → Wrong w p
  -- "the bracket one too deep": more than 63 are open
  deep : p < length w → 63 + closes (take (suc p) w) < opens (take (suc p) w) → Wrong w p
  -- "the first sign of the 128th node"
  many : p < length w → most_nodes < nodes_begun fresh (take (suc p) w) → Wrong w p
  -- "the digit that takes a number past 254"
  large : (v : ℕ) → p < length w → spot fresh (take (suc p) w) ≡ in_number v → 254 < v → Wrong w p

-- "the earliest of"
pub record Place (w : List ℕ) (p : ℕ) : Type 0 where
  pub wrong : Wrong w p
  pub first : (q : ℕ) → q < p → Wrong w q → ⊥
