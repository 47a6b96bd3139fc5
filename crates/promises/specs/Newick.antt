-- Newick text, in words over texts and trees: nothing here mentions how a text is read or written. Request T-01: "The body is in the text's order; the
-- node count is returned"; "14 with the byte place, for text over length (place 4,096, before any other place) or against these rules or limits". Request
-- T-02: "Write any good body as Newick without lengths or blanks, in house order, semicolon last, and return the text's length."
use Rattle.std.specs.Prelude.{List, [], ◌∷◌, ◌↔◌, ◌⊎◌, ◌≡◌, ℕ, ◌≤◌, drop, length, take}
use Rattle.trees.specs.Trees.{SameGroups, Tree, house}
use Rattle.bodies.specs.Draws.{body_of, ordered, tree_of, written}
use Rattle.bodies.specs.Nodes.{nodes}
use Rattle.newick.specs.Form.{Form}
use Rattle.newick.specs.Texts.{Readable, RefusedAt}
use Rattle.refusals.specs.Told.{byte_place, number_of_nodes, text_length, told, value}
use Rattle.answers.specs.Inputs.{Body, Count}
use Rattle.rendering.specs.Texts.{newick_text, text_room}
use Rattle.promises.specs.Operations.{Given, Operations, Parser, Renderer, gives}
use Rattle.promises.specs.Inputs.{Parsable, Renderable}
use Rattle.promises.specs.Demand2.{Wrote, front}

-- ---- reading a text

-- a good body was written, which draws the tree of the text w, its nodes in the text's order
pub record DrawsText (n : ℕ) (w o : List ℕ) (g : Given) : Type 0 where
  pub tree : Tree
  pub text : Readable w tree
  pub count : ℕ
  pub told_is : g.told ≡ told 0 (value number_of_nodes count ∷ [])
  pub wrote : Wrote n count o g.after
  pub body : front count g.after ≡ body_of tree
  pub draws : tree_of (front count g.after) ≡ tree

pub record ParsesRight (n : ℕ) (w o : List ℕ) (g : Given) : Type 0 where
  -- a text of the form, within the limits, is read, or refused for its tree or the room
  pub reads : ((g.told.number ≡ 0) ⊎ ((g.told.number ≡ 6) ⊎ (g.told.number ≡ 9))) ↔ ((t : Tree) × Readable w t)
  -- and every other one is refused at its place
  pub refuses : (p : ℕ) → (g.told ≡ told 14 (value byte_place p ∷ [])) ↔ RefusedAt w p
  pub done : (g.told.number ≡ 0) ↔ Parsable n w o
  pub draws : g.told.number ≡ 0 → DrawsText n w o g

abbrev pub ParsesAll : Parser → Type 0
ParsesAll f = (n : ℕ) (w o : List ℕ) → Count n → ParsesRight n w o (f n w o)

-- ---- writing a text

-- a call gave back the length of the text w, which stands at the front of the room
pub record WroteText (w : List ℕ) (g : Given) : Type 0 where
  pub told_is : g.told ≡ told 0 (value text_length (length w) ∷ [])
  pub stands : take (length w) g.after ≡ w

-- for the body b and the room o
pub record RendersRight (b o : List ℕ) (g : Given) : Type 0 where
  pub text : List ℕ
  pub wrote : WroteText text g
  pub behind : drop (length text) g.after ≡ drop (length text) o
  -- a text that request T-01 reads, of the body's tree in house order
  pub form : Form (house (tree_of b)) text
  -- "without lengths or blanks"
  pub exact : text ≡ newick_text b

abbrev pub RendersAll : Renderer → Type 0
RendersAll f = (n : ℕ) (b o : List ℕ) → Renderable n b o → RendersRight b o (f n b o)

-- "Reading what was written gives the house-order body": w is what was written, p a room that is long enough
abbrev pub ReadsBack : Renderer → Parser → Type 0
ReadsBack f h = (n : ℕ) (b o : List ℕ) → Renderable n b o → (w : List ℕ) → WroteText w (f n b o)
    → (p : List ℕ) → length b ≤ length p → h n w p ≡ gives (told 0 (value number_of_nodes (nodes b).count ∷ [])) (written p (ordered b))

-- "Two good bodies give equal text exactly when they have the same groups."
abbrev pub SameText : Renderer → Type 0
SameText f = (n : ℕ) (b b' o o' : List ℕ) → Renderable n b o → Renderable n b' o'
    → (w w' : List ℕ) → WroteText w (f n b o) → WroteText w' (f n b' o') → (w ≡ w') ↔ SameGroups (tree_of b) (tree_of b')

-- no text is longer than `text_room`, so that a room of that length is always enough; a shorter one is not
pub record LongestText (f : Renderer) : Type 0 where
  pub most : (n : ℕ) (b o : List ℕ) → Renderable n b o → (w : List ℕ) → WroteText w (f n b o) → length w ≤ text_room
  pub enough : (n : ℕ) (b o : List ℕ) → Count n → Body n b → text_room ≤ length o → (f n b o).told.number ≡ 0
  pub reached : (b : List ℕ) × Body 64 b × ((o : List ℕ) → text_room ≤ length o → (f 64 b o).told ≡ told 0 (value text_length text_room ∷ []))

pub record Newick (L : Operations) : Type 0 where
  pub parsing : ParsesAll L.parse
  pub rendering : RendersAll L.render
  pub back : ReadsBack L.render L.parse
  pub same_text : SameText L.render
  pub longest : LongestText L.render
