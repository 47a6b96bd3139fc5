-- What holds of the text of a good body. Each law is to be read alone. Assumes nothing.
use mathlib.Core.List.{List}
use mathlib.Core.Logic.{◌↔◌}
use mathlib.Core.Path.{◌∙◌, ◌≡◌, ap, subst, sym}
use Prim.Native.Nat.{ℕ, ◌≤◌}
use native.Mathlib.Omega.{arith}
use lib.ListN.{length}
use Rattle.sets.specs.Species.{Below}
use Rattle.trees.proofs.Theorems.{HouseOrder, house_order, known_by_house}
use Rattle.trees.specs.Trees.{SameGroups, house, under}
use Rattle.bodies.proofs.Drawn.{tree_below}
use Rattle.bodies.proofs.Houses.{good_formed, ordered-groups}
use Rattle.bodies.proofs.Good.{length_good}
use Rattle.bodies.specs.Draws.{tree_of}
use Rattle.bodies.specs.Nodes.{nodes}
use Rattle.newick.proofs.Theorems.{one_body}
use Rattle.newick.specs.Form.{Form}
use Rattle.newick.specs.Within.{Within}
use Rattle.answers.specs.Inputs.{Body, Count}
use Rattle.rendering.specs.Texts.{newick_text, text_of, text_room}
use Rattle.rendering.proofs.Forms.{formed_within, text_form}
use Rattle.rendering.proofs.Lengths.{text_longest}

module _ {n : ℕ} {b : List ℕ} (c : Count n) (g : Body n b) where
  in_house : HouseOrder (tree_of b) (house (tree_of b))
  in_house = house_order (tree_of b) (good_formed n c.most b g.good g.long)

  below : Below 64 (under (house (tree_of b)))
  below x h = omega (arith, tree_below n (nodes b) g.good (length_good b g.long).0 x (sym (in_house.species x) ∙ h), c.most)

  -- the text is one of the form of request T-01, and of the body's tree in house order
  pub body_form : Form (house (tree_of b)) (newick_text b)
  body_form = text_form (house (tree_of b)) in_house.formed (λ x h. omega (arith, below x h))

  -- that tree is within the limits of reading
  pub body_within : Within (house (tree_of b))
  body_within = formed_within (house (tree_of b)) in_house.formed below

  pub body_longest : length (newick_text b) ≤ text_room
  body_longest = text_longest (house (tree_of b)) in_house.formed below

-- "Two good bodies give equal text exactly when they have the same groups."
pub same_text : {n : ℕ} {b b' : List ℕ} → Count n → Body n b → Body n b' → (newick_text b ≡ newick_text b') ↔ SameGroups (tree_of b) (tree_of b')
same_text {n = n} {b = b} {b' = b'} c g g' = (
  (λ e. (ordered-groups n c.most b b' g.good g'.good g.long g'.long).1
      (one_body (newick_text b) (house (tree_of b)) (house (tree_of b')) (body_form c g) (subst (Form (house (tree_of b'))) (sym e) (body_form c g')))),
  λ s. ap text_of ((known_by_house (tree_of b) (tree_of b') (good_formed n c.most b g.good g.long) (good_formed n c.most b' g'.good g'.long)).0 s),
)
