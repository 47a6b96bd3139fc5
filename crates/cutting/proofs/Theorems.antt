-- What is written of a paper that has a species of the set: the text of a tree that says of those species what the paper says, and no longer than any text.
-- Assumes nothing.
use mathlib.Core.Bool.{So, ◌&&◌}
use mathlib.Core.List.{List, [], ◌∷◌, ◌++◌}
use mathlib.Core.Logic.{◌↔◌}
use mathlib.Core.Path.{◌∙◌, ◌≡◌, ap, subst, sym}
use Prim.Native.Nat.{ℕ, ◌<◌, ◌≤◌}
use lib.ListN.{length}
use Rattle.sets.proofs.Bools.{and_l}
use Rattle.sets.specs.Species.{Species}
use Rattle.trees.proofs.Cut.{cut_formed, cut-says, cut-says-only, cut_some, cut-under}
use Rattle.trees.proofs.CutGroups.{cut-groups}
use Rattle.trees.proofs.Groups.{same_holds}
use Rattle.trees.proofs.Theorems.{house_order}
use Rattle.trees.specs.Cut.{Touches}
use Rattle.trees.specs.Trees.{Forest, Group, Tree, house, under, well_formed}
use Rattle.trees.specs.Triplets.{holds}
use Rattle.bodies.proofs.Drawn.{tree_below, tree_formed}
use Rattle.bodies.specs.Draws.{tree_of}
use Rattle.bodies.specs.Nodes.{Good, nodes}
use Rattle.rendering.proofs.Lengths.{text_longest}
use Rattle.rendering.specs.Texts.{text_of, text_room}
use Rattle.cutting.specs.Texts.{cut_text, first_text}

-- t is what is left of the tree of the body b
pub record CutRight (b : List ℕ) (U : Species) (t : Tree) : Type 0 where
  pub text : cut_text U (house (tree_of b)) ++ (59 ∷ []) ≡ text_of t
  pub formed : So (well_formed t)
  pub species : (x : ℕ) → under t x ≡ (under (tree_of b) x && U x)
  pub says : (x y z : ℕ) → So (U x) → So (U y) → So (U z) → holds t x y z ≡ holds (tree_of b) x y z
  pub only : (x y z : ℕ) → So (holds t x y z) → So (U x) × So (U y) × So (U z)
  pub groups : (G : Species) → Group t G ↔ ((H : Species) × Group (tree_of b) H × (G ≡ (λ x. H x && U x)) × ((x : ℕ) × So (G x)))

module _ (b : List ℕ) (g : Good 64 (nodes b)) (h : 0 < (nodes b).count) (U : Species) (t : Touches U (tree_of b)) where
  pub cut_right : (t' : Tree) × CutRight b U t'
  cut_right =
      let o = house_order (tree_of b) (tree_formed 64 (nodes b) g h) in
      let w = house (tree_of b) in
      let (t', e) = cut_some U w (t.0, o.species t.0 ∙ t.1, t.2) in (
        t',
        record {
          text = ap (λ (f : Forest). first_text f ++ (59 ∷ [])) e;
          formed = cut_formed U w t' e o.formed;
          species = λ x. cut-under U w t' e x ∙ ap (λ z. z && U x) (o.species x);
          says = λ x y z p q r. cut-says U w t' e x y z p q r ∙ same_holds w (tree_of b) o.groups x y z;
          only = cut-says-only U w t' e;
          groups = λ G. let k = cut-groups U w t' e o.formed G in (
            (λ m. let r = k.0 m in (r.0, (o.groups r.0).0 r.1, r.2, r.3)),
            λ r. k.1 (r.0, (o.groups r.0).1 r.1, r.2, r.3),
          );
        },
      )

  pub cut-longest : length (cut_text U (house (tree_of b)) ++ (59 ∷ [])) ≤ text_room
  cut-longest =
      let (t', r) = cut_right in
      subst (λ (l : List ℕ). length l ≤ text_room) (sym r.text)
      (text_longest t' r.formed (λ x k. tree_below 64 (nodes b) g h x (and_l (under (tree_of b) x) _ (sym (r.species x) ∙ k))))
