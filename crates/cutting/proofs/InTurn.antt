-- The text of a cut node, child by child in house order: what was written and what is still to be written make the whole. Assumes nothing.
use mathlib.Core.Bool.{Bool, So, cond, true}
use mathlib.Core.List.{List, [], ◌∷◌, ◌++◌, append_assoc}
use mathlib.Core.Logic.{◌≢◌}
use mathlib.Core.Path.{◌∙◌, ◌≡◌, ap, refl, subst, sym}
use Prim.Native.Nat.{◌<◌, ℕ}
use borrow.Author.Tests.{eqb-true}
use lib.Dec.{eqb}
use lib.ListN.{get_or}
use Rattle.sets.specs.Species.{Species}
use Rattle.trees.proofs.Cut.{cut-none, cut_some}
use Rattle.trees.proofs.CutRule.{cut_forks}
use Rattle.trees.proofs.House.{house-under}
use Rattle.trees.proofs.Kids.{every_child}
use Rattle.trees.specs.Cut.{Touches, cut, cut_f}
use Rattle.trees.specs.Loosen.{append}
use Rattle.trees.specs.Trees.{Forest, Tree, cons, house, leaf, nil, under}
use Rattle.bodies.proofs.Under.{is_child}
use Rattle.bodies.specs.Draws.{subtree}
use Rattle.bodies.specs.Nodes.{Good, Nodes, children, none}
use Rattle.groups.specs.Groups.{Groups}
use Rattle.children.proofs.Left.{KidOf, Left, Opened, alone, every_kid, housed, left_end, left-next, left-start, opened, parted}
use Rattle.children.specs.Children.{Gives}
use Rattle.std.proofs.Common.{None, Some}
use Rattle.writing.proofs.Writing.{writes, wrote_on_nothing}
use Rattle.writing.specs.Pages.{Page, wrote_on}
use Rattle.writing.specs.Texts.{decimal}
use Rattle.rendering.specs.Texts.{children_text}
use Rattle.cutting.specs.Descends.{Descends}
use Rattle.cutting.specs.Texts.{cut_text, first_text}
use Rattle.cutting.proofs.Descending.{same_under}

-- the text of the tree under node i, cut to the species of U
abbrev pub text_at : Nodes → Species → ℕ → List ℕ
text_at v U i = cut_text U (house (subtree v i))

-- o was the room, and is d now, with some of the text of node i from `at` on; the sign m stands before the next child that is touched
pub record Todo (v : Nodes) (U : Species) (i : ℕ) (o d : Page) (m rest : ℕ) : Type 0 where
  pub forest : Forest
  pub left : Left v i rest forest
  pub done : List ℕ
  pub told : d ≡ wrote_on o done
  pub whole : done ++ children_text m (cut_f U forest) ≡ text_at v U i

-- the next child is c: what is to do once it was written, where it is touched, and once it was passed
pub record Next {v : Nodes} {U : Species} {i : ℕ} {o d : Page} {m rest : ℕ} (t : Todo v U i o d m rest) (c rest' : ℕ) : Type 0 where
  pub later : i < c
  pub within : c < v.count
  pub touched : Touches U (subtree v c) → (d' d'' : Page) → d' ≡ wrote_on d (m ∷ []) → d'' ≡ wrote_on d' (text_at v U c) → Todo v U i o d'' 44 rest'
  pub passed : (Touches U (subtree v c) → ⊥) → Todo v U i o d m rest'

module _ (v : Nodes) (g : Good 64 v) where
  module _ (U : Species) where
    house_touches : (i : ℕ) → Touches U (subtree v i) → Touches U (house (subtree v i))
    house_touches i t = (t.0, house-under (subtree v i) t.0 ∙ t.1, t.2)

    module _ (groups : List ℕ) (q : Groups v groups) {i : ℕ} {o d : Page} {m rest : ℕ} (t : Todo v U i o d m rest) where
      -- the child that comes
      pub todo_next : (c rest' : ℕ) → Gives v groups i rest (Some c) rest' → Next t c rest'
      todo_next c rest' found =
          let n = left-next v g groups q t.left c found in
          let left : t.done ++ children_text m (append (cut U (house (subtree v c))) (cut_f U n.others)) ≡ text_at v U i
          = ap (λ (f : Forest). t.done ++ children_text m (cut_f U f)) (sym n.is) ∙ t.whole in
          record {
            later = n.later;
            within = n.within;
            touched = λ h d' d'' a b.
                let s = cut_some U (house (subtree v c)) (house_touches c h) in
                let e : t.done ++ (m ∷ (text_at v U c ++ children_text 44 (cut_f U n.others))) ≡ text_at v U i
                = ap (λ (f : Forest). t.done ++ (m ∷ (first_text f ++ children_text 44 (cut_f U n.others)))) s.1
                ∙ ap (λ (f : Forest). t.done ++ children_text m (append f (cut_f U n.others))) (sym s.1) ∙ left in
                record {
                  forest = n.others;
                  left = n.left;
                  done = t.done ++ (m ∷ text_at v U c);
                  told = simp (b, a, t.told, writes);
                  whole = append_assoc t.done (m ∷ text_at v U c) (children_text 44 (cut_f U n.others)) ∙ e;
                };
            passed = λ no. record {
              forest = n.others;
              left = n.left;
              done = t.done;
              told = t.told;
              whole = ap (λ (f : Forest). t.done ++ children_text m (append f (cut_f U n.others)))
                  (sym (cut-none U (house (subtree v c)) (λ h. no (h.0, sym (house-under (subtree v c) h.0) ∙ h.1, h.2)))) ∙ left;
            };
          }

      -- no child is left: a bracket closes the text
      pub todo_end : (rest' : ℕ) → Gives v groups i rest None rest' → (d' : Page) → d' ≡ wrote_on d (41 ∷ []) → d' ≡ wrote_on o (text_at v U i)
      todo_end rest' over d' a =
          let whole = ap (λ (f : Forest). t.done ++ children_text m (cut_f U f)) (sym (left_end v g groups q t.left rest' over)) ∙ t.whole in
          simp (a, t.told, writes) (ap (wrote_on o) whole)

    module _ {i r : ℕ} (d : Descends v U i r v.count) (touch : Touches U (subtree v i)) where
      -- where the search went down to has the same text
      pub same_text : text_at v U r ≡ text_at v U i
      same_text = ap first_text d.same

      there : Touches U (subtree v r)
      there = (touch.0, same_under v g U i r (sym d.same) touch.0 touch.2 touch.1, touch.2)

      -- a leaf's text is its species number
      pub leaf_text : v.species r ≢ none → decimal (v.species r) ≡ text_at v U i
      leaf_text n = by (opened v g r d.within) ∙ same_text
        where
          by : Opened v r → decimal (v.species r) ≡ text_at v U r
          by (alone k e t) =
              let h = there in
              let own : U (v.species r) ≡ true = subst (λ (z : ℕ). So (U z)) (sym (eqb-true (v.species r) h.0 (subst (λ (z : Tree). So (under z h.0)) t h.1))) h.2 in
              sym (ap (λ (z : Tree). cut_text U (house z)) t ∙ ap (λ (b : Bool). first_text (cond b (cons (leaf (v.species r)) nil) nil)) own)
          by (parted k t) = absurd (n k)

      -- nothing of a node with children was written yet
      pub todo_start : (groups : List ℕ) → Groups v groups → v.species r ≡ none → (o : Page) (rest : ℕ)
          → rest ≡ cond (eqb (v.species r) none) (get_or groups r 0) 0 → Todo v U r o o 40 rest
      todo_start groups q n o rest e = by (opened v g r d.within)
        where
          by : Opened v r → Todo v U r o o 40 rest
          by (alone k c t) = absurd (k n)
          by (parted k t) = record {
            forest = _;
            left = left-start v g r d.within groups q (v.species r) rest refl e;
            done = [];
            told = sym (wrote_on_nothing o);
            whole = sym (ap first_text (ap (λ (z : Tree). cut U (house z)) t ∙ cut_forks U (housed v (children v r)) (subst (λ (z : Tree). Touches U (house z)) t (house_touches r there))
                (λ s m all. let (c, ch, es) = every_child (KidOf v r) s (housed v (children v r)) (every_kid v r (children v r) (is_child v r)) m in
                d.parts c ch.within ch.later ch.parent (λ x p u. sym (house-under (subtree v c) x) ∙ ap (λ (z : Tree). under z x) (sym es)
                ∙ all x (ap (λ (z : Tree). under (house z) x) (sym t) ∙ house-under (subtree v r) x ∙ same_under v g U i r (sym d.same) x u p) u))));
          }
