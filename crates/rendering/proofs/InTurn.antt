-- The text of a node, child by child in house order: what was written and what is still to be written make the whole. Assumes nothing.
use mathlib.Core.Bool.{cond}
use mathlib.Core.List.{List, [], ◌∷◌, ◌++◌, append_assoc}
use mathlib.Core.Logic.{◌≢◌}
use mathlib.Core.Path.{◌∙◌, ◌≡◌, ap, refl, sym}
use Prim.Native.Nat.{◌<◌, ℕ}
use lib.Dec.{eqb}
use lib.ListN.{get_or}
use Rattle.trees.specs.Trees.{Forest, Tree, house}
use Rattle.bodies.specs.Draws.{subtree}
use Rattle.bodies.specs.Nodes.{Good, Nodes, none}
use Rattle.groups.specs.Groups.{Groups}
use Rattle.std.proofs.Common.{None, Some}
use Rattle.children.specs.Children.{Gives}
use Rattle.children.proofs.Left.{Left, Opened, alone, left_end, left-next, left-start, opened, parted}
use Rattle.writing.proofs.Writing.{writes, wrote_on_nothing}
use Rattle.writing.specs.Pages.{Page, wrote_on}
use Rattle.writing.specs.Texts.{decimal}
use Rattle.rendering.specs.Texts.{children_text, subtree_text}

-- the text of the tree under node i
abbrev pub text_at : Nodes → ℕ → List ℕ
text_at v i = subtree_text (house (subtree v i))

-- o was the draft, and is d now, with some of the text of node i behind it; the sign m stands before the next child
pub record Todo (v : Nodes) (i : ℕ) (o d : Page) (m rest : ℕ) : Type 0 where
  pub forest : Forest
  pub left : Left v i rest forest
  pub done : List ℕ
  pub told : d ≡ wrote_on o done
  pub whole : done ++ children_text m forest ≡ text_at v i

-- the next child is c, and what is to do once it was written
pub record Next {v : Nodes} {i : ℕ} {o d : Page} {m rest : ℕ} (t : Todo v i o d m rest) (c rest' : ℕ) : Type 0 where
  pub later : i < c
  pub within : c < v.count
  pub again : (d' d'' : Page) → d' ≡ wrote_on d (m ∷ []) → d'' ≡ wrote_on d' (text_at v c) → Todo v i o d'' 44 rest'

module _ (v : Nodes) (g : Good 64 v) where
  module _ (groups : List ℕ) (q : Groups v groups) {i : ℕ} {o d : Page} {m rest : ℕ} (t : Todo v i o d m rest) where
    -- the child that comes
    pub todo_next : (c rest' : ℕ) → Gives v groups i rest (Some c) rest' → Next t c rest'
    todo_next c rest' s =
        let n = left-next v g groups q t.left c s in
        let e : t.done ++ (m ∷ (text_at v c ++ children_text 44 n.others)) ≡ text_at v i = ap (λ (f : Forest). t.done ++ children_text m f) (sym n.is) ∙ t.whole in
        record {
          later = n.later;
          within = n.within;
          again = λ d' d'' a b. record {
            forest = n.others;
            left = n.left;
            done = t.done ++ (m ∷ text_at v c);
            told = simp (b, a, t.told, writes, append_assoc);
            whole = append_assoc t.done (m ∷ text_at v c) (children_text 44 n.others) ∙ e;
          };
        }

    -- no child is left: a bracket closes the text
    pub todo_end : (rest' : ℕ) → Gives v groups i rest None rest' → (d' : Page) → d' ≡ wrote_on d (41 ∷ []) → d' ≡ wrote_on o (text_at v i)
    todo_end rest' s d' a =
        let whole = ap (λ (f : Forest). t.done ++ children_text m f) (sym (left_end v g groups q t.left rest' s)) ∙ t.whole in
        simp (a, t.told, writes) (ap (wrote_on o) whole)

  module _ (i : ℕ) (h : i < v.count) where
    -- a leaf's text is its species number
    pub leaf_text : v.species i ≢ none → decimal (v.species i) ≡ text_at v i
    leaf_text n = by (opened v g i h)
      where
        by : Opened v i → decimal (v.species i) ≡ text_at v i
        by (alone k e t) = ap (λ (z : Tree). subtree_text (house z)) (sym t)
        by (parted k t) = absurd (n k)

    -- nothing of a node with children was written yet
    pub todo_start : (groups : List ℕ) → Groups v groups → v.species i ≡ none → (o : Page) (rest : ℕ)
        → rest ≡ cond (eqb (v.species i) none) (get_or groups i 0) 0
        → Todo v i o o 40 rest
    todo_start groups q n o rest e = by (opened v g i h)
      where
        by : Opened v i → Todo v i o o 40 rest
        by (alone k c t) = absurd (k n)
        by (parted k t) = record {
          forest = _;
          left = left-start v g i h groups q (v.species i) rest refl e;
          done = [];
          told = sym (wrote_on_nothing o);
          whole = ap (λ (z : Tree). subtree_text (house z)) (sym t);
        }
