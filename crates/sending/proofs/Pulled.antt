-- The lines of the groups of a body in preorder, node by node: what was written and what is still to be written make the whole. Assumes nothing.
use mathlib.Core.Bool.{Bool, false, false≢true, true}
use mathlib.Core.List.{List, [], ◌∷◌, ◌++◌, append_assoc, append-nil}
use mathlib.Core.Logic.{◌≢◌}
use mathlib.Core.Path.{◌∙◌, ◌≡◌, ap, refl, subst, sym}
use Prim.Native.Nat.{ℕ, suc, ◌+◌, ◌-◌, ◌<◌, ◌≤◌}
use native.Mathlib.Omega.{arith}
use lib.ListN.{length}
use Rattle.sets.specs.Species.{Species}
use Rattle.trees.specs.Trees.{Tree}
use Rattle.bodies.proofs.Back.{body_count, body_good, leaves_few, lays_body, nodes_few}
use Rattle.bodies.proofs.Laid.{Lays}
use Rattle.bodies.specs.Draws.{node_count, subtree, tree_of}
use Rattle.bodies.specs.Nodes.{Good, most_nodes, nodes, none}
use Rattle.groups.specs.Groups.{set_of}
use Rattle.easing.specs.Eases.{numbers}
use Rattle.writing.proofs.Writing.{writes, wrote_on_both, wrote_on_nothing}
use Rattle.writing.specs.Pages.{Page, wrote_on}
use Rattle.writing.specs.Texts.{ended}
use Rattle.species_text.specs.Lines.{species_line}
use Rattle.sending.proofs.InnerNodes.{behind_root, inner_end, inner_leaf, inner_more, inner_from}
use Rattle.sending.proofs.Lines.{lines_more}
use Rattle.sending.specs.Pulls.{InPreorder, groups_text, pulled, pulled_text, species_lines}
use Rattle.sending.specs.Words.{nothing_words, together_words}

pub numbers-length : (l : List Species) → length (numbers l) ≡ length l
numbers-length [] = refl
numbers-length (G ∷ l) = ap suc (numbers-length l)

-- ---- what is known of the body

module _ (b : List ℕ) (p : InPreorder b) where
  abbrev T : Tree
  T = tree_of b

  count_is : (nodes b).count ≡ node_count T
  count_is = ap (λ (z : List ℕ). (nodes z).count) p.body ∙ body_count T

  pub preorder_good : Good 64 (nodes b)
  preorder_good = subst (λ (z : List ℕ). Good 64 (nodes z)) (sym p.body) (body_good 64 T p.formed p.below (omega arith))

  pub preorder_few : (nodes b).count ≤ most_nodes
  preorder_few = omega (arith, count_is, nodes_few T p.formed, leaves_few 64 T p.formed p.below)

  lays : Lays (nodes b) T 255 0
  lays = subst (λ (z : List ℕ). Lays (nodes z) T 255 0) (sym p.body) (lays_body T)

  pulled_is : numbers (inner_from (nodes b) ((nodes b).count - 1) 1) ≡ pulled b
  pulled_is = ap (λ (k : ℕ). numbers (inner_from (nodes b) (k - 1) 1)) count_is
      ∙ ap numbers (sym (behind_root (nodes b) 64 (omega arith) preorder_good T 255 p.below lays (λ c h m x y. omega (arith, count_is)) (omega (arith, count_is))))

-- ---- node by node

-- the list has a set
abbrev any_set : List ℕ → Bool
any_set [] = false
any_set (s ∷ l) = true

any_last : (l : List ℕ) (s : ℕ) → true ≡ any_set (l ++ (s ∷ []))
any_last [] s = refl
any_last (x ∷ l) s = refl

-- o was the text, and is o' now, with the lines of the groups of the nodes before i behind it; `some` says whether there is one
pub record Todo (b : List ℕ) (o o' : Page) (some : Bool) (i : ℕ) : Type 0 where
  pub done : List ℕ
  pub text : o' ≡ wrote_on o (species_lines together_words done)
  pub whole : done ++ numbers (inner_from (nodes b) ((nodes b).count - i) i) ≡ pulled b
  pub told : some ≡ any_set done

pub todo_start : (b : List ℕ) → InPreorder b → (o : Page) → Todo b o o false 1
todo_start b p o = record { done = []; text = sym (wrote_on_nothing o); whole = pulled_is b p; told = refl }

module _ {b : List ℕ} {o o' : Page} {some : Bool} {i : ℕ} (t : Todo b o o' some i) (h : i < (nodes b).count) where
  -- a leaf has no line
  pub todo_leaf : (nodes b).species i ≢ none → Todo b o o' some (i + 1)
  todo_leaf e = record {
    done = t.done;
    text = t.text;
    whole = ap (λ (l : List Species). t.done ++ numbers l) (sym (inner_leaf (nodes b) (nodes b).count i h e)) ∙ t.whole;
    told = t.told;
  }

  -- an inner node
  module _ (e : (nodes b).species i ≡ none) where
    abbrev s : ℕ
    s = set_of (subtree (nodes b) i)

    abbrev rest : List ℕ
    rest = numbers (inner_from (nodes b) ((nodes b).count - (i + 1)) (i + 1))

    parted : t.done ++ (s ∷ rest) ≡ pulled b
    parted = ap (λ (l : List Species). t.done ++ numbers l) (sym (inner_more (nodes b) (nodes b).count i h e)) ∙ t.whole

    pub todo_next : (x : ℕ) → x ≡ s → (o'' : Page) → o'' ≡ wrote_on o' (species_line together_words x) → Todo b o o'' true (i + 1)
    todo_next x q o'' w = record {
      done = t.done ++ (x ∷ []);
      text = simp (w, t.text, lines_more together_words t.done x, writes);
      whole = append_assoc t.done (x ∷ []) rest ∙ ap (λ (y : ℕ). t.done ++ (y ∷ rest)) q ∙ parted;
      told = any_last t.done x;
    }

-- ---- all nodes

some_lines : (l : List ℕ) → true ≡ any_set l → species_lines together_words l ≡ pulled_text l
some_lines [] e = absurd (false≢true (sym e))
some_lines (x ∷ l) e = refl

no_lines : (l : List ℕ) → false ≡ any_set l → species_lines together_words l ++ ended nothing_words ≡ pulled_text l
no_lines [] e = refl
no_lines (x ∷ l) e = absurd (false≢true e)

module _ {b : List ℕ} {o o' : Page} {some : Bool} {i : ℕ} (t : Todo b o o' some i) (h : (nodes b).count ≤ i) where
  all_done : t.done ≡ pulled b
  all_done = sym (append-nil t.done) ∙ ap (λ (l : List Species). t.done ++ numbers l) (sym (inner_end (nodes b) (nodes b).count i h)) ∙ t.whole

  all_written : o' ≡ wrote_on o (species_lines together_words (pulled b))
  all_written = t.text ∙ ap (λ (l : List ℕ). wrote_on o (species_lines together_words l)) all_done

  all_told : some ≡ any_set (pulled b)
  all_told = t.told ∙ ap any_set all_done

  pub todo_end : some ≡ true → o' ≡ wrote_on o (groups_text b)
  todo_end e = all_written ∙ ap (wrote_on o) (some_lines (pulled b) (sym e ∙ all_told))

  pub todo_none : some ≡ false → (o'' : Page) → o'' ≡ wrote_on o' (ended nothing_words) → o'' ≡ wrote_on o (groups_text b)
  todo_none e o'' w =
      w ∙ ap (λ (z : Page). wrote_on z (ended nothing_words)) all_written
      ∙ wrote_on_both o (species_lines together_words (pulled b)) (ended nothing_words) ∙ ap (wrote_on o) (no_lines (pulled b) (sym e ∙ all_told))
