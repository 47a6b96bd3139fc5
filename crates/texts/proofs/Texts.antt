-- The texts of an input, one after the other. Assumes nothing.
use Rattle.std.proofs.Common.{None, Some}
use Rattle.std.specs.List.{list_all, position, position_or_len}
use mathlib.Core.Bool.{Bool, ◌&&◌, cond, not, false, false≢true, true}
use mathlib.Core.List.{List, [], ◌∷◌, ◌++◌, append_assoc, flatten}
use mathlib.Core.Path.{◌∙◌, ◌≡◌, ap, refl, sym}
use Prim.Native.Nat.{ℕ, zero, suc, ◌+◌, ◌-◌, ◌<◌, ◌≤◌}
use native.Mathlib.Omega.{arith}
use borrow.Author.Tests.{ltb-false, ltb-true}
use lib.Dec.{eqb, ltb}
use lib.ListN.{drop, get_or, length, length-append, length-drop, take, take-append-drop}
use lib.Seq.{drop-append_seam, split_at, take-append_seam, take_all}
use Rattle.newick.specs.Form.{blank}
use Rattle.texts.specs.Texts.{all_blank, span, texts, texts_in}

-- ---- blanks, and the span of a text, in std's words

pub from_place : (w : List ℕ) (i : ℕ) → take (length w - i) (drop i w) ≡ drop i w
from_place w i = let l = length-drop i w in take_all (length w - i) (drop i w) (omega arith)

pub blanks_all : (w : List ℕ) → list_all blank w ≡ all_blank w
unfolding all_blank
blanks_all [] = refl
blanks_all (b ∷ w) = ap (λ (o : Bool). blank b && o) (blanks_all w)

abbrev pub semicolon : ℕ → Bool
semicolon b = eqb b 59

-- a text goes up to its first semicolon, with it, or to the end where there is none
span_first : (w : List ℕ) → (position_or_len semicolon w < length w → span w ≡ position_or_len semicolon w + 1) × (length w ≤ position_or_len semicolon w → span w ≡ length w)
unfolding span
span_first [] = (λ h. absurd (omega arith), λ h. refl)
span_first (b ∷ w) = by (eqb b 59) (span_first w)
  where
    by : (o : Bool) → (position_or_len semicolon w < length w → span w ≡ position_or_len semicolon w + 1) × (length w ≤ position_or_len semicolon w → span w ≡ length w)
        → (cond (not o) (1 + position_or_len semicolon w) 0 < suc (length w) → cond o 1 (suc (span w)) ≡ cond (not o) (1 + position_or_len semicolon w) 0 + 1)
        × (suc (length w) ≤ cond (not o) (1 + position_or_len semicolon w) 0 → cond o 1 (suc (span w)) ≡ suc (length w))
    by true i = (λ h. refl, λ h. absurd (omega arith))
    by false i = (λ h. omega (arith, i.0 (omega arith)), λ h. omega (arith, i.1 (omega arith)))

pub span_closed : (w : List ℕ) (k : ℕ) → position semicolon w ≡ Some k → (span w ≡ k + 1) × (k < length w)
span_closed w k = by (ltb (position_or_len semicolon w) (length w)) refl (span_first w)
  where
    by : (o : Bool) → ltb (position_or_len semicolon w) (length w) ≡ o → (position_or_len semicolon w < length w → span w ≡ position_or_len semicolon w + 1) × (length w ≤ position_or_len semicolon w → span w ≡ length w)
        → cond o (Some (position_or_len semicolon w)) None ≡ Some k → (span w ≡ k + 1) × (k < length w)
    by true e i h = let q : position_or_len semicolon w ≡ k = cc in let l : position_or_len semicolon w < length w = ltb-true _ _ e in (omega (arith, i.0 l), omega arith)
    by false e i h = let z : ◌≡◌ {A = ℕ} 0 1 = cc in absurd (omega arith)

pub span_open : (w : List ℕ) → position semicolon w ≡ None → span w ≡ length w
span_open w = by (ltb (position_or_len semicolon w) (length w)) refl (span_first w)
  where
    by : (o : Bool) → ltb (position_or_len semicolon w) (length w) ≡ o → (position_or_len semicolon w < length w → span w ≡ position_or_len semicolon w + 1) × (length w ≤ position_or_len semicolon w → span w ≡ length w)
        → cond o (Some (position_or_len semicolon w)) None ≡ None → span w ≡ length w
    by true e i h = let z : ◌≡◌ {A = ℕ} 0 1 = cc in absurd (omega arith)
    by false e i h = i.1 (ltb-false _ _ e)

-- ---- a text ends in the input, and has a byte

pub span_within : (w : List ℕ) → span w ≤ length w
unfolding span
span_within [] = omega arith
span_within (b ∷ w) = by (eqb b 59) (span_within w)
  where
    by : (o : Bool) → span w ≤ length w → cond o 1 (suc (span w)) ≤ suc (length w)
    by true h = omega arith
    by false h = omega arith

pub span_some : (w : List ℕ) → all_blank w ≡ false → 0 < span w
unfolding all_blank span
span_some [] h = absurd (false≢true (sym h))
span_some (b ∷ w) h = by (eqb b 59)
  where
    by : (o : Bool) → 0 < cond o 1 (suc (span w))
    by true = omega arith
    by false = omega arith

-- ---- the texts

-- as many texts as there are bytes are enough: more are the same
same_texts : (k l : ℕ) (w : List ℕ) → length w ≤ k → length w ≤ l → texts_in k w ≡ texts_in l w
unfolding texts_in all_blank
same_texts zero zero w h m = refl
same_texts zero (suc l) [] h m = refl
same_texts zero (suc l) (b ∷ w) h m = absurd (omega arith)
same_texts (suc k) zero [] h m = refl
same_texts (suc k) zero (b ∷ w) h m = absurd (omega arith)
same_texts (suc k) (suc l) w h m =
    by (all_blank w) refl (λ e.
    let s = span_some w e in
    let d = length-drop (span w) w in
    same_texts k l (drop (span w) w) (omega arith) (omega arith))
  where
    by : (o : Bool) → all_blank w ≡ o → (all_blank w ≡ false → texts_in k (drop (span w) w) ≡ texts_in l (drop (span w) w))
        → cond o [] (take (span w) w ∷ texts_in k (drop (span w) w)) ≡ cond o [] (take (span w) w ∷ texts_in l (drop (span w) w))
    by true e ih = refl
    by false e ih = ap (λ (ts : List (List ℕ)). take (span w) w ∷ ts) (ih e)

pub texts_enough : (k : ℕ) (w : List ℕ) → length w ≤ k → texts_in k w ≡ texts w
unfolding texts
texts_enough k w h = same_texts k (length w) w h (omega arith)

pub texts-none : (w : List ℕ) → all_blank w ≡ true → texts w ≡ []
unfolding texts_in
texts-none w h = sym (texts_enough (suc (length w)) w (omega arith)) ∙ rw h refl

pub texts-next : (w : List ℕ) → all_blank w ≡ false → texts w ≡ take (span w) w ∷ texts (drop (span w) w)
unfolding texts_in
texts-next w h =
    sym (texts_enough (suc (length w)) w (omega arith))
    ∙ rw h (ap (λ (ts : List (List ℕ)). take (span w) w ∷ ts) (texts_enough (length w) (drop (span w) w) (omega (arith, length-drop (span w) w))))

-- ---- the texts and what follows them are the input

whole : (k : ℕ) (w : List ℕ) → length w ≤ k → (r : List ℕ) × (w ≡ flatten (texts_in k w) ++ r) × (all_blank r ≡ true)
unfolding texts_in all_blank flatten
whole zero [] h = ([], refl, refl)
whole zero (b ∷ w) h = absurd (omega arith)
whole (suc k) w h =
    by (all_blank w) refl (λ e.
    let s = span_some w e in
    let d = length-drop (span w) w in
    whole k (drop (span w) w) (omega arith))
  where
    by : (o : Bool) → all_blank w ≡ o → (all_blank w ≡ false → (r : List ℕ) × (drop (span w) w ≡ flatten (texts_in k (drop (span w) w)) ++ r) × (all_blank r ≡ true))
        → (r : List ℕ) × (w ≡ flatten (cond o [] (take (span w) w ∷ texts_in k (drop (span w) w))) ++ r) × (all_blank r ≡ true)
    by true e ih = (w, refl, e)
    by false e ih =
        let i = ih e in
        (i.0, sym (take-append-drop (span w) w) ∙ ap (λ (l : List ℕ). take (span w) w ++ l) i.1 ∙ sym (append_assoc (take (span w) w) (flatten (texts_in k (drop (span w) w))) i.0), i.2)

-- what is left over is blank
pub texts_whole : (w : List ℕ) → (r : List ℕ) × (w ≡ flatten (texts w) ++ r) × (all_blank r ≡ true)
unfolding texts
texts_whole w = whole (length w) w (omega arith)

flatten_append : (us vs : List (List ℕ)) → flatten (us ++ vs) ≡ flatten us ++ flatten vs
unfolding flatten
flatten_append [] vs = refl
flatten_append (u ∷ us) vs = ap (λ (l : List ℕ). u ++ l) (flatten_append us vs) ∙ sym (append_assoc u (flatten us) (flatten vs))

-- where text k lies in the input
module _ (w : List ℕ) (k : ℕ) (h : k < length (texts w)) where
  abbrev before : List ℕ
  before = flatten (take k (texts w))

  parted : (r : List ℕ) × (w ≡ before ++ (get_or (texts w) k [] ++ r))
  unfolding flatten
  parted =
      let t = texts_whole w in
      let u = get_or (texts w) k [] in
      let v = flatten (drop (suc k) (texts w)) in (
        v ++ t.0,
        t.1 ∙ ap (λ (l : List ℕ). l ++ t.0) (ap flatten (split_at (texts w) k [] h) ∙ flatten_append (take k (texts w)) (u ∷ drop (suc k) (texts w)))
            ∙ append_assoc before (u ++ v) t.0 ∙ ap (λ (l : List ℕ). before ++ l) (append_assoc u v t.0),
      )

  pub text_within : length before + length (get_or (texts w) k []) ≤ length w
  text_within =
      let p = parted in
      let u = get_or (texts w) k [] in
      omega (arith, ap length p.1, length-append before (u ++ p.0), length-append u p.0)

  pub text_bytes : take (length (get_or (texts w) k [])) (drop (length before) w) ≡ get_or (texts w) k []
  text_bytes =
      let p = parted in
      let u = get_or (texts w) k [] in
      ap (λ (l : List ℕ). take (length u) (drop (length before) l)) p.1 ∙ ap (take (length u)) (drop-append_seam before (u ++ p.0)) ∙ take-append_seam u p.0
