-- The species of the records, gathered one record after the other. Assumes nothing.
use mathlib.Core.List.{List, [], ◌∷◌}
use mathlib.Core.Path.{◌∙◌, ◌≡◌, ap, ap₂, sym}
use Prim.Native.Nat.{◌+◌, ◌<◌, ◌≤◌, ℕ}
use native.Mathlib.Numerals.{add-one}
use native.Mathlib.Omega.{arith}
use lib.Dec.{eqb}
use lib.ListN.{drop, drop_of_length-le, get_or, length}
use lib.Seq.{drop-cons}
use Rattle.sets.proofs.Digits.{digit_empty, digit-union, ext}
use Rattle.sets.proofs.Tests.{number_empty, number-single, number-union}
use Rattle.sets.specs.Sets.{number, single, union}
use Rattle.records.specs.Records.{in_record, occurs_in}

-- ---- unions

union_assoc : (s t u : ℕ) → union (union s t) u ≡ union s (union t u)
union_assoc s t u = ext _ _ (λ i. simp digit-union (omega arith))

union_empty : (s : ℕ) → union s 0 ≡ s
union_empty s = ext _ _ (λ i. simp (digit-union, digit_empty) (omega arith))

-- three species, one after the other
pub three-gather : (s a b c : ℕ) → a < 64 → b < 64 → c < 64 → union (union (union s (single a)) (single b)) (single c) ≡ union s (number 64 (in_record (a ∷ (b ∷ (c ∷ [])))))
three-gather s a b c h k l =
    let e : number 64 (in_record (a ∷ (b ∷ (c ∷ [])))) ≡ union (single a) (union (single b) (single c)) =
    number-union 64 (eqb a) (λ x. _) ∙ ap₂ union (number-single 64 a h) (number-union 64 (eqb b) (eqb c) ∙ ap₂ union (number-single 64 b k) (number-single 64 c l)) in
    ap (λ (x : ℕ). union x (single c)) (union_assoc s (single a) (single b)) ∙ union_assoc s (union (single a) (single b)) (single c) ∙ ap (union s) (union_assoc (single a) (single b) (single c) ∙ sym e)

-- ---- record after record

-- the set s, and the species of the records with it
abbrev pub gathered_set : ℕ → List (List ℕ) → ℕ
gathered_set s rs = union s (number 64 (occurs_in rs))

pub set-none : (s : ℕ) → gathered_set s [] ≡ s
unfolding occurs_in
set-none s = ap (union s) (number_empty 64) ∙ union_empty s

pub set_more : (s : ℕ) (r : List ℕ) (rs : List (List ℕ)) → gathered_set (union s (number 64 (in_record r))) rs ≡ gathered_set s (r ∷ rs)
unfolding occurs_in
set_more s r rs = union_assoc s _ _ ∙ ap (union s) (sym (number-union 64 (in_record r) (occurs_in rs)))

-- a loop that has come to record i
module _ (rs : List (List ℕ)) (i : ℕ) where
  pub set_next : (s q : ℕ) → i < length rs → q ≡ union s (number 64 (in_record (get_or rs i []))) → gathered_set q (drop (i + 1) rs) ≡ gathered_set s (drop i rs)
  set_next s q l e =
      ap (λ (x : ℕ). gathered_set x (drop (i + 1) rs)) e ∙ set_more s (get_or rs i []) (drop (i + 1) rs)
      ∙ ap (gathered_set s) (sym (drop-cons rs i [] l ∙ ap (λ (k : ℕ). get_or rs i [] ∷ drop k rs) (sym (add-one i))))

  pub set_end : (s : ℕ) → length rs ≤ i → gathered_set s (drop i rs) ≡ s
  set_end s h = ap (gathered_set s) (drop_of_length-le rs h) ∙ set-none s
