-- Filling a table: the steps of the loop, and that the filled table is the one that says what the records say. Assumes nothing.
use mathlib.Core.List.{List, [], ◌∷◌}
use mathlib.Core.Path.{◌∙◌, ◌≡◌, ap, refl, sym}
use Prim.Native.Nat.{◌+◌, ◌<◌, ◌≤◌, ℕ}
use native.Mathlib.Numerals.{add-one}
use native.Mathlib.Omega.{arith}
use borrow.Author.Tests.{not-true}
use lib.ListN.{drop, drop_of_length-le, get_or, length, length-replicate}
use lib.Seq.{drop-cons}
use Rattle.sets.proofs.Bools.{test}
use Rattle.tables.proofs.Adding.{adds_both, adds_nothing, adds_record, adds_table}
use Rattle.tables.proofs.Bytes.{enter-length}
use Rattle.tables.proofs.Places.{place_lt}
use Rattle.tables.specs.Adds.{Adds}
use Rattle.tables.specs.Bytes.{enter, place_of}
use Rattle.tables.specs.Filled.{byte_for, plain, table_for}
use Rattle.triples.specs.Index.{C}
use Rattle.trees.specs.Triplets.{only}
use Rattle.records.proofs.Records.{Good, first_no, first_yes, good_e}
use Rattle.records.specs.Records.{in_records, bad_record, fill, first_bad, left, outer, right, zeros}

-- a good record has its place in a table of n species
pub good_place : (n a b c : ℕ) → Good n a b c → place_of a b c < C n 3
good_place n a b c g = place_lt a b c n g.apart g.first g.second g.third

-- ---- the loop

module _ (rs : List (List ℕ)) (i : ℕ) (t : List ℕ) where
  abbrev here : List ℕ
  here = get_or rs i []

  pub fill-next : i < length rs → fill (drop i rs) t ≡ fill (drop (i + 1) rs) (enter t (left here) (right here) (outer here))
  unfolding fill
  fill-next l = ap (λ (q : List (List ℕ)). fill q t) (drop-cons rs i [] l) ∙ ap (λ (k : ℕ). fill (drop k rs) (enter t (left here) (right here) (outer here))) (sym (add-one i))

  pub fill_end : length rs ≤ i → fill (drop i rs) t ≡ t
  unfolding fill
  fill_end h = ap (λ (q : List (List ℕ)). fill q t) (drop_of_length-le rs h)

-- ---- what the filled table is

-- "an empty list gives a table of zeros"
pub fill_none : (n : ℕ) → fill [] (zeros n) ≡ zeros n
unfolding fill
fill_none n = refl

-- good records add their bits, each to the byte of its triple
fill_adds : (n : ℕ) (rs : List (List ℕ)) (t : List ℕ) → first_bad n rs ≡ length rs → length t ≡ C n 3 → Adds (byte_for (plain (in_records rs))) 0 (C n 3) t (fill rs t)
unfolding fill in_records
fill_adds n [] t h l = adds_nothing 0 (C n 3) t
fill_adds n (r ∷ rs) t h l = test (bad_record n r)
    (λ p. absurd (omega (arith, first_yes n r rs p)))
    (λ p. let q = not-true _ p in
    let g = good_e n (left r) (right r) (outer r) q in
    let k = good_place n (left r) (right r) (outer r) g in
    let t₁ = enter t (left r) (right r) (outer r) in
    adds_both (plain (only (left r) (right r) (outer r))) (plain (in_records rs)) 0 (C n 3) t t₁ (fill rs t₁)
    (adds_record t (left r) (right r) (outer r) (C n 3) g.apart (omega arith) k)
    (fill_adds n rs t₁ (omega (arith, first_no n r rs q)) (enter-length t (left r) (right r) (outer r) ∙ l)))

-- a table of zeros becomes the table that says what the records say
pub fill_table : (n : ℕ) (rs : List (List ℕ)) → first_bad n rs ≡ length rs → fill rs (zeros n) ≡ table_for n (plain (in_records rs))
fill_table n rs h = adds_table n (plain (in_records rs)) (fill rs (zeros n)) (fill_adds n rs (zeros n) h (length-replicate (C n 3) 0))
