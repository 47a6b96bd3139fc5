-- The byte of a triple by what is said of it, and the table that says it: its bits, its bytes, and the triplets that it says. Assumes nothing.
use mathlib.Core.Bool.{Bool, ◌||◌, cond, false, true}
use mathlib.Core.Path.{◌∙◌, ◌≡◌, ap, ap₂, refl, sym}
use Prim.Native.Nat.{◌+◌, ◌<◌, ◌≤◌, suc, zero, ℕ}
use native.Mathlib.Omega.{arith}
use borrow.Author.Tests.{ltb-false, ltb-true, not-true}
use lib.Bits.{or_lt}
use lib.Dec.{ltb}
use lib.ListN.{get_or-eq_default, get_or, length}
use Rattle.sets.proofs.Bools.{bool_ext, not_e, not_i, test}
use Rattle.sets.proofs.Digits.{ext_has}
use Rattle.sets.proofs.Tests.{has-below, has-union}
use Rattle.sets.specs.Sets.{digit, has, union}
use Rattle.trees.proofs.Triples.{agree_all, swap_same}
use Rattle.trees.proofs.Triplets.{different_e, different_i}
use Rattle.trees.specs.Triplets.{Proper, different}
use Rattle.tables.proofs.Bytes.{byte_says, entered_proper, entered_same}
use Rattle.triples.proofs.Indices.{high_of, index-lt, low_of, mid_of}
use Rattle.tables.specs.Bytes.{Small, entered, fan_bit, sign_ab, sign_ac, sign_bc, sign_fan}
use Rattle.tables.specs.Filled.{Said, both_said, byte_for, byte_of, bytes_from, table_for}
use Rattle.triples.specs.Index.{C, high_at, index, low_at, mid_at}

-- ---- the byte of a triple

-- its bits are those that were added
pub byte_bits : (x y z f : Bool) → (has (byte_of x y z f) 0 ≡ x) × (has (byte_of x y z f) 1 ≡ y) × (has (byte_of x y z f) 2 ≡ z) × (has (byte_of x y z f) fan_bit ≡ f)
unfolding digit
byte_bits true true true true = (refl, refl, refl, refl)
byte_bits true true true false = (refl, refl, refl, refl)
byte_bits true true false true = (refl, refl, refl, refl)
byte_bits true true false false = (refl, refl, refl, refl)
byte_bits true false true true = (refl, refl, refl, refl)
byte_bits true false true false = (refl, refl, refl, refl)
byte_bits true false false true = (refl, refl, refl, refl)
byte_bits true false false false = (refl, refl, refl, refl)
byte_bits false true true true = (refl, refl, refl, refl)
byte_bits false true true false = (refl, refl, refl, refl)
byte_bits false true false true = (refl, refl, refl, refl)
byte_bits false true false false = (refl, refl, refl, refl)
byte_bits false false true true = (refl, refl, refl, refl)
byte_bits false false true false = (refl, refl, refl, refl)
byte_bits false false false true = (refl, refl, refl, refl)
byte_bits false false false false = (refl, refl, refl, refl)

sign_most : (x : Bool) (k : ℕ) → cond x k 0 ≤ k
sign_most true k = omega arith
sign_most false k = omega arith

byte_small : (x y z f : Bool) → Small (byte_of x y z f)
byte_small x y z f = omega (arith, sign_most x sign_ab, sign_most y sign_ac, sign_most z sign_bc, sign_most f sign_fan)

pub byte_most : (S : Said) (a b c : ℕ) → Small (byte_for S a b c)
byte_most S a b c = byte_small (S.triplets a b c) (S.triplets a c b) (S.triplets b c a) (S.fans a b c)

-- a small byte is known by its four bits
byte_is : (v : ℕ) (x y z f : Bool) → Small v → has v 0 ≡ x → has v 1 ≡ y → has v 2 ≡ z → has v fan_bit ≡ f → v ≡ byte_of x y z f
byte_is v x y z f l p q r s = ext_has v (byte_of x y z f) bit
  where
    bit : (k : ℕ) → has v k ≡ has (byte_of x y z f) k
    bit zero = p ∙ sym (byte_bits x y z f).0
    bit (suc zero) = q ∙ sym (byte_bits x y z f).1
    bit (suc (suc zero)) = r ∙ sym (byte_bits x y z f).2
    bit (suc (suc (suc zero))) = s ∙ sym (byte_bits x y z f).3
    bit (suc (suc (suc (suc k)))) = bool_ext (has v _) (has (byte_of x y z f) _) (λ h. absurd (omega (arith, has-below 4 v (omega arith) _ h)))
        (λ h. absurd (omega (arith, has-below 4 (byte_of x y z f) (omega (arith, byte_small x y z f)) _ h)))

-- what two sources say together is the union of their bytes
pub byte_both : (S Z : Said) (a b c : ℕ) → byte_for (both_said S Z) a b c ≡ union (byte_for S a b c) (byte_for Z a b c)
byte_both S Z a b c =
    let v = byte_for S a b c in
    let w = byte_for Z a b c in
    let p = byte_bits (S.triplets a b c) (S.triplets a c b) (S.triplets b c a) (S.fans a b c) in
    let q = byte_bits (Z.triplets a b c) (Z.triplets a c b) (Z.triplets b c a) (Z.fans a b c) in
    sym (byte_is (union v w) _ _ _ _
    (omega (arith, or_lt 4 v w (omega (arith, byte_most S a b c)) (omega (arith, byte_most Z a b c))))
    (has-union v w 0 ∙ ap₂ ◌||◌ p.0 q.0) (has-union v w 1 ∙ ap₂ ◌||◌ p.1 q.1) (has-union v w 2 ∙ ap₂ ◌||◌ p.2 q.2) (has-union v w fan_bit ∙ ap₂ ◌||◌ p.3 q.3))

-- ---- the bytes in their places

bytes-length : (n : ℕ) (S : Said) (k i : ℕ) → length (bytes_from n S k i) ≡ k
unfolding bytes_from
bytes-length n S zero i = refl
bytes-length n S (suc k) i = ap suc (bytes-length n S k (suc i))

bytes-at : (n : ℕ) (S : Said) (k i j : ℕ) → j < k → get_or (bytes_from n S k i) j 0 ≡ byte_for S (low_at n (i + j)) (mid_at n (i + j)) (high_at n (i + j))
unfolding bytes_from
bytes-at n S zero i j h = absurd (omega arith)
bytes-at n S (suc k) i zero h = let e : i + 0 ≡ i = omega arith in rw e refl
bytes-at n S (suc k) i (suc j) h = let e : i + suc j ≡ suc i + j = omega arith in rw e (bytes-at n S k (suc i) j (omega arith))

module _ (n : ℕ) (S : Said) where
  pub table_length : length (table_for n S) ≡ C n 3
  unfolding table_for
  table_length = bytes-length n S (C n 3) 0

  pub table_at : (i : ℕ) → i < C n 3 → get_or (table_for n S) i 0 ≡ byte_for S (low_at n i) (mid_at n i) (high_at n i)
  unfolding table_for
  table_at i h = let e : 0 + i ≡ i = omega arith in rw e at (bytes-at n S (C n 3) 0 i h)

  pub table_index : (a b c : ℕ) → a < b → b < c → c < n → get_or (table_for n S) (index a b c) 0 ≡ byte_for S a b c
  table_index a b c p q r = table_at (index a b c) (index-lt a b c n p q r) ∙ rw (low_of a b c n p q r, mid_of a b c n p q r, high_of a b c n p q r) refl

  pub table_small : (i : ℕ) → Small (get_or (table_for n S) i 0)
  table_small i = test (ltb i (C n 3))
      (λ h. rw (table_at i (ltb-true i (C n 3) h)) (byte_most S (low_at n i) (mid_at n i) (high_at n i)))
      (λ h. let l : length (table_for n S) ≤ i = omega (arith, table_length, ltb-false i (C n 3) (not-true (ltb i (C n 3)) h)) in rw (get_or-eq_default (table_for n S) 0 l) (omega arith))

  -- the table says those triplets, of species below n
  pub table_says : Proper S.triplets → (a b c : ℕ) → a < n → b < n → c < n → entered (table_for n S) a b c ≡ S.triplets a b c
  table_says pr a b c ha hb hc =
      let E = S.triplets in
      test (different a b c)
      (λ d. let x = different_e a b c d in
      agree_all n (entered (table_for n S)) E (swap_same (entered (table_for n S)) (entered_proper (table_for n S))) (swap_same E pr)
      (λ l m h p q r.
      let s = byte_says (table_for n S) l m h (byte_for S l m h) p q (sym (table_index l m h p q r)) in
      let t = byte_bits (E l m h) (E l h m) (E m h l) (S.fans l m h) in
      (sym s.ab ∙ t.0, sym s.ac ∙ t.1, sym s.bc ∙ t.2))
      a b c x.0 x.1 x.2 ha hb hc)
      (λ d. entered_same (table_for n S) a b c (not_e (different a b c) d)
      ∙ sym (not-true (E a b c) (not_i (E a b c) (λ e. not_e (different a b c) d (different_i a b c (pr.two a b c e) (pr.third a b c e) (pr.third b a c (pr.swap a b c e)))))))
