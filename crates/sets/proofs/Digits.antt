-- The digits of each operation on sets; two sets with the same digits are equal; subsets and sets apart. With these an equation of sets is
--     ext _ _ (λ i. simp (digit-union, digit-meet, digit-minus) (omega arith))
-- and where it turns on a digit being 0 or 1, `omega (arith, digit_lt s i)`. Assumes nothing.
use Rattle.std.proofs.Common.{◌≡◌, ℕ, zero, suc, ◌+◌, ◌-◌, ◌/◌, ◌%◌, ◌^◌, ◌<◌, ◌≤◌, min, max, ◌≢◌, ◌⊎◌, sym, refl, ap, ◌∙◌, inl, inr, suc-le-suc, lt_of_lt_of_le, le_of_suc-le-suc, zero-lt-suc, div-one, one-add, arith, pow_pos, pow_mono, shr-shr, eq-eqb, eqb-true}
use native.Mathlib.Nat.{zero-div, div-eq_of_lt}
use native.Mathlib.Decide.{ℕ_discrete, dec_lt}
use lib.Bits.{bit_and, and_shr, or_shr, xor_shr, and_step, or_step, xor_add_and, and_comm, mask_lt}
use Rattle.sets.specs.Sets.{digit, has, Has, Lacks, Subset, union, meet, minus, single, upto}

pub half_lt : (k s : ℕ) → s < 2 ^ suc k → s / 2 < 2 ^ k
half_lt k s h = omega arith

pub digit_lt : (s i : ℕ) → digit s i < 2
unfolding digit
digit_lt s i = omega arith

pub digit-zero : (s : ℕ) → digit s 0 ≡ s % 2
unfolding digit
digit-zero s = rw div-one

pub digit-suc : (s i : ℕ) → digit s (suc i) ≡ digit (s / 2) i
unfolding digit
digit-suc s i = rw (shr-shr s 1 i, one-add)

-- 0 or 1
pub digit_cases : (s i : ℕ) → Lacks s i ⊎ Has s i
digit_cases s i = go (digit s i) (digit_lt s i)
  where
    go : (d : ℕ) → d < 2 → (d ≡ 0) ⊎ (d ≡ 1)
    go zero h = inl refl
    go (suc zero) h = inr refl
    go (suc (suc d)) h = absurd (omega arith)

pub parity : (s : ℕ) → (s % 2 ≡ 0) ⊎ (s % 2 ≡ 1)
parity s = rw digit-zero at (digit_cases s 0)

-- ---- the operations

pub digit_empty : (i : ℕ) → Lacks 0 i
unfolding digit
digit_empty i = rw zero-div

pub digit-union : (s t i : ℕ) → digit (union s t) i ≡ max (digit s i) (digit t i)
unfolding digit
digit-union s t i = rw (or_shr s t i) (omega (arith, or_step (s / 2 ^ i) (t / 2 ^ i)))

pub digit-meet : (s t i : ℕ) → digit (meet s t) i ≡ min (digit s i) (digit t i)
unfolding digit
digit-meet s t i = rw (and_shr s t i) (omega (arith, and_step (s / 2 ^ i) (t / 2 ^ i)))

pub digit-minus : (s t i : ℕ) → digit (minus s t) i ≡ digit s i - digit t i
unfolding digit
digit-minus s t i =
    rw (xor_shr s (bit_and s t) i, and_shr s t i)
    (omega (arith, xor_add_and (s / 2 ^ i) (bit_and (s / 2 ^ i) (t / 2 ^ i)), and_step (s / 2 ^ i) (t / 2 ^ i)))

-- from digit k on there is nothing
pub digit-high : (k s i : ℕ) → s < 2 ^ k → k ≤ i → Lacks s i
unfolding digit
digit-high k s i h l = rw (div-eq_of_lt (lt_of_lt_of_le h (pow_mono l)))

pub has-lt : (k s i : ℕ) → s < 2 ^ k → Has s i → i < k
has-lt k s i h m = go (dec_lt i k)
  where
    go : Dec (i < k) → i < k
    go (yes l) = l
    go (no n) = absurd (omega (arith, digit-high k s i h (omega arith)))

pub single_same : (i : ℕ) → Has (single i) i
unfolding digit
single_same zero = refl
single_same (suc i) =
    let e : 2 ^ suc i / 2 ≡ 2 ^ i = omega arith in
    digit-suc (2 ^ suc i) i ∙ ap (λ x. digit x i) e ∙ single_same i

pub single_other : (i j : ℕ) → i ≢ j → Lacks (single i) j
single_other zero zero n = absurd (n refl)
single_other zero (suc j) n = digit-suc 1 j ∙ digit_empty j
single_other (suc i) zero n = omega (arith, digit-zero (2 ^ suc i))
single_other (suc i) (suc j) n =
    let e : 2 ^ suc i / 2 ≡ 2 ^ i = omega arith in
    digit-suc (2 ^ suc i) j ∙ ap (λ x. digit x j) e ∙ single_other i j (λ q. n (ap suc q))

pub single_is : (i j : ℕ) → Has (single i) j → i ≡ j
single_is i j m = go (ℕ_discrete i j)
  where
    go : Dec (i ≡ j) → i ≡ j
    go (yes e) = e
    go (no f) = absurd (omega (arith, single_other i j f))

pub upto_in : (n i : ℕ) → i < n → Has (upto n) i
upto_in zero i h = absurd (omega arith)
upto_in (suc n) zero h = omega (arith, digit-zero (2 ^ suc n - 1), pow_pos n)
upto_in (suc n) (suc i) h =
    let e : (2 ^ suc n - 1) / 2 ≡ 2 ^ n - 1 = omega (arith, pow_pos n) in
    digit-suc (2 ^ suc n - 1) i ∙ ap (λ x. digit x i) e ∙ upto_in n i (le_of_suc-le-suc h)

pub upto_out : (n i : ℕ) → n ≤ i → Lacks (upto n) i
upto_out n i h = digit-high n (2 ^ n - 1) i (omega (arith, pow_pos n)) h

-- the digits of a complement
pub digit_not : (k t i : ℕ) → t < 2 ^ k → i < k → digit ((2 ^ k - 1) - t) i ≡ 1 - digit t i
digit_not zero t i h l = absurd (omega arith)
digit_not (suc k) t zero h l = omega (arith, digit-zero t, digit-zero ((2 ^ suc k - 1) - t))
digit_not (suc k) t (suc i) h l =
    let e : ((2 ^ suc k - 1) - t) / 2 ≡ (2 ^ k - 1) - t / 2 = omega arith in
    rw (digit-suc ((2 ^ suc k - 1) - t) i, e, digit-suc t i) (digit_not k (t / 2) i (half_lt k t h) (le_of_suc-le-suc l))

-- ---- two sets with the same digits are equal

pub ext_to : (k s t : ℕ) → s < 2 ^ k → t < 2 ^ k → ((i : ℕ) → i < k → digit s i ≡ digit t i) → s ≡ t
ext_to zero s t hs ht h = omega arith
ext_to (suc k) s t hs ht h =
    let e = ext_to k (s / 2) (t / 2) (half_lt k s hs) (half_lt k t ht) (λ i l. sym (digit-suc s i) ∙ h (suc i) (suc-le-suc l) ∙ digit-suc t i) in
    omega (arith, digit-zero s, digit-zero t, h 0 (zero-lt-suc k))

pub lt-pow : (n : ℕ) → n < 2 ^ n
lt-pow zero = zero-lt-suc 0
lt-pow (suc n) = omega (arith, lt-pow n)

pub ext : (s t : ℕ) → ((i : ℕ) → digit s i ≡ digit t i) → s ≡ t
ext s t h =
    ext_to (s + t) s t (lt_of_lt_of_le (lt-pow s) (pow_mono (omega arith))) (lt_of_lt_of_le (lt-pow t) (pow_mono (omega arith))) (λ i l. h i)

-- equal tests, equal digits
pub digit_of_has : (s t i : ℕ) → has s i ≡ has t i → digit s i ≡ digit t i
digit_of_has s t i e = go (digit_cases s i) (digit_cases t i)
  where
    go : Lacks s i ⊎ Has s i → Lacks t i ⊎ Has t i → digit s i ≡ digit t i
    go (inl a) (inl b) = cc
    go (inl a) (inr b) = eqb-true (digit s i) 1 (e ∙ eq-eqb (digit t i) 1 b) ∙ sym b
    go (inr a) r = a ∙ sym (eqb-true (digit t i) 1 (sym e ∙ eq-eqb (digit s i) 1 a))

pub ext_has : (s t : ℕ) → ((i : ℕ) → has s i ≡ has t i) → s ≡ t
ext_has s t h = ext s t (λ i. digit_of_has s t i (h i))

-- ---- subsets

pub subset_le : (s t : ℕ) → Subset s t → (i : ℕ) → digit s i ≤ digit t i
subset_le s t h i = go (digit_cases s i)
  where
    go : Lacks s i ⊎ Has s i → digit s i ≤ digit t i
    go (inl n) = omega arith
    go (inr m) = omega (arith, h i m)

-- `s & t == s`
pub meet_of_subset : (s t : ℕ) → Subset s t → meet s t ≡ s
meet_of_subset s t h = ext _ _ (λ i. simp digit-meet (omega (arith, subset_le s t h i)))

pub subset_of_meet : (s t : ℕ) → meet s t ≡ s → Subset s t
subset_of_meet s t e i m = omega (arith, ap (λ x. digit x i) e, digit-meet s t i, digit_lt t i)

pub single_subset : (s i : ℕ) → Has s i → Subset (single i) s
single_subset s i m j n = rw (single_is i j n) at m

-- the converse of `has-lt`
pub lt_of_has : (k s : ℕ) → ((i : ℕ) → Has s i → i < k) → s < 2 ^ k
lt_of_has k s h = omega (arith, meet_of_subset s (upto k) (λ i m. upto_in k i (h i m)), mask_lt s k)

-- ---- `s & t == 0`: nothing in common

pub apart : (s t : ℕ) → ((i : ℕ) → Has s i → Lacks t i) → meet s t ≡ 0
apart s t h = ext _ _ (λ i. simp (digit-meet, digit_empty) (go i (digit_cases s i)))
  where
    go : (i : ℕ) → Lacks s i ⊎ Has s i → min (digit s i) (digit t i) ≡ 0
    go i (inl n) = omega arith
    go i (inr m) = omega (arith, h i m)

pub single-apart : (s i : ℕ) → Lacks s i → meet (single i) s ≡ 0
single-apart s i n = apart (single i) s (λ j m. rw (single_is i j m) at n)

-- ---- differences, and one species less

-- a set is what it shares with another, and the rest
pub parts-apart : (s t : ℕ) → meet (meet s t) (minus s t) ≡ 0
parts-apart s t = ext _ _ (λ i. simp (digit-meet, digit-minus, digit_empty) (omega (arith, digit_lt s i, digit_lt t i)))

pub parts : (s t : ℕ) → union (meet s t) (minus s t) ≡ s
parts s t = ext _ _ (λ i. simp (digit-union, digit-meet, digit-minus) (omega (arith, digit_lt s i, digit_lt t i)))

-- a difference as a number: s - (s & t)
pub minus-add : (s t : ℕ) → minus s t + meet s t ≡ s
minus-add s t =
    let e : meet s (meet s t) ≡ meet s t = ext _ _ (λ i. simp digit-meet (omega arith)) in
    omega (arith, xor_add_and s (meet s t))

pub minus-le : (s t : ℕ) → minus s t ≤ s
minus-le s t = omega (arith, minus-add s t)

pub minus-single : (s i : ℕ) → Has s i → minus s (single i) + 2 ^ i ≡ s
minus-single s i m = omega (arith, minus-add s (single i), and_comm s (single i), meet_of_subset (single i) s (single_subset s i m))

pub minus_same : (s i : ℕ) → Lacks (minus s (single i)) i
minus_same s i = omega (arith, digit-minus s (single i) i, single_same i, digit_lt s i)

pub minus_other : (s i j : ℕ) → i ≢ j → digit (minus s (single i)) j ≡ digit s j
minus_other s i j n = omega (arith, digit-minus s (single i) j, single_other i j n)
