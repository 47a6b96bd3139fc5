-- The lowest species of a set, which is what `u64::trailing_zeros` gives. Assumes nothing.
use Rattle.std.proofs.Common.{◌≡◌, ℕ, zero, suc, ◌+◌, ◌-◌, ◌/◌, ◌%◌, ◌^◌, ◌<◌, ◌≤◌, ◌≢◌, ◌⊎◌, refl, ap, inl, inr, arith}
use native.Mathlib.Decide.{dec_lt}
use lib.Bits.{and_step, and_self}
use lib.Count.{count_trailing_zeros, under}
use Rattle.sets.specs.Sets.{Has, Lacks, meet, lowest, rest, Lowest, Rest}
use Rattle.sets.proofs.Sizes.{size_without}
use Rattle.sets.proofs.Digits.{half_lt, digit-zero, digit-suc, parity, has-lt, lt-pow, minus-single}

zeros_even : (k s : ℕ) → s % 2 ≡ 0 → count_trailing_zeros (suc k) s ≡ suc (count_trailing_zeros k (s / 2))
unfolding count_trailing_zeros
zeros_even k s e = ap (λ r. under r (count_trailing_zeros k (s / 2))) e

zeros_odd : (k s : ℕ) → s % 2 ≡ 1 → count_trailing_zeros (suc k) s ≡ 0
unfolding count_trailing_zeros
zeros_odd k s e = ap (λ r. under r (count_trailing_zeros k (s / 2))) e

-- it is a member; and `s & (s - 1)` takes it away
record Least (k s : ℕ) : Type 0 where
  least_in : Has s (count_trailing_zeros k s)
  popped : meet s (s - 1) + 2 ^ count_trailing_zeros k s ≡ s

least : (k s : ℕ) → 0 < s → s < 2 ^ k → Least k s
least zero s p h = absurd (omega arith)
least (suc k) s p h = go (λ q. least k (s / 2) q (half_lt k s h)) (parity s)
  where
    go : (0 < s / 2 → Least k (s / 2)) → (s % 2 ≡ 0) ⊎ (s % 2 ≡ 1) → Least (suc k) s
    go ih (inl e) =
        let r = ih (omega arith) in
        let f : (s - 1) / 2 ≡ s / 2 - 1 = omega arith in
        record {
          least_in = rw (zeros_even k s e, digit-suc) r.least_in;
          popped = rw (zeros_even k s e) (omega (arith, rw f at (and_step s (s - 1)), r.popped));
        }
    go ih (inr e) =
        let f : (s - 1) / 2 ≡ s / 2 = omega arith in
        record {
          least_in = rw (zeros_odd k s e, digit-zero) e;
          popped = rw (zeros_odd k s e) (omega (arith, rw f at (and_step s (s - 1)), and_self (s / 2)));
        }

zeros_lack : (k s j : ℕ) → j < count_trailing_zeros k s → Lacks s j
unfolding count_trailing_zeros
zeros_lack zero s j h = absurd (omega arith)
zeros_lack (suc k) s j h = go j h (λ i l. zeros_lack k (s / 2) i l) (parity s)
  where
    go : (j : ℕ) → j < count_trailing_zeros (suc k) s → ((i : ℕ) → i < count_trailing_zeros k (s / 2) → Lacks (s / 2) i) → (s % 2 ≡ 0) ⊎ (s % 2 ≡ 1) → Lacks s j
    go j h ih (inr e) = absurd (omega (arith, zeros_odd k s e))
    go zero h ih (inl e) = rw digit-zero e
    go (suc j) h ih (inl e) = rw digit-suc (ih j (omega (arith, zeros_even k s e)))

pub lowest_in : (s : ℕ) → s < 2 ^ 64 → s ≢ 0 → Has s (lowest s)
lowest_in s h n = (least 64 s (omega arith) h).least_in

pub lowest-lt : (s : ℕ) → s < 2 ^ 64 → s ≢ 0 → lowest s < 64
lowest-lt s h n = has-lt 64 s (lowest s) h (lowest_in s h n)

pub lowest-least : (s j : ℕ) → j < lowest s → Lacks s j
lowest-least s j h = zeros_lack 64 s j h

pub lowest-le : (s i : ℕ) → Has s i → lowest s ≤ i
lowest-le s i m = go (dec_lt i (lowest s))
  where
    go : Dec (i < lowest s) → lowest s ≤ i
    go (yes l) = absurd (omega (arith, lowest-least s i l))
    go (no n) = omega arith

-- a set that is not empty has a member
pub some_member : (s : ℕ) → s ≢ 0 → (i : ℕ) × Has s i
some_member s n = (count_trailing_zeros s s, (least s s (omega arith) (lt-pow s)).least_in)

-- `s & (s - 1)`
pub pop : (s : ℕ) → s < 2 ^ 64 → s ≢ 0 → meet s (s - 1) ≡ rest s
pop s h n = omega (arith, (least 64 s (omega arith) h).popped, minus-single s (lowest s) (lowest_in s h n))

pub lowest_of : (s : ℕ) → s < 2 ^ 64 → Lowest s (lowest s)
lowest_of s h = record { is = refl; small = lowest-lt s h; member = lowest_in s h }

pub rest_of : (s : ℕ) → s < 2 ^ 64 → Rest s (rest s)
rest_of s h = record { is = refl; fewer = λ n. size_without s (lowest s) (lowest_in s h n) }
