-- What the code's own forms come to. Assumes nothing.
use Rattle.std.proofs.Common.{◌≡◌, ℕ, ◌+◌, ◌-◌, ◌/◌, ◌%◌, ◌^◌, ◌<◌, min, sym, ap, ◌∙◌, arith}
use native.Mathlib.Decide.{ℕ_discrete, dec_lt}
use lib.Bits.{and_mask}
use Rattle.sets.specs.Sets.{digit, meet, minus, rest}
use Rattle.sets.proofs.Digits.{digit_empty, digit-meet, digit-minus, digit_lt, digit-high, digit_not, ext}
use Rattle.sets.proofs.Least.{pop}

-- `s & !t`
pub and-not : (s t : ℕ) → s < 2 ^ 64 → t < 2 ^ 64 → meet s ((2 ^ 64 - 1) - t) ≡ minus s t
and-not s t hs ht = ext _ _ (λ i. simp (digit-meet, digit-minus) (go i (dec_lt i 64)))
  where
    go : (i : ℕ) → Dec (i < 64) → min (digit s i) (digit ((2 ^ 64 - 1) - t) i) ≡ digit s i - digit t i
    go i (yes l) = omega (arith, digit_not 64 t i ht l, digit_lt s i, digit_lt t i)
    go i (no n) = omega (arith, digit-high 64 s i hs (omega arith))

-- `(s >> i) & 1`
pub test_at : (s i : ℕ) → meet (s / 2 ^ i) 1 ≡ digit s i
unfolding digit
test_at s i = and_mask (s / 2 ^ i) 1

-- `s & (s - 1)`, where 0 - 1 wraps: s without its lowest species
pub and_less : (s r : ℕ) → s < 2 ^ 64 → r < 2 ^ 64 → (r + 1) % 2 ^ 64 ≡ s → meet s r ≡ rest s
and_less s r h k e = go (ℕ_discrete s 0)
  where
    go : Dec (s ≡ 0) → meet s r ≡ rest s
    go (yes z) = ap (λ x. meet x r) z ∙ sym (ap rest z ∙ ext _ _ (λ i. simp (digit-minus, digit_empty) (omega arith)))
    go (no n) = let q : r ≡ s - 1 = omega arith in ap (meet s) q ∙ pop s h n
