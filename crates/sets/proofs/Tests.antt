-- Sets as tests: `has` of each operation, and the number of a set that is given as a test. Assumes nothing.
use Rattle.std.proofs.Common.{◌≡◌, ℕ, zero, suc, ◌-◌, ◌/◌, ◌^◌, ◌<◌, min, max, Bool, true, false, cond, not, ◌&&◌, ◌||◌, eqb, ◌⊎◌, sym, refl, ◌∙◌, subst, ap₂, inl, inr, arith, pow_pos, le-ltb, lt-ltb, eq-eqb, ne_eqb, eqb-true}
use mathlib.Core.Path.{fun_ext}
use native.Mathlib.Decide.{dec_lt, ℕ_discrete}
use borrow.Author.Tests.{eqb-false}
use lib.Bits.{or_lt}
use lib.Pow.{pow-lt}
use Rattle.sets.proofs.Bools.{bool_ext}
use Rattle.sets.proofs.Digits.{digit_cases, digit_empty, digit-meet, digit-minus, digit_of_has, digit-suc, digit-union, digit-zero, ext_to, has-lt, single_other, single_same, upto_in, upto_out}
use Rattle.sets.specs.Sets.{Has, Lacks, digit, has, meet, minus, number, single, union, upto}
use Rattle.sets.specs.Species.{Below, Species, below}

-- ---- the test and the facts

pub has_true : (s i : ℕ) → has s i ≡ true → Has s i
has_true s i e = eqb-true (digit s i) 1 e

pub true_has : (s i : ℕ) → Has s i → has s i ≡ true
true_has s i m = eq-eqb (digit s i) 1 m

pub false_has : (s i : ℕ) → Lacks s i → has s i ≡ false
false_has s i n = ne_eqb (digit s i) 1 (λ m. omega arith)

pub has_false : (s i : ℕ) → has s i ≡ false → Lacks s i
has_false s i e = go (digit_cases s i)
  where
    go : Lacks s i ⊎ Has s i → Lacks s i
    go (inl n) = n
    go (inr m) = absurd (eqb-false (digit s i) 1 e m)

-- ---- the operations

-- an operation on digits and one on tests that agree at 0 and 1
table : (f : ℕ → ℕ → ℕ) (g : Bool → Bool → Bool)
    → eqb (f 0 0) 1 ≡ g false false → eqb (f 0 1) 1 ≡ g false true → eqb (f 1 0) 1 ≡ g true false → eqb (f 1 1) 1 ≡ g true true
    → (s t i : ℕ) → eqb (f (digit s i) (digit t i)) 1 ≡ g (has s i) (has t i)
table f g p q r u s t i = go (digit_cases s i) (digit_cases t i)
  where
    go : Lacks s i ⊎ Has s i → Lacks t i ⊎ Has t i → eqb (f (digit s i) (digit t i)) 1 ≡ g (has s i) (has t i)
    go (inl a) (inl b) = rw (a, b) p
    go (inl a) (inr b) = rw (a, b) q
    go (inr a) (inl b) = rw (a, b) r
    go (inr a) (inr b) = rw (a, b) u

pub has_empty : (i : ℕ) → has 0 i ≡ false
has_empty i = false_has 0 i (digit_empty i)

pub has-union : (s t i : ℕ) → has (union s t) i ≡ (has s i || has t i)
has-union s t i = rw (digit-union s t i) (table max ◌||◌ refl refl refl refl s t i)

pub has_meet : (s t i : ℕ) → has (meet s t) i ≡ (has s i && has t i)
has_meet s t i = rw (digit-meet s t i) (table min ◌&&◌ refl refl refl refl s t i)

pub has-minus : (s t i : ℕ) → has (minus s t) i ≡ (has s i && not (has t i))
has-minus s t i = rw (digit-minus s t i) (table ◌-◌ (λ a b. a && not b) refl refl refl refl s t i)

pub has-single : (i j : ℕ) → has (single i) j ≡ eqb i j
has-single i j = go (ℕ_discrete i j)
  where
    go : Dec (i ≡ j) → has (single i) j ≡ eqb i j
    go (yes e) = true_has (single i) j (subst (Has (single i)) e (single_same i)) ∙ sym (eq-eqb i j e)
    go (no n) = false_has (single i) j (single_other i j n) ∙ sym (ne_eqb i j n)

pub has-upto : (n : ℕ) → has (upto n) ≡ below n
has-upto n = fun_ext (λ i. go i (dec_lt i n))
  where
    go : (i : ℕ) → Dec (i < n) → has (upto n) i ≡ below n i
    go i (yes l) = true_has (upto n) i (upto_in n i l) ∙ sym (lt-ltb i n l)
    go i (no f) = false_has (upto n) i (upto_out n i (omega arith)) ∙ sym (le-ltb i n (omega arith))

pub has-below : (n s : ℕ) → s < 2 ^ n → Below n (has s)
has-below n s h i m = has-lt n s i h (has_true s i m)

-- ---- the number of a set given as a test

bit_lt : (b : Bool) → cond b 1 0 < 2
bit_lt true = omega arith
bit_lt false = omega arith

bit_test : (b : Bool) → eqb (cond b 1 0) 1 ≡ b
bit_test true = refl
bit_test false = refl

pub number_lt : (n : ℕ) (P : Species) → number n P < 2 ^ n
unfolding number
number_lt zero P = pow_pos 0
number_lt (suc n) P = omega (arith, number_lt n (λ i. P (suc i)), bit_lt (P 0))

pub has-number : (n : ℕ) (P : Species) (i : ℕ) → i < n → has (number n P) i ≡ P i
unfolding number
has-number zero P i h = absurd (omega arith)
has-number (suc n) P zero h =
    let e : digit (number (suc n) P) 0 ≡ cond (P 0) 1 0 = omega (arith, digit-zero (number (suc n) P), bit_lt (P 0)) in
    rw e (bit_test (P 0))
has-number (suc n) P (suc i) h =
    let e : number (suc n) P / 2 ≡ number n (λ j. P (suc j)) = omega (arith, bit_lt (P 0)) in
    rw (digit-suc (number (suc n) P) i, e) (has-number n (λ j. P (suc j)) i (omega arith))

-- what code computes: a number below 2 ^ n with the bits of P is the number of P
pub number_unique : (n s : ℕ) (P : Species) → s < 2 ^ n → ((i : ℕ) → i < n → has s i ≡ P i) → s ≡ number n P
number_unique n s P h e =
    ext_to n s (number n P) h (number_lt n P) (λ i l. digit_of_has s (number n P) i (e i l ∙ sym (has-number n P i l)))

pub number-has : (n s : ℕ) → s < 2 ^ n → number n (has s) ≡ s
number-has n s h = sym (number_unique n s (has s) h (λ i l. refl))

pub number_is : (n : ℕ) (P : Species) → Below n P → has (number n P) ≡ P
number_is n P bd = fun_ext (λ i. go i (dec_lt i n))
  where
    go : (i : ℕ) → Dec (i < n) → has (number n P) i ≡ P i
    go i (yes l) = has-number n P i l
    go i (no f) = bool_ext _ (P i) (λ m. absurd (f (has-below n (number n P) (number_lt n P) i m))) (λ p. absurd (f (bd i p)))

-- ---- the numbers of the empty set, of one species, and of a union

pub number_empty : (n : ℕ) → number n (λ x. false) ≡ 0
number_empty n = sym (number_unique n 0 (λ x. false) (pow_pos n) (λ i l. has_empty i))

pub number-single : (n x : ℕ) → x < n → number n (eqb x) ≡ single x
number-single n x h = sym (number_unique n (single x) (eqb x) (pow-lt h) (λ i l. has-single x i))

pub number-union : (n : ℕ) (P Q : Species) → number n (λ x. P x || Q x) ≡ union (number n P) (number n Q)
number-union n P Q = sym (number_unique n _ (λ x. P x || Q x) (or_lt n (number n P) (number n Q) (number_lt n P) (number_lt n Q))
    (λ i l. has-union (number n P) (number n Q) i ∙ ap₂ (λ (a b : Bool). a || b) (has-number n P i l) (has-number n Q i l)))
