-- The decimal digits of a number: the last one, and how many there are. Assumes nothing.
use mathlib.Core.Bool.{Bool, cond, false, true}
use mathlib.Core.List.{List, [], ◌∷◌, ◌++◌}
use mathlib.Core.Path.{◌∙◌, ◌≡◌, ap, refl, sym}
use Prim.Native.Nat.{ℕ, zero, suc, ◌/◌, ◌%◌, ◌^◌, ◌<◌, ◌≤◌}
use native.Mathlib.Nat.{pow-suc}
use native.Mathlib.Omega.{arith}
use borrow.Author.Tests.{le-ltb, lt-ltb, ltb-false, ltb-true}
use lib.Dec.{ltb}
use lib.ListN.{length, length-append}
use Rattle.writing.specs.Texts.{decimal, digits_in, glyph}

module _ (k n : ℕ) where
  last : n < 10 → digits_in (suc k) n ≡ glyph n ∷ []
  unfolding digits_in
  last h = ap (λ (b : Bool). cond b (glyph n ∷ []) (digits_in k (n / 10) ++ (glyph (n % 10) ∷ []))) (lt-ltb n 10 h)

  front : 10 ≤ n → digits_in (suc k) n ≡ digits_in k (n / 10) ++ (glyph (n % 10) ∷ [])
  unfolding digits_in
  front h = ap (λ (b : Bool). cond b (glyph n ∷ []) (digits_in k (n / 10) ++ (glyph (n % 10) ∷ []))) (le-ltb n 10 h)

module _ (k n : ℕ) where
  enough_step : (n / 10 < 10 ^ suc k → digits_in (suc (suc k)) (n / 10) ≡ digits_in (suc k) (n / 10)) → n < 10 ^ suc (suc k) → (b : Bool) → ltb n 10 ≡ b
      → digits_in (suc (suc (suc k))) n ≡ digits_in (suc (suc k)) n
  enough_step q h true e = last (suc (suc k)) n (ltb-true n 10 e) ∙ sym (last (suc k) n (ltb-true n 10 e))
  enough_step q h false e =
      let l = ltb-false n 10 e in
      let s : n / 10 < 10 ^ suc k = omega (arith, h, pow-suc 10 (suc k)) in
      front (suc (suc k)) n l ∙ ap (λ (d : List ℕ). d ++ (glyph (n % 10) ∷ [])) (q s) ∙ sym (front (suc k) n l)

  few_step : length (digits_in k (n / 10)) ≤ k → (b : Bool) → ltb n 10 ≡ b → length (digits_in (suc k) n) ≤ suc k
  few_step q true e = omega (arith, ap length (last k n (ltb-true n 10 e)))
  few_step q false e = omega (arith, ap length (front k n (ltb-false n 10 e)), length-append (digits_in k (n / 10)) (glyph (n % 10) ∷ []), q)

  short_step : (j : ℕ) → (n / 10 < 10 ^ suc k → length (digits_in j (n / 10)) ≤ suc k) → n < 10 ^ suc (suc k) → (b : Bool) → ltb n 10 ≡ b → length (digits_in (suc j) n) ≤ suc (suc k)
  short_step j q h true e = omega (arith, ap length (last j n (ltb-true n 10 e)))
  short_step j q h false e =
      omega (arith, ap length (front j n (ltb-false n 10 e)), length-append (digits_in j (n / 10)) (glyph (n % 10) ∷ []), q (omega (arith, h, pow-suc 10 (suc k))))

short : (j k n : ℕ) → n < 10 ^ suc k → length (digits_in j n) ≤ suc k
unfolding digits_in
short zero k n h = omega arith
short (suc j) zero n h = omega (arith, ap length (last j n (omega (arith, h, pow-suc 10 0))))
short (suc j) (suc k) n h = short_step k n j (short j k (n / 10)) h (ltb n 10) refl

-- where k digits are enough, one more changes nothing
enough : (k n : ℕ) → n < 10 ^ suc k → digits_in (suc (suc k)) n ≡ digits_in (suc k) n
enough zero n h = let l : n < 10 = omega (arith, h, pow-suc 10 0) in last 1 n l ∙ sym (last 0 n l)
enough (suc k) n h = enough_step k n (enough k (n / 10)) h (ltb n 10) refl

digits_few : (k n : ℕ) → length (digits_in k n) ≤ k
unfolding digits_in
digits_few zero n = omega arith
digits_few (suc k) n = few_step k n (digits_few k (n / 10)) (ltb n 10) refl

-- a number below 10 ^ k has at most k digits
pub decimal_short : (k n : ℕ) → n < 10 ^ suc k → length (decimal n) ≤ suc k
decimal_short k n h = short 20 k n h

-- a number has at most 20 digits
pub decimal_few : (n : ℕ) → length (decimal n) ≤ 20
decimal_few n = digits_few 20 n

pub decimal_digit : (n : ℕ) → n < 10 → decimal n ≡ glyph n ∷ []
decimal_digit n h = last 19 n h

-- the last digit, behind the others
pub decimal_more : (n : ℕ) → 10 ≤ n → n < 2 ^ 64 → decimal n ≡ decimal (n / 10) ++ (glyph (n % 10) ∷ [])
decimal_more n h l = front 19 n h ∙ ap (λ (d : List ℕ). d ++ (glyph (n % 10) ∷ [])) (sym (enough 18 (n / 10) (omega (arith, l))))
