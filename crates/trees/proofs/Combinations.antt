-- Combinations: Pascal's rule, of one and of none, that they grow, that the sets of four among some and among others are fewer than among all, and C(65,4). Assumes nothing.
use mathlib.Core.Path.{◌≡◌, refl, sym}
use Prim.Native.Nat.{◌+◌, ◌≤◌, suc, zero, ℕ}
use native.Mathlib.Decide.{le_ind}
use native.Mathlib.Omega.{arith}
use Rattle.trees.specs.Combinations.{C}

pub C-rule : (n k : ℕ) → C (suc n) (suc k) ≡ C n k + C n (suc k)
unfolding C
C-rule n k = refl

pub C-one : (n : ℕ) → C n 1 ≡ n
unfolding C
C-one zero = refl
C-one (suc n) = omega (arith, C-one n)

pub C-none : (k : ℕ) → C 0 (suc k) ≡ 0
unfolding C
C-none k = refl

C-step : (k n : ℕ) → C n k ≤ C (suc n) k
unfolding C
C-step zero n = omega arith
C-step (suc k) n = omega arith

-- more species, more sets
pub C-more : (k m n : ℕ) → m ≤ n → C m k ≤ C n k
C-more k m n h = le_ind (λ (j : ℕ). C m k ≤ C j k) (omega arith) (λ j l e. omega (arith, C-step k j)) n h

-- one or two have no sets of four
C-one_four : C 1 4 ≡ 0
unfolding C
C-one_four = refl

pub C-two_four : C 2 4 ≡ 0
unfolding C
C-two_four = refl

-- c, which have no sets of four, become a more: beside them the sets of four among b + 1
fours : (c : ℕ) → C c 4 ≡ 0 → (a b : ℕ) → c ≤ suc b → C (a + c) 4 + C (suc b) 4 ≤ C (suc (a + b)) 4
fours c z zero b h =
    let e₁ : 0 + c ≡ c = omega arith in
    let e₂ : 0 + b ≡ b = omega arith in
    rw (e₁, e₂) (omega arith)
fours c z (suc a) b h =
    let e₁ : suc a + c ≡ suc (a + c) = omega arith in
    let e₂ : suc a + b ≡ suc (a + b) = omega arith in
    rw (e₁, e₂) (omega (arith, fours c z a b h, C-rule (a + c) 3, C-rule (suc (a + b)) 3, C-more 3 (a + c) (suc (a + b)) (omega arith)))

-- n species in two sets: the sets of four among each and one species more
pub fours_beside : (a b n : ℕ) → n ≡ a + b → C (suc a) 4 + C (suc b) 4 ≤ C (suc n) 4
fours_beside a b n e =
    let p : a + 1 ≡ suc a = omega arith in
    rw e (rw p at (fours 1 C-one_four a b (omega arith)))

-- where neither set is empty
pub fours_apart : (a b n : ℕ) → 1 ≤ a → 1 ≤ b → n ≡ a + b → C (suc a) 4 + C (suc b) 4 ≤ C n 4
fours_apart zero b n p q e = absurd (omega arith)
fours_apart (suc a) b n p q e =
    let e₁ : a + 2 ≡ suc (suc a) = omega arith in
    let e₂ : n ≡ suc (a + b) = omega arith in
    rw e₂ (rw e₁ at (fours 2 C-two_four a b (omega arith)))

-- ---- computed column by column

column : ℕ → ℕ → ℕ → ℕ → ℕ → ℕ
column zero i c₂ c₃ c₄ = c₄
column (suc m) i c₂ c₃ c₄ = column m (suc i) (c₂ + i) (c₃ + c₂) (c₄ + c₃)

column_fours : (m i c₂ c₃ c₄ : ℕ) → c₂ ≡ C i 2 → c₃ ≡ C i 3 → c₄ ≡ C i 4 → column m i c₂ c₃ c₄ ≡ C (m + i) 4
unfolding column
column_fours zero i c₂ c₃ c₄ p q r = let e : 0 + i ≡ i = omega arith in rw e r
column_fours (suc m) i c₂ c₃ c₄ p q r =
    let e : suc m + i ≡ m + suc i = omega arith in
    rw e (column_fours m (suc i) (c₂ + i) (c₃ + c₂) (c₄ + c₃) (omega (arith, C-rule i 1, C-one i)) (omega (arith, C-rule i 2)) (omega (arith, C-rule i 3)))

pub fours_65 : C 65 4 ≡ 677040
unfolding column
fours_65 = sym (column_fours 65 0 0 0 0 (sym (C-none 1)) (sym (C-none 2)) (sym (C-none 3)))
