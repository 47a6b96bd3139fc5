-- Tests: what `&&`, `||` and `not` say, and a choice by a test. Those that compare numbers are the kit's (`borrow.Author.Tests`). Assumes nothing.
use Rattle.std.proofs.Common.{◌≡◌, ℕ, suc, ◌<◌, Bool, true, false, not, ◌&&◌, ◌||◌, eqb, ltb, sym, refl, arith, ltb-false, ltb-true, eq-eqb, eqb-true}
use mathlib.Core.Bool.{So, false≢true}
use borrow.Author.Tests.{not-true}

pub and_l : (a b : Bool) → So (a && b) → So a
and_l true b h = refl
and_l false b h = h

pub and_r : (a b : Bool) → So (a && b) → So b
and_r true b h = h
and_r false b h = absurd (false≢true h)

pub and_i : (a b : Bool) → So a → So b → So (a && b)
and_i true b p q = q
and_i false b p q = p

-- the two ways on stand in the call, so that a recursive call may stand in either
pub or_case {ℓ} : {C : Type ℓ} (a b : Bool) → So (a || b) → (So a → C) → (So b → C) → C
or_case true b h f g = f refl
or_case false b h f g = g h

pub or_l : (a b : Bool) → So a → So (a || b)
or_l true b h = refl
or_l false b h = absurd (false≢true h)

pub or_r : (a b : Bool) → So b → So (a || b)
or_r true b h = refl
or_r false b h = h

pub or-none : (a b : Bool) → (a || b) ≡ false → (a ≡ false) × (b ≡ false)
or-none true b h = absurd (false≢true (sym h))
or-none false b h = (refl, h)

pub not_i : (a : Bool) → (So a → ⊥) → So (not a)
not_i true f = absurd (f refl)
not_i false f = refl

pub not_e : (a : Bool) → So (not a) → So a → ⊥
not_e true h k = false≢true h
not_e false h k = false≢true k

pub test {ℓ} : {C : Type ℓ} (a : Bool) → (So a → C) → (So (not a) → C) → C
test true f g = f refl
test false f g = g refl

-- two tests with the same truth are equal
pub bool_ext : (a b : Bool) → (So a → So b) → (So b → So a) → a ≡ b
bool_ext true b f g = sym (f refl)
bool_ext false true f g = g refl
bool_ext false false f g = refl

pub ne_e : (m n : ℕ) → So (not (eqb m n)) → m ≡ n → ⊥
ne_e m n h e = not_e (eqb m n) h (eq-eqb m n e)

pub lt_of_ne : (m n : ℕ) → m < suc n → So (not (eqb m n)) → m < n
lt_of_ne m n lt h = let ne : m ≡ n → ⊥ = ne_e m n h in omega arith

pub by_order {ℓ} : {C : Type ℓ} (a b : ℕ) → (a < b → C) → (a ≡ b → C) → (b < a → C) → C
by_order a b f g h = test (eqb a b) (λ e. g (eqb-true a b e))
    (λ e. test (ltb a b) (λ l. f (ltb-true a b l))
    (λ l. h (let ne : a ≡ b → ⊥ = ne_e a b e in omega (arith, ltb-false a b (not-true (ltb a b) l)))))
