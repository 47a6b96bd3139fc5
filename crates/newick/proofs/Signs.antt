-- What each sign says of its byte, and one byte of a reading. Assumes nothing.
use mathlib.Core.Bool.{Bool, So, cond, false, true}
use mathlib.Core.List.{List, ◌∷◌}
use mathlib.Core.Path.{◌≡◌, ap, refl}
use Prim.Native.Nat.{ℕ, suc, ◌≤◌, ◌-◌}
use native.Mathlib.Omega.{arith}
use borrow.Author.Tests.{eqb-true, leb-true, ne_eqb}
use lib.Dec.{eqb, leb}
use lib.ListN.{length}
use Rattle.sets.proofs.Bools.{and_l}
use Rattle.newick.specs.Form.{blank, digit}
use Rattle.newick.specs.Scan.{State, act, stuck, follow, go, scan_from, halt}
use Rattle.newick.specs.Signs.{Sign, closing, colon, comma, figure, foreign, opening, point, semicolon, sign, space}

pub blank-sign : (b : ℕ) → So (blank b) → sign b ≡ space
unfolding sign
blank-sign b h = rw h refl

not-blank : (b : ℕ) → So (digit b) → blank b ≡ false
not-blank b h =
    let lo : 48 ≤ b = leb-true 48 b (and_l (leb 48 b) (leb b 57) h) in
    rw (ne_eqb b 32 (λ e. omega arith), ne_eqb b 10 (λ e. omega arith), ne_eqb b 13 (λ e. omega arith)) refl

pub digit-sign : (b : ℕ) → So (digit b) → sign b ≡ figure (b - 48)
unfolding sign
digit-sign b h = rw (not-blank b h, h) refl

-- what a sign says of its byte
abbrev pub Shows : ℕ → Sign → Type 0
Shows b space = So (blank b)
Shows b (figure x) = So (digit b) × (x ≡ b - 48)
Shows b opening = b ≡ 40
Shows b closing = b ≡ 41
Shows b comma = b ≡ 44
Shows b colon = b ≡ 58
Shows b point = b ≡ 46
Shows b semicolon = b ≡ 59
Shows b foreign = Unit {0}

either : (b : ℕ) (c : Bool) (s t : Sign) → (So c → Shows b s) → Shows b t → Shows b (cond c s t)
either b true s t f g = f refl
either b false s t f g = g

pub shows : (b : ℕ) → Shows b (sign b)
unfolding sign
shows b =
    either b (blank b) _ _ (λ h. h)
    (either b (digit b) _ _ (λ h. (h, refl))
    (either b (eqb b 40) _ _ (eqb-true b 40)
    (either b (eqb b 41) _ _ (eqb-true b 41)
    (either b (eqb b 44) _ _ (eqb-true b 44)
    (either b (eqb b 58) _ _ (eqb-true b 58)
    (either b (eqb b 46) _ _ (eqb-true b 46)
    (either b (eqb b 59) _ _ (eqb-true b 59) tt)))))))

-- one byte, limits aside
pub one : (s s' : State) (b : ℕ) (w : List ℕ) → act s (sign b) ≡ go s' → scan_from false s (b ∷ w) ≡ scan_from false s' w
unfolding scan_from
one s s' b w e = ap (follow (suc (length w)) (λ s'. scan_from false s' w)) e

pub none_goes : (s : State) (b : ℕ) (w : List ℕ) → act s (sign b) ≡ halt → scan_from false s (b ∷ w) ≡ stuck (suc (length w))
unfolding scan_from
none_goes s b w e = ap (follow (suc (length w)) (λ s'. scan_from false s' w)) e
