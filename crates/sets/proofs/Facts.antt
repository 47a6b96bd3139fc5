-- Being in a set that an operation makes, said by facts on tests. Assumes nothing.
use Rattle.std.proofs.Common.{◌≡◌, ℕ, ◌<◌, not, ◌&&◌, sym, refl, ap, ◌∙◌, arith, ltb-true, lt-ltb, eq-eqb, eqb-true}
use mathlib.Core.Bool.{So, false≢true}
use Rattle.sets.proofs.Bools.{and_i, and_l, and_r, not_e, not_i, or_case, or_l, or_r}
use Rattle.sets.proofs.Digits.{digit_empty, digit-minus, ext}
use Rattle.sets.proofs.Tests.{has_empty, has_meet, has-minus, has-single, has-union, has-upto}
use Rattle.sets.specs.Sets.{has, meet, minus, single, union, upto}
use Rattle.sets.specs.Species.{Species, below}

pub empty_e : (x : ℕ) → So (has 0 x) → ⊥
empty_e x h = false≢true (sym (has_empty x) ∙ h)

pub single_e : (i x : ℕ) → So (has (single i) x) → i ≡ x
single_e i x h = eqb-true i x (sym (has-single i x) ∙ h)

pub single_i : (i : ℕ) → So (has (single i) i)
single_i i = has-single i i ∙ eq-eqb i i refl

-- u is a union
module _ (u s t x : ℕ) (e : u ≡ union s t) where
  has_both : has u x ≡ has (union s t) x
  has_both = ap (λ (z : ℕ). has z x) e

  pub union_case {ℓ} : {C : Type ℓ} → So (has u x) → (So (has s x) → C) → (So (has t x) → C) → C
  union_case h = or_case (has s x) (has t x) (sym (has_both ∙ has-union s t x) ∙ h)

  pub union_l : So (has s x) → So (has u x)
  union_l h = has_both ∙ has-union s t x ∙ or_l (has s x) _ h

  pub union_r : So (has t x) → So (has u x)
  union_r h = has_both ∙ has-union s t x ∙ or_r (has s x) _ h

pub minus_e : (s t x : ℕ) → So (has (minus s t) x) → So (has s x) × (So (has t x) → ⊥)
minus_e s t x h =
    let q = sym (has-minus s t x) ∙ h in
    (and_l (has s x) (not (has t x)) q, not_e (has t x) (and_r (has s x) (not (has t x)) q))

pub minus_i : (s t x : ℕ) → So (has s x) → (So (has t x) → ⊥) → So (has (minus s t) x)
minus_i s t x h n = has-minus s t x ∙ and_i (has s x) _ h (not_i (has t x) n)

pub minus_empty : (s : ℕ) → minus s 0 ≡ s
minus_empty s = ext (minus s 0) s (λ i. simp (digit-minus, digit_empty) (omega arith))

-- the species of s below k
module _ (s k x : ℕ) where
  has-under : has (meet s (upto k)) x ≡ (has s x && below k x)
  has-under = has_meet s (upto k) x ∙ ap (λ (P : Species). has s x && P x) (has-upto k)

  pub under_e : So (has (meet s (upto k)) x) → So (has s x) × (x < k)
  under_e h = let q = sym has-under ∙ h in (and_l (has s x) (below k x) q, ltb-true x k (and_r (has s x) (below k x) q))

  pub under_i : So (has s x) → x < k → So (has (meet s (upto k)) x)
  under_i h l = has-under ∙ and_i (has s x) _ h (lt-ltb x k l)
