-- Giving every link to the other row as well: what one row gives, and what all of them give. Assumes nothing.
use mathlib.Core.Bool.{So}
use mathlib.Core.Logic.{◌↔◌, inl, inr, ⊎_elim}
use mathlib.Core.Path.{◌≡◌, refl, subst, sym}
use Prim.Native.Nat.{◌<◌, ◌≤◌, ℕ}
use native.Mathlib.Omega.{arith}
use borrow.Author.Tests.{lt-ltb, ltb-true}
use lib.ListN.{get_or}
use Rattle.sets.proofs.Bools.{by_order}
use Rattle.sets.proofs.Facts.{minus_e, minus_i}
use Rattle.sets.proofs.Tests.{has-upto}
use Rattle.sets.specs.Sets.{has, minus, upto}
use Rattle.sets.specs.Species.{Species}
use Rattle.splitting.proofs.Stores.{grown_as}
use Rattle.splitting.proofs.Walks.{Walked}
use Rattle.splitting.specs.Rows.{Flagged, Laid, Mirrored, Rows, Some, flag}

-- each row that gets a is that of a species of row
pub given_end : (row a : ℕ) {g g' : Rows} → Flagged (Some row (λ i x y. (x ≡ i) × (y ≡ a))) g g' → Flagged (Laid row a) g g'
given_end row a = grown_as (λ x y. (
  λ h. (subst (λ (z : ℕ). So (has row z)) (sym h.2.0) h.1, h.2.1),
  λ h. (x, h.0, (refl, h.1)),
))

-- what the row of k gives: k, to the rows of the species in it that are not lower
abbrev pub Gives : Rows → ℕ → ℕ → ℕ → Type 0
Gives g k x y = So (flag g k x) × (k ≤ x) × (y ≡ k)

not-under : (k x : ℕ) → So (has (upto k) x) ↔ (x < k)
not-under k x = subst (λ (S : Species). So (S x) ↔ (x < k)) (sym (has-upto k)) (ltb-true x k, lt-ltb x k)

-- what k's row got on the way is lower, or was there before
pub mirror_step : {s k left row : ℕ} {g₀ g g' : Rows} → row ≡ minus (get_or g k 0) (upto k) → Walked s (Gives g₀) g₀ g left → Flagged (Laid row k) g g' → Flagged (Gives g₀ k) g g'
mirror_step {s} {k} {left} {row} {g₀} {g} {g'} e w r = record {
  size = r.size;
  flags = λ x y. (
    λ h. ⊎_elim (λ p. inl p)
        (λ p. let m = minus_e (get_or g k 0) (upto k) x (subst (λ (z : ℕ). So (has z x)) e p.0) in
        let l : k ≤ x = by_order x k (λ i. absurd (m.1 ((not-under k x).1 i))) (λ i. omega arith) (λ i. omega arith) in
        ⊎_elim
        (λ o. inr (o, l, p.1))
        (λ o. inr (back o.0 x o.3.2 l o.3.1 o.3.0, l, p.1))
        ((w.grown.flags k x).0 m.0))
        ((r.flags x y).0 h),
    λ h. (r.flags x y).1 (⊎_elim (λ p. inl p)
        (λ p. inr (subst (λ (z : ℕ). So (has z x)) (sym e) (minus_i (get_or g k 0) (upto k) x ((w.grown.flags k x).1 (inl p.0)) (λ i. omega (arith, (not-under k x).0 i, p.1))), p.2)) h),
  );
}
  where
    back : (i x : ℕ) → x ≡ i → k ≤ x → i ≤ k → So (flag g₀ i k) → So (flag g₀ k x)
    back i x q l m h =
        let a : i ≡ k = omega arith in
        let b : k ≡ x = omega arith in
        subst (λ (z : ℕ). So (flag g₀ k z)) b (subst (λ (z : ℕ). So (flag g₀ z k)) a h)

pub mirror_end : (s : ℕ) {g g' : Rows} → Flagged (Some s (Gives g)) g g' → Flagged (Mirrored g s) g g'
mirror_end s {g} = grown_as (λ x y. (
  λ h. (
    subst (λ (z : ℕ). So (has s z)) (sym h.2.2) h.1,
    subst (λ (z : ℕ). So (flag g z x)) (sym h.2.2) h.2.0,
    subst (λ (z : ℕ). z ≤ x) (sym h.2.2) h.2.1,
  ),
  λ h. (y, h.0, (h.1, h.2, refl)),
))
