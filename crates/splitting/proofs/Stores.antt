-- Rows of links: one store, what several stores add, and a row as the number of its species. Assumes nothing.
use mathlib.Core.Bool.{Bool, So}
use mathlib.Core.Logic.{◌↔◌, ◌⊎◌, inl, inr, ⊎_elim}
use mathlib.Core.Path.{◌∙◌, ◌≡◌, refl, subst, sym}
use Prim.Native.Nat.{◌<◌, ◌^◌, ℕ}
use native.Mathlib.Decide.{ℕ_discrete}
use native.Mathlib.Omega.{arith}
use lib.ListN.{get_or, length, length-set, set}
use lib.Seq.{get_or-set_other, get_or-set_same}
use Rattle.sets.proofs.Digits.{lt_of_has}
use Rattle.sets.proofs.Facts.{single_e, single_i, union_case, union_l, union_r}
use Rattle.sets.proofs.Tests.{has-below, number-has, true_has}
use Rattle.sets.specs.Sets.{has, number, single, union}
use Rattle.splitting.specs.Rows.{Flagged, Pair, Rows, flag}

-- ---- growing

module _ {R Q : ℕ → ℕ → Type 0} where
  pub grown_as : {g h : Rows} → ((x y : ℕ) → R x y ↔ Q x y) → Flagged R g h → Flagged Q g h
  grown_as f r = record {
    size = r.size;
    flags = λ x y. (
      λ k. ⊎_elim (λ p. inl p) (λ p. inr ((f x y).0 p)) ((r.flags x y).0 k),
      λ k. (r.flags x y).1 (⊎_elim (λ p. inl p) (λ p. inr ((f x y).1 p)) k),
    );
  }

pub grown_none : {R : ℕ → ℕ → Type 0} {g : Rows} → length g ≡ 64 → ((x y : ℕ) → R x y → ⊥) → Flagged R g g
grown_none s f = record { size = s; flags = λ x y. (λ k. inl k, λ k. ⊎_elim (λ p. p) (λ p. absurd (f x y p)) k) }

-- ---- a store

-- species b goes into row a
module _ (g : Rows) (a b v : ℕ) (s : length g ≡ 64) (ha : a < 64) (e : v ≡ union (get_or g a 0) (single b)) where
  flag_here : (y : ℕ) → So (flag (set g a v) a y) ↔ (So (flag g a y) ⊎ (y ≡ b))
  flag_here y = rw (get_or-set_same g a v 0 (omega (arith, s))) (
    λ h. union_case v (get_or g a 0) (single b) y e h (λ p. inl p) (λ p. inr (sym (single_e b y p))),
    λ h. ⊎_elim
        (union_l v (get_or g a 0) (single b) y e)
        (λ p. union_r v (get_or g a 0) (single b) y e (subst (λ (z : ℕ). So (has (single b) z)) (sym p) (single_i b)))
        h,
  )

  flag-put : (x y : ℕ) → So (flag (set g a v) x y) ↔ (So (flag g x y) ⊎ ((x ≡ a) × (y ≡ b)))
  flag-put x y = go (ℕ_discrete x a)
    where
      go : Dec (x ≡ a) → So (flag (set g a v) x y) ↔ (So (flag g x y) ⊎ ((x ≡ a) × (y ≡ b)))
      go (yes q) = rw q (λ h. ⊎_elim (λ p. inl p) (λ p. inr (refl, p)) ((flag_here y).0 h), λ h. (flag_here y).1 (⊎_elim (λ p. inl p) (λ p. inr p.1) h))
      go (no n) = rw (get_or-set_other g a x v 0 n) (λ h. inl h, λ h. ⊎_elim (λ p. p) (λ p. absurd (n p.0)) h)

  pub grown_put : Flagged (λ x y. (x ≡ a) × (y ≡ b)) g (set g a v)
  grown_put = record { size = length-set g a v ∙ s; flags = flag-put }

-- one link, in the row of a
module _ (on : Bool) (a b : ℕ) (g : Rows) (s : length g ≡ 64) where
  pub join_on : a < 64 → So on → (v : ℕ) → v ≡ union (get_or g a 0) (single b) → Flagged (Pair on a b) g (set g a v)
  join_on ha h v e = grown_as (λ x y. (λ k. (h, k.0, k.1), λ k. (k.1, k.2))) (grown_put g a b v s ha e)

-- ---- a row as a set

-- what fits in 64 bits together with another set does so alone
pub row_number : (x r u : ℕ) → u ≡ union x r → u < 2 ^ 64 → r ≡ number 64 (has r)
row_number x r u e h = sym (number-has 64 r (lt_of_has 64 r (λ i m. has-below 64 u h i (union_r u x r i e (true_has r i m)))))
