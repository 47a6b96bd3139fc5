-- The numbers of nodes before and after one of them goes. Assumes nothing.
use mathlib.Core.Logic.{◌≢◌, ◌⊎◌, inl, inr, ⊎_elim}
use mathlib.Core.Path.{◌≡◌, refl}
use Prim.Native.Nat.{◌-◌, ◌<◌, ◌≤◌, suc, ℕ}
use native.Mathlib.Decide.{dec_lt}
use native.Mathlib.Omega.{arith}
use borrow.Author.Tests.{eq-eqb, le-ltb, lt-ltb, ne_eqb}
use Rattle.dropping.specs.Without.{new_number, new_parent, old_number}

module _ (k : ℕ) where
  old_is : (i : ℕ) → ((i < k) × (old_number k i ≡ i)) ⊎ ((k ≤ i) × (old_number k i ≡ suc i))
  old_is i = go (dec_lt i k)
    where
      go : Dec (i < k) → ((i < k) × (old_number k i ≡ i)) ⊎ ((k ≤ i) × (old_number k i ≡ suc i))
      go (yes l) = inl (l, rw (lt-ltb i k l) refl)
      go (no n) = let l : k ≤ i = omega arith in inr (l, rw (le-ltb i k l) refl)

  new_is : (j : ℕ) → ((j < k) × (new_number k j ≡ j)) ⊎ ((k ≤ j) × (new_number k j ≡ j - 1))
  new_is j = go (dec_lt j k)
    where
      go : Dec (j < k) → ((j < k) × (new_number k j ≡ j)) ⊎ ((k ≤ j) × (new_number k j ≡ j - 1))
      go (yes l) = inl (l, rw (lt-ltb j k l) refl)
      go (no n) = let l : k ≤ j = omega arith in inr (l, rw (le-ltb j k l) refl)

  pub old_ne : (i : ℕ) → old_number k i ≢ k
  old_ne i e = ⊎_elim {C = ⊥} (λ p. omega (arith, p.0, p.1)) (λ p. omega (arith, p.0, p.1)) (old_is i)

  pub old_new : (j : ℕ) → j ≢ k → old_number k (new_number k j) ≡ j
  old_new j ne = ⊎_elim
      (λ p. ⊎_elim (λ q. omega (arith, p.1, q.1)) (λ q. absurd (omega (arith, p.0, p.1, q.0))) (old_is (new_number k j)))
      (λ p. ⊎_elim (λ q. absurd (omega (arith, p.0, p.1, q.0, ne))) (λ q. omega (arith, p.0, p.1, q.0, q.1, ne)) (old_is (new_number k j)))
      (new_is j)

  pub new_old : (i : ℕ) → new_number k (old_number k i) ≡ i
  new_old i = ⊎_elim
      (λ p. ⊎_elim (λ q. omega (arith, p.1, q.1)) (λ q. absurd (omega (arith, p.0, p.1, q.0))) (new_is (old_number k i)))
      (λ p. ⊎_elim (λ q. absurd (omega (arith, p.0, p.1, q.0))) (λ q. omega (arith, p.0, p.1, q.0, q.1)) (new_is (old_number k i)))
      (old_is i)

  pub new_less : (c d : ℕ) → c ≢ k → d ≢ k → c < d → new_number k c < new_number k d
  new_less c d nc nd l = ⊎_elim
      (λ p. ⊎_elim (λ q. omega (arith, p.1, q.1)) (λ q. omega (arith, p.0, p.1, q.0, q.1, nd)) (new_is d))
      (λ p. ⊎_elim (λ q. absurd (omega (arith, p.0, q.0))) (λ q. omega (arith, p.0, p.1, q.0, q.1, nc)) (new_is d))
      (new_is c)

  pub old_less : (i j : ℕ) → i < j → old_number k i < old_number k j
  old_less i j l = ⊎_elim
      (λ p. ⊎_elim (λ q. omega (arith, p.1, q.1)) (λ q. omega (arith, p.1, q.1)) (old_is j))
      (λ p. ⊎_elim (λ q. absurd (omega (arith, p.0, q.0))) (λ q. omega (arith, p.1, q.1)) (old_is j))
      (old_is i)

  pub old_within : (i m : ℕ) → i < m → old_number k i < suc m
  old_within i m l = ⊎_elim (λ p. omega (arith, p.1)) (λ p. omega (arith, p.1)) (old_is i)

  pub within_old : (i m : ℕ) → k ≤ m → old_number k i < suc m → i < m
  within_old i m h l = ⊎_elim (λ p. omega (arith, p.0, p.1)) (λ p. omega (arith, p.1)) (old_is i)

  pub new_within : (j m : ℕ) → k ≤ m → j ≢ k → j < suc m → new_number k j < m
  new_within j m h ne l = ⊎_elim (λ p. omega (arith, p.0, p.1)) (λ p. omega (arith, p.0, p.1, ne)) (new_is j)

  pub old_low : (i : ℕ) → i < k → old_number k i ≡ i
  old_low i l = ⊎_elim (λ p. p.1) (λ p. absurd (omega (arith, p.0))) (old_is i)

  pub parent_gone : (a p : ℕ) → p ≡ k → new_parent k a p ≡ a
  parent_gone a p e = rw (eq-eqb p k e) refl

  pub parent_other : (a p : ℕ) → p ≢ k → new_parent k a p ≡ new_number k p
  parent_other a p ne = rw (ne_eqb p k ne) refl
