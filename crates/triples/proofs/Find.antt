-- The first triple in index order: what `first_triple` gives, that it is the only such index, and what it is where there is none. Assumes nothing.
use mathlib.Core.Bool.{Bool, So, cond, false, not, true}
use mathlib.Core.Logic.{◌↔◌}
use mathlib.Core.Path.{◌∙◌, ◌≡◌, ap, refl, subst}
use Prim.Native.Nat.{◌+◌, ◌<◌, ◌≤◌, suc, zero, ℕ}
use native.Mathlib.Omega.{arith}
use borrow.Author.Tests.{eqb-true}
use lib.Dec.{eqb}
use Rattle.sets.proofs.Bools.{by_order, ne_e, not_e, test}
use Rattle.trees.specs.Triplets.{Triplets, on_triple}
use Rattle.triples.proofs.Indices.{high_of, index-lt, low_of, mid_of, triple_back}
use Rattle.triples.specs.Find.{at, first_triple, first_from}
use Rattle.triples.specs.Index.{C, high_at, index, low_at, mid_at}

-- P speaks of the triple a < b < c at its index
pub at-index : (n : ℕ) (P : Triplets) (a b c : ℕ) → a < b → b < c → c < n → at n P (index a b c) ≡ on_triple P a b c
unfolding at
at-index n P a b c p q r = rw (low_of a b c n p q r, mid_of a b c n p q r, high_of a b c n p q r)

-- f is the first of the k indices from i on, or i + k
abbrev Firsts : ℕ → Triplets → ℕ → ℕ → ℕ → Type 0
Firsts m P i k f = (i ≤ f) × (f ≤ i + k) × (f < i + k → So (at m P f)) × ((j : ℕ) → i ≤ j → j < f → So (not (at m P j)))

firsts : (m : ℕ) (P : Triplets) (k i : ℕ) → Firsts m P i k (first_from m P k i)
unfolding first_from
firsts m P zero i = (omega arith, omega arith, (λ l. absurd (omega arith)), λ j p q. absurd (omega arith))
firsts m P (suc k) i = step (at m P i) (first_from m P k (suc i)) refl (firsts m P k (suc i))
  where
    step : (b : Bool) (r : ℕ) → at m P i ≡ b → Firsts m P (suc i) k r → Firsts m P i (suc k) (cond b i r)
    step true r e h = (omega arith, omega arith, (λ l. e), λ j p q. absurd (omega arith))
    step false r e h = (
      omega (arith, h.0),
      omega (arith, h.1),
      (λ l. h.2 (omega arith)),
      λ j p q. test (eqb i j)
          (λ x. subst (λ (z : ℕ). So (not (at m P z))) (eqb-true i j x) (ap not e))
          (λ x. let n = ne_e i j x in h.3 j (omega arith) q),
    )

module _ (n : ℕ) (P : Triplets) where
  first_spec : Firsts n P 0 (C n 3) (first_triple n P)
  unfolding first_triple
  first_spec = firsts n P (C n 3) 0

  pub first_le : first_triple n P ≤ C n 3
  first_le = omega (arith, first_spec.1)

  pub first_at : first_triple n P < C n 3 → So (at n P (first_triple n P))
  first_at l = first_spec.2 (omega arith)

  pub first_least : (j : ℕ) → j < first_triple n P → So (not (at n P j))
  first_least j l = first_spec.3 j (omega arith) l

  -- some triplet on the triple with that index, and none on a triple with a smaller one
  pub first_found : first_triple n P < C n 3 → So (on_triple P (low_at n (first_triple n P)) (mid_at n (first_triple n P)) (high_at n (first_triple n P)))
      × ((a b c : ℕ) → a < b → b < c → c < n → index a b c < first_triple n P → So (not (on_triple P a b c)))
  unfolding at
  first_found l = (first_at l, λ a b c p q r h. subst (λ (x : Bool). So (not x)) (at-index n P a b c p q r) (first_least (index a b c) h))

  -- the only index with those two properties
  pub first_is : (i : ℕ) → i < C n 3 → So (at n P i) → ((j : ℕ) → j < i → So (not (at n P j))) → first_triple n P ≡ i
  first_is i l h f = by_order (first_triple n P) i
      (λ k. absurd (not_e (at n P (first_triple n P)) (f (first_triple n P) k) (first_at (omega arith))))
      (λ e. e)
      (λ k. absurd (not_e (at n P i) (first_least i k) h))

  pub first_none : (first_triple n P ≡ C n 3) ↔ ((a b c : ℕ) → a < b → b < c → c < n → So (on_triple P a b c) → ⊥)
  unfolding at
  first_none = (
    (λ e a b c p q r h. not_e (at n P (index a b c)) (first_least (index a b c) (omega (arith, index-lt a b c n p q r))) (at-index n P a b c p q r ∙ h)),
    λ f. by_order (first_triple n P) (C n 3)
        (λ l. let r = triple_back n (first_triple n P) l in absurd (f (low_at n (first_triple n P)) (mid_at n (first_triple n P)) (high_at n (first_triple n P)) r.0 r.1 r.2 (first_at l)))
        (λ e. e)
        (λ l. absurd (omega (arith, first_le))),
  )
