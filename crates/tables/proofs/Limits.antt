-- The first byte that a table may not hold: the steps of the search for it, and that there is none exactly where every byte is small. Assumes nothing.
use mathlib.Core.Bool.{Bool, cond, false, true}
use mathlib.Core.List.{List, [], ◌∷◌}
use mathlib.Core.Logic.{◌↔◌}
use mathlib.Core.Path.{◌∙◌, ◌≡◌, ap, refl}
use Prim.Native.Nat.{◌+◌, ◌<◌, ◌≤◌, suc, zero, ℕ}
use native.Mathlib.Numerals.{add-one}
use native.Mathlib.Omega.{arith}
use borrow.Author.Tests.{le-ltb, lt-ltb, ltb-false, ltb-true, not-true}
use lib.Dec.{ltb}
use lib.ListN.{drop, get_or, length}
use lib.Seq.{drop-cons}
use Rattle.sets.proofs.Bools.{test}
use Rattle.tables.specs.Bytes.{Small, over, top, wrong_byte}

module _ (v : ℕ) (t : List ℕ) where
  over_yes : top < v → over (v ∷ t) ≡ 0
  unfolding over
  over_yes h = ap (λ (b : Bool). cond b 0 (suc (over t))) (lt-ltb top v h)

  over_no : Small v → over (v ∷ t) ≡ suc (over t)
  unfolding over
  over_no h = ap (λ (b : Bool). cond b 0 (suc (over t))) (le-ltb top v h)

-- ---- the search from the front

module _ (t : List ℕ) (i : ℕ) (l : i < length t) where
  pub over_here : top < get_or t i 0 → i + over (drop i t) ≡ i
  over_here h = omega (arith, ap over (drop-cons t i 0 l), over_yes (get_or t i 0) (drop (suc i) t) h)

  pub over-next : Small (get_or t i 0) → i + over (drop i t) ≡ i + 1 + over (drop (i + 1) t)
  over-next h =
      let q : over (drop (i + 1) t) ≡ over (drop (suc i) t) = ap (λ (k : ℕ). over (drop k t)) (add-one i) in
      omega (arith, ap over (drop-cons t i 0 l), over_no (get_or t i 0) (drop (suc i) t) h)

-- ---- every byte is small

over_most : (t : List ℕ) → over t ≤ length t
unfolding over
over_most [] = omega arith
over_most (v ∷ t) = go (ltb top v) (over_most t)
  where
    go : (c : Bool) → over t ≤ length t → cond c 0 (suc (over t)) ≤ suc (length t)
    go true h = omega arith
    go false h = omega arith

over_all : (t : List ℕ) → over t ≡ length t → (i : ℕ) → Small (get_or t i 0)
over_all [] e i = omega arith
over_all (v ∷ t) e i = test (ltb top v)
    (λ h. absurd (omega (arith, over_yes v t (ltb-true top v h))))
    (λ h. let l = ltb-false top v (not-true (ltb top v) h) in at i l (over_all t (omega (arith, over_no v t l))))
  where
    at : (i : ℕ) → Small v → ((j : ℕ) → Small (get_or t j 0)) → Small (get_or (v ∷ t) i 0)
    at zero h f = h
    at (suc j) h f = f j

all_over : (t : List ℕ) → ((i : ℕ) → Small (get_or t i 0)) → over t ≡ length t
unfolding over
all_over [] f = refl
all_over (v ∷ t) f = over_no v t (f 0) ∙ ap suc (all_over t (λ i. f (suc i)))

pub small_exactly : (t : List ℕ) → (wrong_byte t ≡ false) ↔ ((i : ℕ) → Small (get_or t i 0))
small_exactly t = (
  (λ e. over_all t (omega (arith, ltb-false (over t) (length t) e, over_most t))),
  λ f. le-ltb (over t) (length t) (omega (arith, all_over t f)),
)
