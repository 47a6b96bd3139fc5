-- Combinations and the index: Pascal's rule at two and three, the closed forms up to 64 species, the order of the indices, and the triple back.
-- Assumes nothing.
use mathlib.Core.Bool.{Bool, So, ◌&&◌, cond, true}
use mathlib.Core.Logic.{◌↔◌, ◌⊎◌, inl, inr, ⊎_elim}
use mathlib.Core.Path.{◌∙◌, ◌≡◌, ap, ap₂, refl, subst, sym}
use Prim.Native.Nat.{◌*◌, ◌+◌, ◌-◌, ◌/◌, ◌<◌, ◌≤◌, suc, zero, ℕ}
use native.Mathlib.Omega.{arith}
use borrow.Author.Tests.{eqb-true, le-leb, leb-false, leb-true, not-true}
use lib.Dec.{eqb, leb}
use Rattle.sets.proofs.Bools.{and_l, and_r, by_order, lt_of_ne, test}
use Rattle.trees.proofs.Combinations.{C-more, C-none, C-one}
use Rattle.triples.specs.Index.{C, high_at, index, largest, low_at, mid_at}

-- ---- combinations of two and of three

pub C-two : (n : ℕ) → C (suc n) 2 ≡ C n 2 + n
unfolding C
C-two n = omega (arith, C-one n)

pub C-three : (n : ℕ) → C (suc n) 3 ≡ C n 3 + C n 2
unfolding C
C-three n = omega arith

-- fewer than three species have no triple
pub C-few : (n : ℕ) → n < 3 → C n 3 ≡ 0
C-few n h = omega (arith, C-more 3 n 2 (omega arith), C-three 1, C-three 0, C-two 0, C-none 1, C-none 2)

-- ---- the closed forms, by one computed test of every n up to 64

every : (ℕ → Bool) → ℕ → Bool
every f zero = true
every f (suc n) = f n && every f n

every_at : (f : ℕ → Bool) (n : ℕ) → So (every f n) → (k : ℕ) → k < n → So (f k)
unfolding every
every_at f zero h k l = absurd (omega arith)
every_at f (suc n) h k l = test (eqb k n)
    (λ e. subst (λ (j : ℕ). So (f j)) (sym (eqb-true k n e)) (and_l (f n) (every f n) h))
    (λ e. every_at f n (and_r (f n) (every f n) h) k (lt_of_ne k n l e))

-- n(n-1) and n(n-1)(n-2) are what the closed forms divide: the quotients grow by Pascal's rule
abbrev two : ℕ → ℕ
two n = n * (n - 1)

abbrev three : ℕ → ℕ
three n = n * (n - 1) * (n - 2)

abbrev grow : ℕ → Bool
grow n = eqb (two (suc n) / 2) (two n / 2 + n) && eqb (three (suc n) / 6) (three n / 6 + two n / 2)

tests : (n : ℕ) → n ≤ 64 → So (grow n)
unfolding every
tests n h = every_at grow 65 refl n (omega arith)

module _ (n : ℕ) (h : n ≤ 64) where
  two_grows : two (suc n) / 2 ≡ two n / 2 + n
  two_grows = eqb-true _ _ (and_l (eqb (two (suc n) / 2) (two n / 2 + n)) (eqb (three (suc n) / 6) (three n / 6 + two n / 2)) (tests n h))

  three_grows : three (suc n) / 6 ≡ three n / 6 + two n / 2
  three_grows = eqb-true _ _ (and_r (eqb (two (suc n) / 2) (two n / 2 + n)) (eqb (three (suc n) / 6) (three n / 6 + two n / 2)) (tests n h))

pub halves : (n : ℕ) → n ≤ 64 → n * (n - 1) / 2 ≡ C n 2
halves zero h = sym (C-none 1)
halves (suc n) h = two_grows n (omega arith) ∙ ap (λ (k : ℕ). k + n) (halves n (omega arith)) ∙ sym (C-two n)

pub sixths : (n : ℕ) → n ≤ 64 → n * (n - 1) * (n - 2) / 6 ≡ C n 3
sixths zero h = sym (C-none 2)
sixths (suc n) h = three_grows n (omega arith) ∙ ap₂ (λ (j k : ℕ). j + k) (sixths n (omega arith)) (halves n (omega arith)) ∙ sym (C-three n)

-- ---- the order of the indices

pub index-lt : (a b c n : ℕ) → a < b → b < c → c < n → index a b c < C n 3
unfolding index
index-lt a b c n p q r = omega (arith, C-more 3 (suc c) n r, C-more 2 (suc b) c q, C-two b, C-three c)

-- the order of nested loops over c, then b, then a
abbrev pub Before : ℕ → ℕ → ℕ → ℕ → ℕ → ℕ → Type 0
Before a b c a' b' c' = (c < c') ⊎ (((c ≡ c') × (b < b')) ⊎ ((c ≡ c') × (b ≡ b') × (a < a')))

same_high : {c c' : ℕ} → c ≡ c' → C c 3 ≡ C c' 3
same_high e = ap (λ (k : ℕ). C k 3) e

same_mid : {b b' : ℕ} → b ≡ b' → C b 2 ≡ C b' 2
same_mid e = ap (λ (k : ℕ). C k 2) e

before-lt : (a b c a' b' c' : ℕ) → a < b → b < c → Before a b c a' b' c' → index a b c < index a' b' c'
unfolding index
before-lt a b c a' b' c' p q (inl l) = omega (arith, index-lt a b c c' p q l)
before-lt a b c a' b' c' p q (inr (inl l)) = omega (arith, same_high l.0, C-more 2 (suc b) b' l.1, C-two b)
before-lt a b c a' b' c' p q (inr (inr l)) = omega (arith, same_high l.0, same_mid l.1, l.2)

-- one of two triples comes first, or they are the same
compare : (a b c a' b' c' : ℕ) → Before a b c a' b' c' ⊎ (((a ≡ a') × (b ≡ b') × (c ≡ c')) ⊎ Before a' b' c' a b c)
compare a b c a' b' c' = by_order c c' (λ l. inl (inl l))
    (λ e. by_order b b' (λ l. inl (inr (inl (e, l))))
    (λ f. by_order a a' (λ l. inl (inr (inr (e, f, l)))) (λ g. inr (inl (g, f, e))) (λ l. inr (inr (inr (inr (sym e, sym f, l))))))
    (λ l. inr (inr (inr (inl (sym e, l))))))
    (λ l. inr (inr (inl l)))

module _ (a b c a' b' c' : ℕ) (p : a < b) (q : b < c) (p' : a' < b') (q' : b' < c') where
  -- distinct triples have distinct indices
  pub index_inj : index a b c ≡ index a' b' c' → (a ≡ a') × (b ≡ b') × (c ≡ c')
  index_inj e = ⊎_elim (λ l. absurd (omega (arith, before-lt a b c a' b' c' p q l)))
      (⊎_elim (λ s. s) (λ l. absurd (omega (arith, before-lt a' b' c' a b c p' q' l))))
      (compare a b c a' b' c')

  pub index_order : (index a b c < index a' b' c') ↔ Before a b c a' b' c'
  index_order = (
    λ h. ⊎_elim (λ l. l)
        (⊎_elim (λ s. absurd (let e : index a b c ≡ index a' b' c' = cc in omega arith)) (λ l. absurd (omega (arith, before-lt a' b' c' a b c p' q' l))))
        (compare a b c a' b' c'),
    before-lt a b c a' b' c' p q,
  )

-- ---- the triple back

pub largest_here : (k m i : ℕ) → C m k ≤ i → largest k m i ≡ m
unfolding largest
largest_here k zero i h = refl
largest_here k (suc m) i h = ap (λ (b : Bool). cond b (suc m) (largest k m i)) (le-leb (C (suc m) k) i h)

pub largest_down : (k m i : ℕ) → i < C (suc m) k → largest k (suc m) i ≡ largest k m i
unfolding largest
largest_down k m i h = test (leb (C (suc m) k) i)
    (λ e. absurd (omega (arith, leb-true (C (suc m) k) i e)))
    (λ e. ap (λ (b : Bool). cond b (suc m) (largest k m i)) (not-true (leb (C (suc m) k) i) e))

-- where the number is known: x sets fit, and one more does not
pub largest_is : (k m i x : ℕ) → x ≤ m → C x k ≤ i → i < C (suc x) k → largest k m i ≡ x
largest_is k zero i x le f g = let e : x ≡ 0 = omega arith in largest_here k zero i (subst (λ (z : ℕ). C z k ≤ i) e f) ∙ sym e
largest_is k (suc m) i x le f g = test (eqb x (suc m))
    (λ e. let q = eqb-true _ _ e in largest_here k (suc m) i (subst (λ (z : ℕ). C z k ≤ i) q f) ∙ sym q)
    (λ e. let l : x < suc m = lt_of_ne x (suc m) (omega arith) e in
    largest_down k m i (omega (arith, C-more k (suc x) (suc m) (omega arith))) ∙ largest_is k m i x (omega arith) f g)

-- below C(m,k) there is such a number, less than m
pub largest-fits : (k m i : ℕ) → i < C m (suc k) → (largest (suc k) m i < m) × (C (largest (suc k) m i) (suc k) ≤ i) × (i < C (suc (largest (suc k) m i)) (suc k))
largest-fits k zero i h = absurd (omega (arith, C-none k))
largest-fits k (suc m) i h = subst (λ (x : ℕ). (x < suc m) × (C x (suc k) ≤ i) × (i < C (suc x) (suc k))) (sym (largest_down (suc k) m i h))
    (test (leb (C m (suc k)) i)
    (λ e. let l = leb-true _ _ e in
    subst (λ (x : ℕ). (x < suc m) × (C x (suc k) ≤ i) × (i < C (suc x) (suc k))) (sym (largest_here (suc k) m i l)) (omega arith, l, h))
    (λ e. let r = largest-fits k m i (leb-false _ _ (not-true _ e)) in (omega (arith, r.0), r.1, r.2)))

-- the largest number below a smaller bound that suffices
largest_bound : (k m n i : ℕ) → n ≤ m → i < C n (suc k) → largest (suc k) m i ≡ largest (suc k) n i
largest_bound k m n i le h = let r = largest-fits k n i h in largest_is (suc k) m i (largest (suc k) n i) (omega (arith, r.0)) r.1 r.2

pub triple_back : (n i : ℕ) → i < C n 3 → (low_at n i < mid_at n i) × (mid_at n i < high_at n i) × (high_at n i < n) × (index (low_at n i) (mid_at n i) (high_at n i) ≡ i)
unfolding low_at mid_at high_at index
triple_back n i h =
    let c = largest 3 n i in
    let p = largest-fits 2 n i h in
    let r = i - C c 3 in
    let s : r < C c 2 = omega (arith, p.1, p.2, C-three c) in
    let e = largest_bound 1 n c r (omega (arith, p.0)) s in
    let q = largest-fits 1 c r s in
    let b = largest 2 c r in
    subst (λ (z : ℕ). (r - C z 2 < z) × (z < c) × (c < n) × (C c 3 + C z 2 + (r - C z 2) ≡ i)) (sym e)
    (omega (arith, q.1, q.2, C-two b), q.0, p.0, omega (arith, p.1, q.1))

module _ (a b c n : ℕ) (p : a < b) (q : b < c) (r : c < n) where
  pub high_of : high_at n (index a b c) ≡ c
  unfolding high_at index
  high_of = largest_is 3 n (index a b c) c (omega arith) (omega arith) (index-lt a b c (suc c) p q (omega arith))

  pub mid_of : mid_at n (index a b c) ≡ b
  unfolding mid_at index
  mid_of =
      let e : index a b c - C (high_at n (index a b c)) 3 ≡ C b 2 + a = omega (arith, same_high high_of) in
      ap (λ (z : ℕ). largest 2 n z) e ∙ largest_is 2 n (C b 2 + a) b (omega arith) (omega arith) (omega (arith, C-two b))

  pub low_of : low_at n (index a b c) ≡ a
  unfolding low_at index
  low_of = omega (arith, same_high high_of, same_mid mid_of)
