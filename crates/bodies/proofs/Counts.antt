-- Every node of good nodes stands in their tree: the tree has as many nodes, fewer than two a species. Assumes nothing.
use mathlib.Core.Path.{◌≡◌, refl, sym, ap, ap₂, ◌∙◌, subst}
use mathlib.Core.List.{List}
use Prim.Native.Nat.{ℕ, zero, suc, ◌+◌, ◌-◌, ◌<◌}
use native.Mathlib.Decide.{ℕ_discrete}
use native.Mathlib.Omega.{arith}
use borrow.Author.Tests.{eq-eqb, ne_eqb}
use Rattle.trees.specs.Trees.{Forest, nil, cons}
use Rattle.bodies.specs.Nodes.{Nodes, children_among, children, Good}
use Rattle.bodies.specs.Draws.{forest_of, grow, subtree, node_count, node_count_f}
use Rattle.bodies.proofs.Under.{children-after, subtree-eq}

-- f 0 + .. + f (n - 1)
abbrev sum : (ℕ → ℕ) → ℕ → ℕ
sum f zero = 0
sum f (suc n) = sum f n + f n

sum_same : (f g : ℕ → ℕ) (n : ℕ) → ((j : ℕ) → j < n → f j ≡ g j) → sum f n ≡ sum g n
sum_same f g zero h = refl
sum_same f g (suc n) h = ap₂ ◌+◌ (sum_same f g n (λ j l. h j (omega arith))) (h n (omega arith))

-- d more at p alone
sum_more : (f g : ℕ → ℕ) (n p d : ℕ) → p < n → f p ≡ d + g p → ((j : ℕ) → (j ≡ p → ⊥) → f j ≡ g j) → sum f n ≡ d + sum g n
sum_more f g zero p d l e h = absurd (omega arith)
sum_more f g (suc n) p d l e h = go (ℕ_discrete p n) (λ l. sum_more f g n p d l e h)
  where
    go : Dec (p ≡ n) → (p < n → sum f n ≡ d + sum g n) → sum f n + f n ≡ d + (sum g n + g n)
    go (yes q) ih =
        let s : sum f n ≡ sum g n = sum_same f g n (λ j k. h j (λ z. omega arith)) in
        let u : f n ≡ d + g n = subst (λ (z : ℕ). f z ≡ d + g z) q e in
        omega arith
    go (no m) ih =
        let s = ih (omega arith) in
        let u : f n ≡ g n = h n (λ z. m (sym z)) in
        omega arith

sum_ones : (n : ℕ) → sum (λ j. 1) n ≡ n
sum_ones zero = refl
sum_ones (suc n) = omega (arith, sum_ones n)

count_grow : (s : ℕ) (f : Forest) → node_count (grow s f) ≡ suc (node_count_f f)
count_grow s nil = refl
count_grow s (cons t f) = refl

module _ (n : ℕ) (v : Nodes) (g : Good n v) where
  -- the nodes of the trees at l
  abbrev hung : List ℕ → ℕ
  hung l = node_count_f (forest_of (subtree v) l)

  -- node j with what hangs from it by its children among the k nodes from i on
  abbrev weight : ℕ → ℕ → ℕ → ℕ
  weight k i j = suc (hung (children_among v j k i))

  weight_full : (k i : ℕ) → i + suc k ≡ v.count → weight k (suc i) i ≡ node_count (subtree v i)
  weight_full k i e =
      let a : v.count - (i + 1) ≡ k = omega arith in
      let b : i + 1 ≡ suc i = omega arith in
      let h : i < v.count = omega arith in
      sym (ap node_count (subtree-eq n v g i h) ∙ count_grow (v.species i) (forest_of (subtree v) (children v i))
      ∙ ap (λ (l : List ℕ). suc (hung l)) (children-after n v g i h ∙ ap₂ (λ (x y : ℕ). children_among v i x y) a b))

  -- node i handed to its parent
  step : (k i : ℕ) → 0 < i → i + suc k ≡ v.count → sum (weight (suc k) i) i ≡ sum (weight k (suc i)) (suc i)
  step k i p e =
      let b = sum_more (weight (suc k) i) (weight k (suc i)) i (v.parent i) (node_count (subtree v i)) (g.later i p (omega arith))
      (rw (eq-eqb (v.parent i) (v.parent i) refl) (omega arith))
      (λ j m. rw (ne_eqb (v.parent i) j (λ z. m (sym z))) refl) in
      omega (arith, b, weight_full k i e)

  all : (k i : ℕ) → 0 < i → i + k ≡ v.count → sum (weight k i) i ≡ v.count
  all zero i p e = omega (arith, sum_ones i)
  all (suc k) i p e = step k i p e ∙ all k (suc i) (omega arith) (omega arith)

  pub all_nodes : 0 < v.count → node_count (subtree v 0) ≡ v.count
  all_nodes h = omega (arith, weight_full (v.count - 1) 0 (omega arith), all (v.count - 1) 1 (omega arith) (omega arith))
