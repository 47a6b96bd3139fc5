-- n, one more than the highest species: no species of the bodies reaches it, and it is no more than 64. Assumes nothing.
use mathlib.Core.Bool.{Bool, cond, false, true}
use mathlib.Core.List.{List, [], ◌∷◌, ◌++◌}
use mathlib.Core.Path.{◌∙◌, ◌≡◌, ap, refl}
use Prim.Native.Nat.{ℕ, zero, suc, ◌+◌, ◌-◌, ◌<◌, ◌≤◌, max}
use native.Mathlib.Decide.{ℕ_discrete}
use native.Mathlib.Omega.{arith}
use borrow.Author.Tests.{eq-eqb, ne_eqb}
use lib.Dec.{eqb}
use lib.ListN.{get_or, length}
use Rattle.bodies.proofs.Under.{children-after}
use Rattle.bodies.specs.Nodes.{Good, Nodes, children, children_among, none}
use Rattle.highest.specs.Bound.{one_more', top_among, top_of, top_of_all}

-- each of the first k nodes is counted
among_top : (v : Nodes) (i k : ℕ) → i < k → one_more' (v.species i) ≤ top_among v k
unfolding top_among
among_top v i zero l = absurd (omega arith)
among_top v i (suc k) l = by (ℕ_discrete i k) (among_top v i k)
  where
    by : Dec (i ≡ k) → (i < k → one_more' (v.species i) ≤ top_among v k) → one_more' (v.species i) ≤ max (top_among v k) (one_more' (v.species k))
    by (yes e) ih = let q = ap (λ (j : ℕ). one_more' (v.species j)) e in omega arith
    by (no e) ih = let q = ih (omega (arith, e)) in omega arith

module _ (n : ℕ) (v : Nodes) (g : Good n v) where
  node_most : (i : ℕ) → i < v.count → one_more' (v.species i) ≤ n
  node_most i h = by (length (children v i)) refl
    where
      leaf : (o : Bool) → v.species i < n → cond o 0 (v.species i + 1) ≤ n
      leaf true l = omega arith
      leaf false l = omega arith

      by : (m : ℕ) → length (children v i) ≡ m → one_more' (v.species i) ≤ n
      by zero e = leaf (eqb (v.species i) none) (g.outer i h e)
      by (suc m) e = rw (eq-eqb (v.species i) none (g.inner i h (omega arith))) (omega arith)

  among_most : (k : ℕ) → k ≤ v.count → top_among v k ≤ n
  unfolding top_among
  among_most zero h = omega arith
  among_most (suc k) h = omega (arith, among_most k (omega arith), node_most k (omega arith))

  -- the bound of good nodes is at most that with which they are good
  pub top_most : top_among v v.count ≤ n
  top_most = among_most v.count (omega arith)

  -- the last node is a leaf
  last_leaf : (i : ℕ) → suc i ≡ v.count → length (children v i) ≡ 0
  last_leaf i h =
      let z : v.count - (i + 1) ≡ 0 = omega arith in
      ap length (children-after n v g i (omega arith) ∙ ap (λ (k : ℕ). children_among v i k (i + 1)) z)

  module _ (small : n ≤ none) where
    leaf_top : (i : ℕ) → i < v.count → length (children v i) ≡ 0 → v.species i < top_among v v.count
    leaf_top i h e =
        let l = g.outer i h e in
        let o : one_more' (v.species i) ≡ v.species i + 1 = rw (ne_eqb (v.species i) none (λ q. omega arith)) refl in
        omega (arith, among_top v i v.count h)

    pub top_some : 0 < v.count → 0 < top_among v v.count
    top_some h = let l = leaf_top (v.count - 1) (omega arith) (last_leaf (v.count - 1) (omega arith)) in omega arith

    -- good nodes are good with any number that their bound does not pass
    pub top_good : (m : ℕ) → top_among v v.count ≤ m → Good m v
    top_good m h = record {
      root = g.root;
      later = g.later;
      inner = g.inner;
      two = g.two;
      outer = λ i l e. omega (arith, leaf_top i l e);
      once = g.once;
    }

-- ---- some bodies

pub all_top : (bs : List (List ℕ)) (k : ℕ) → k < length bs → top_of (get_or bs k []) ≤ top_of_all bs
unfolding top_of_all
all_top [] k h = absurd (omega arith)
all_top (b ∷ bs) zero h = omega arith
all_top (b ∷ bs) (suc k) h = omega (arith, all_top bs k (omega arith))

pub all_most : (n : ℕ) (bs : List (List ℕ)) → ((k : ℕ) → k < length bs → top_of (get_or bs k []) ≤ n) → top_of_all bs ≤ n
unfolding top_of_all
all_most n [] h = omega arith
all_most n (b ∷ bs) h = omega (arith, h 0 (omega arith), all_most n bs (λ k l. h (suc k) (omega arith)))

-- one body more
pub all_more : (bs : List (List ℕ)) (b : List ℕ) → top_of_all (bs ++ (b ∷ [])) ≡ max (top_of_all bs) (top_of b)
unfolding top_of_all
all_more [] b = omega arith
all_more (c ∷ bs) b = omega (arith, all_more bs b)
