-- How subtrees lie: the children of a node, the nodes under it, the tree at it without levels, and the species of that tree, which are those of the
-- leaves under the node. Assumes nothing.
use mathlib.Core.Path.{◌≡◌, refl, sym, ap, ap₂, ◌∙◌, subst}
use mathlib.Core.Logic.{◌⊎◌, inl, inr, ⊎_elim}
use mathlib.Core.Bool.{Bool, true, false, So, false≢true}
use mathlib.Core.List.Memᴰ
use mathlib.Core.List.{List, [], ◌∷◌, ◌++◌, Memᴰ}
use Prim.Native.Nat.{ℕ, zero, suc, ◌+◌, ◌-◌, ◌≤◌, ◌<◌}
use native.Mathlib.Omega.{arith}
use borrow.Author.Tests.{eqb-true, eq-eqb, ne_eqb}
use lib.Dec.{eqb}
use lib.ListN.{length}
use Rattle.sets.specs.Species.{Ascending, put}
use Rattle.sets.proofs.Bools.{or_case, or_l, or_r, by_order}
use Rattle.sets.proofs.Ordered.{from_ascend, of_from, in_from}
use Rattle.trees.specs.Trees.{Tree, leaf, cons, under, under_f, degree}
use Rattle.bodies.specs.Nodes.{Nodes, children_among, children, Good}
use Rattle.bodies.specs.Draws.{forest_of, grow, tree_at, subtree}

-- ---- the trees at some nodes

pub under_f-mem : (t : ℕ → Tree) (l : List ℕ) (x : ℕ) → So (under_f (forest_of t l) x) → (c : ℕ) × Memᴰ c l × So (under (t c) x)
under_f-mem t [] x h = absurd (false≢true h)
under_f-mem t (c ∷ l) x h = or_case (under (t c) x) (under_f (forest_of t l) x) h
    (λ p. (c, Memᴰ.head refl, p))
    (λ p. let r = under_f-mem t l x p in (r.0, Memᴰ.tail r.1, r.2))

pub mem-under_f : (t : ℕ → Tree) (l : List ℕ) (x c : ℕ) → Memᴰ c l → So (under (t c) x) → So (under_f (forest_of t l) x)
mem-under_f t [] x c m h = absurd (Memᴰ.not-nil m)
mem-under_f t (d ∷ l) x c m h = ⊎_elim
    (λ e. or_l (under (t d) x) (under_f (forest_of t l) x) (subst (λ (z : ℕ). So (under (t z) x)) e h))
    (λ k. or_r (under (t d) x) (under_f (forest_of t l) x) (mem-under_f t l x c k h))
    (Memᴰ.cases_cons m)

pub degree_forest : (t : ℕ → Tree) (l : List ℕ) → degree (forest_of t l) ≡ length l
degree_forest t [] = refl
degree_forest t (c ∷ l) = ap suc (degree_forest t l)

pub forest_cong : (t u : ℕ → Tree) (l : List ℕ) → ((c : ℕ) → Memᴰ c l → t c ≡ u c) → forest_of t l ≡ forest_of u l
forest_cong t u [] h = refl
forest_cong t u (c ∷ l) h = ap₂ cons (h c (Memᴰ.head refl)) (forest_cong t u l (λ d m. h d (Memᴰ.tail m)))

pub ascend_mem : (i : ℕ) (l : List ℕ) → Ascending i l → (c : ℕ) → Memᴰ c l → i ≤ c
ascend_mem i [] a c m = absurd (Memᴰ.not-nil m)
ascend_mem i (x ∷ l) a c m = ⊎_elim (λ e. omega (arith, a.0)) (λ k. omega (arith, a.0, ascend_mem (suc x) l a.1 c k)) (Memᴰ.cases_cons m)

-- ---- the nodes with one parent

put-append : (b : Bool) (i : ℕ) (l m : List ℕ) → put b i (l ++ m) ≡ put b i l ++ m
put-append true i l m = refl
put-append false i l m = refl

module _ (v : Nodes) (i : ℕ) where
  pub among_split : (k l j : ℕ) → children_among v i (k + l) j ≡ children_among v i k j ++ children_among v i l (j + k)
  among_split zero l j =
      let a : zero + l ≡ l = omega arith in
      let b : j + zero ≡ j = omega arith in
      rw (a, b) refl
  among_split (suc k) l j =
      let a : suc k + l ≡ suc (k + l) = omega arith in
      let b : j + suc k ≡ suc j + k = omega arith in
      rw (a, b) (ap (put (eqb (v.parent j) i) j) (among_split k l (suc j)) ∙ put-append (eqb (v.parent j) i) j (children_among v i k (suc j)) (children_among v i l (suc j + k)))

  pub among_none : (k j : ℕ) → ((c : ℕ) → j ≤ c → c < j + k → v.parent c ≡ i → ⊥) → children_among v i k j ≡ []
  among_none zero j h = refl
  among_none (suc k) j h = rw (ne_eqb _ _ (h j (omega arith) (omega arith))) (among_none k (suc j) (λ c l m. h c (omega arith) (omega arith)))

-- ---- the children: the later nodes with that parent

pub record Child (v : Nodes) (i j : ℕ) : Type 0 where
  pub later : 0 < j
  pub within : j < v.count
  pub parent : v.parent j ≡ i

pub is_child : (v : Nodes) (i c : ℕ) → Memᴰ c (children v i) → Child v i c
unfolding children
is_child v i c m =
    let r = of_from (λ x. eqb (v.parent x) i) c (v.count - 1) 1 m in
    record { later = r.0; within = omega (arith, r.0, r.1); parent = eqb-true (v.parent c) i r.2 }

pub in_children : (v : Nodes) (i c : ℕ) → Child v i c → Memᴰ c (children v i)
unfolding children
in_children v i c h = in_from (λ x. eqb (v.parent x) i) c (v.count - 1) 1 h.later (omega (arith, h.later, h.within)) (eq-eqb (v.parent c) i h.parent)

pub children_ascend : (v : Nodes) (i : ℕ) → Ascending 1 (children v i)
unfolding children
children_ascend v i = from_ascend (λ x. eqb (v.parent x) i) (v.count - 1) 1

-- ---- the nodes under a node

pub data Under (v : Nodes) (i : ℕ) : ℕ → Type 0 where
  here : Under v i i
  down : {j p : ℕ} → Child v p j → Under v i p → Under v i j

pub under_child : (v : Nodes) (i c j : ℕ) → Child v i c → Under v c j → Under v i j
under_child v i c j h here = down h here
under_child v i c j h (down {p = p} k u) = down k (under_child v i c p h u)

-- of two nodes over one node, one is under the other
pub meet-under : (v : Nodes) (j c d : ℕ) → Under v c j → Under v d j → Under v c d ⊎ Under v d c
meet-under v j c d u w = met v c d j u w
  where
    met : (v : Nodes) (c d j : ℕ) → Under v c j → Under v d j → Under v c d ⊎ Under v d c
    met v c d j here w = inr w
    met v c d j (down h u) here = inl (down h u)
    met v c d j (down {p = p} h u) (down {p = q} k w) = met v c d p u (subst (λ (z : ℕ). Under v d z) (sym k.parent ∙ h.parent) w)

-- a leaf under i with species x
pub record Leaf (v : Nodes) (i x : ℕ) : Type 0 where
  pub at : ℕ
  pub under : Under v i at
  pub within : at < v.count
  pub bare : children v at ≡ []
  pub species : v.species at ≡ x

module _ (n : ℕ) (v : Nodes) (g : Good n v) where
  pub child_later : (i c : ℕ) → Child v i c → i < c
  child_later i c h = subst (λ (p : ℕ). p < c) h.parent (g.later c h.later h.within)

  pub under-le : (i j : ℕ) → Under v i j → i ≤ j
  under-le i j here = omega arith
  under-le i j (down {p = p} h u) = omega (arith, under-le i p u, child_later p j h)

  -- all children of i come after i
  pub children-after : (i : ℕ) → i < v.count → children v i ≡ children_among v i (v.count - (i + 1)) (i + 1)
  unfolding children
  children-after i h =
      let m : v.count - 1 ≡ i + (v.count - (i + 1)) = omega arith in
      let s : 1 + i ≡ i + 1 = omega arith in
      ap (λ (z : ℕ). children_among v i z 1) m ∙ among_split v i i (v.count - (i + 1)) 1
      ∙ ap (λ (l : List ℕ). l ++ children_among v i (v.count - (i + 1)) (1 + i)) (among_none v i i 1 (λ c p q e. omega (arith, g.later c p (omega arith))))
      ∙ ap (λ (z : ℕ). children_among v i (v.count - (i + 1)) z) s

  -- what is so of a node where it is so of its children is so of every node
  pub by_children {ℓ} : (P : ℕ → Type ℓ) → ((i : ℕ) → i < v.count → ((c : ℕ) → Child v i c → P c) → P i) → (i : ℕ) → i < v.count → P i
  by_children P step i h = go v.count i h (omega arith)
    where
      go : (k i : ℕ) → i < v.count → v.count ≤ i + k → P i
      go zero i h f = absurd (omega arith)
      go (suc k) i h f = step i h (λ c ch. go k c ch.within (omega (arith, child_later i c ch)))

  -- ---- the tree at a node

  -- enough levels
  pub stable : (k l i : ℕ) → i < v.count → v.count - i ≤ k → v.count - i ≤ l → tree_at v k i ≡ tree_at v l i
  unfolding tree_at
  stable zero l i h p q = absurd (omega arith)
  stable (suc k) zero i h p q = absurd (omega arith)
  stable (suc k) (suc l) i h p q = ap (grow (v.species i)) (forest_cong (tree_at v k) (tree_at v l) (children v i)
      (λ c m. let ch = is_child v i c m in stable k l c ch.within (omega (arith, child_later i c ch)) (omega (arith, child_later i c ch))))

  pub subtree-eq : (i : ℕ) → i < v.count → subtree v i ≡ grow (v.species i) (forest_of (subtree v) (children v i))
  unfolding tree_at
  subtree-eq i h = stable v.count (suc v.count) i h (omega arith) (omega arith)

  pub subtree_leaf : (i : ℕ) → i < v.count → children v i ≡ [] → subtree v i ≡ leaf (v.species i)
  subtree_leaf i h e = subtree-eq i h ∙ ap (λ (l : List ℕ). grow (v.species i) (forest_of (subtree v) l)) e

  -- ---- the species of a subtree

  pub child_in : (i c x : ℕ) → i < v.count → Child v i c → So (under (subtree v c) x) → So (under (subtree v i) x)
  child_in i c x h ch s = subst (λ (t : Tree). So (under t x)) (sym (subtree-eq i h)) (go (children v i) (in_children v i c ch))
    where
      go : (l : List ℕ) → Memᴰ c l → So (under (grow (v.species i) (forest_of (subtree v) l)) x)
      go [] m = absurd (Memᴰ.not-nil m)
      go (d ∷ l) m = mem-under_f (subtree v) (d ∷ l) x c m s

  pub under_in : (i j x : ℕ) → j < v.count → Under v i j → So (under (subtree v j) x) → So (under (subtree v i) x)
  under_in i j x h here s = s
  under_in i j x h (down {p = p} ch u) s =
      let hp : p < v.count = omega (arith, child_later p j ch) in
      under_in i p x hp u (child_in p j x hp ch s)

  leaf_step : (i x : ℕ) → i < v.count → ((c : ℕ) → Child v i c → So (under (subtree v c) x) → Leaf v c x) → So (under (subtree v i) x) → Leaf v i x
  leaf_step i x h ih s = go (children v i) refl (subst (λ (t : Tree). So (under t x)) (subtree-eq i h) s)
    where
      go : (l : List ℕ) → children v i ≡ l → So (under (grow (v.species i) (forest_of (subtree v) l)) x) → Leaf v i x
      go [] e s = record { at = i; under = here; within = h; bare = e; species = eqb-true (v.species i) x s }
      go (c ∷ cs) e s =
          let m = under_f-mem (subtree v) (c ∷ cs) x s in
          let ch = is_child v i m.0 (subst (λ (l : List ℕ). Memᴰ m.0 l) (sym e) m.1) in
          let r = ih m.0 ch m.2 in
          record { at = r.at; under = under_child v i m.0 r.at ch r.under; within = r.within; bare = r.bare; species = r.species }

  pub in_leaf : (i x : ℕ) → i < v.count → So (under (subtree v i) x) → Leaf v i x
  in_leaf i x = by_children (λ j. So (under (subtree v j) x) → Leaf v j x) (λ j. leaf_step j x) i

  leaf_small : (j : ℕ) → j < v.count → children v j ≡ [] → v.species j < n
  leaf_small j h e = g.outer j h (ap length e)

  pub bounded : (i x : ℕ) → i < v.count → So (under (subtree v i) x) → x < n
  bounded i x h s = let r = in_leaf i x h s in omega (arith, leaf_small r.at r.within r.bare, r.species)

  pub one_leaf : (i j : ℕ) → i < v.count → j < v.count → children v i ≡ [] → children v j ≡ [] → v.species i ≡ v.species j → i ≡ j
  one_leaf i j hi hj ei ej e = by_order i j
      (λ l. absurd (g.once i j l hj (ap length ei) (ap length ej) e))
      (λ q. q)
      (λ l. absurd (g.once j i l hi (ap length ej) (ap length ei) (sym e)))

  -- ---- two children

  no_under : (i c d : ℕ) → Child v i c → Child v i d → c < d → Under v c d → ⊥
  no_under i c d h k l here = omega arith
  no_under i c d h k l (down {p = p} m u) = omega (arith, child_later i c h, under-le c p u, m.parent, k.parent)

  -- no node is under two of them
  pub apart : (i c d j : ℕ) → Child v i c → Child v i d → c < d → Under v c j → Under v d j → ⊥
  apart i c d j h k l u w = ⊎_elim (λ z. no_under i c d h k l z) (λ z. omega (arith, under-le d c z)) (meet-under v j c d u w)

  -- nor is a species
  pub children-apart : (i c d x : ℕ) → Child v i c → Child v i d → c < d → So (under (subtree v c) x) → So (under (subtree v d) x) → ⊥
  children-apart i c d x h k l p q =
      let s = in_leaf c x h.within p in
      let t = in_leaf d x k.within q in
      let e = one_leaf s.at t.at s.within t.within s.bare t.bare (s.species ∙ sym t.species) in
      apart i c d t.at h k l (subst (λ (z : ℕ). Under v c z) e s.under) t.under
