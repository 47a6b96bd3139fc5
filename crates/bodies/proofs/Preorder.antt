-- The groups of a tree, in preorder, are those of the nodes of its body, in their order; no two nodes have the same group. Assumes nothing.
use mathlib.Core.Bool.{So}
use mathlib.Core.List.Memᴰ
use mathlib.Core.List.{List, Memᴰ, [], ◌++◌, ◌∷◌}
use mathlib.Core.Logic.{⊎_elim}
use mathlib.Core.Path.{◌∙◌, ◌≡◌, ap, ap₂, refl, subst, sym}
use Prim.Native.Nat.{◌+◌, ◌<◌, ◌≤◌, suc, zero, ℕ}
use native.Mathlib.Decide.{ℕ_discrete}
use native.Mathlib.Omega.{arith}
use Rattle.sets.proofs.Bools.{by_order}
use Rattle.sets.specs.Species.{Below, Species}
use Rattle.trees.proofs.FirstUnearned.{groups-different}
use Rattle.trees.proofs.Formed.{formed_e}
use Rattle.trees.specs.Loosen.{Different}
use Rattle.trees.specs.Trees.{Forest, Tree, cons, groups, groups_f, leaf, nil, node, under, well_formed}
use Rattle.bodies.proofs.Back.{body_count, body_good, lays_body}
use Rattle.bodies.proofs.Laid.{Lays, LaysF, Outside, back, outside_first, outside_kids, outside_rest}
use Rattle.bodies.specs.Draws.{body_of, node_count, node_count_f, subtree}
use Rattle.bodies.specs.Nodes.{Good, Nodes, nodes, none}

-- the groups of the k nodes from node at on
abbrev pub groups_from : Nodes → ℕ → ℕ → List Species
groups_from v zero at = []
groups_from v (suc k) at = under (subtree v at) ∷ groups_from v k (suc at)

module _ (v : Nodes) where
  pub groups_split : (k l at : ℕ) → groups_from v (k + l) at ≡ groups_from v k at ++ groups_from v l (at + k)
  groups_split zero l at =
      let a : zero + l ≡ l = omega arith in
      let b : at + zero ≡ at = omega arith in
      rw (a, b) refl
  groups_split (suc k) l at =
      let a : suc k + l ≡ suc (k + l) = omega arith in
      let b : at + suc k ≡ suc at + k = omega arith in
      rw (a, b) (ap (λ (z : List Species). under (subtree v at) ∷ z) (groups_split k l (suc at)))

  in_groups : (k at i : ℕ) → at ≤ i → i < at + k → Memᴰ (under (subtree v i)) (groups_from v k at)
  in_groups zero at i h m = absurd (omega arith)
  in_groups (suc k) at i h m = go (ℕ_discrete i at) (λ z. in_groups k (suc at) i z (omega arith))
    where
      go : Dec (i ≡ at) → (suc at ≤ i → Memᴰ (under (subtree v i)) (groups_from v k (suc at))) → Memᴰ (under (subtree v i)) (groups_from v (suc k) at)
      go (yes e) ih = Memᴰ.head (ap (λ (z : ℕ). under (subtree v z)) e)
      go (no n) ih = Memᴰ.tail (ih (omega arith))

  pub of_groups : (k at : ℕ) (H : Species) → Memᴰ H (groups_from v k at) → (i : ℕ) × (at ≤ i) × (i < at + k) × (H ≡ under (subtree v i))
  of_groups zero at H m = absurd (Memᴰ.not-nil m)
  of_groups (suc k) at H m = ⊎_elim
      (λ e. (at, omega arith, omega arith, e))
      (λ r. let (i, h, l, e) = of_groups k (suc at) H r in (i, omega arith, omega arith, e))
      (Memᴰ.cases_cons m)

  once : (k at i j : ℕ) → Different (groups_from v k at) → at ≤ i → i < j → j < at + k → under (subtree v i) ≡ under (subtree v j) → ⊥
  once zero at i j d a b c e = omega arith
  once (suc k) at i j d a b c e = go (ℕ_discrete i at) (λ z. once k (suc at) i j d.1 z b (omega arith) e)
    where
      go : Dec (i ≡ at) → (suc at ≤ i → ⊥) → ⊥
      go (yes q) ih = d.0 (subst (λ (P : Species). Memᴰ P (groups_from v k (suc at))) (sym e ∙ ap (λ (z : ℕ). under (subtree v z)) q)
          (in_groups k (suc at) j (omega arith) (omega arith)))
      go (no n) ih = ih (omega arith)

  module _ (n : ℕ) (small : n ≤ 255) (g : Good n v) where
    mutual
      tree_groups : (u : Tree) (p at : ℕ) → Lays v u p at → Outside v at (node_count u) → at + node_count u ≤ v.count → groups u ≡ groups_from v (node_count u) at
      tree_groups (leaf x) p at l o h = ap (λ (z : Tree). under z ∷ []) (sym (back v n small g (leaf x) p at l o h))
      tree_groups (node f) p at l o h = ap₂ (λ (G : Species) (k : List Species). G ∷ k)
          (ap under (sym (back v n small g (node f) p at l o h)))
          (forest_groups f at (suc at) (omega arith) l.2 (outside_kids v f at o) (omega arith))

      forest_groups : (f : Forest) (p at : ℕ) → p < at → LaysF v f p at → Outside v at (node_count_f f) → at + node_count_f f ≤ v.count
          → groups_f f ≡ groups_from v (node_count_f f) at
      forest_groups nil p at q l o h = refl
      forest_groups (cons u f) p at q l o h =
          ap₂ (λ (k m : List Species). k ++ m)
          (tree_groups u p at l.0 (outside_first v u f p at q l.1 o) (omega arith))
          (forest_groups f p (at + node_count u) (omega arith) l.1 (outside_rest v u f at o) (omega arith))
          ∙ sym (groups_split (node_count u) (node_count_f f) at)

-- ---- the nodes of a tree's body

module _ (n : ℕ) (t : Tree) (w : So (well_formed t)) (bd : Below n (under t)) (small : n ≤ 64) where
  pub body_groups : groups t ≡ groups_from (nodes (body_of t)) (node_count t) 0
  body_groups =
      let e = body_count t in
      tree_groups (nodes (body_of t)) n (omega arith) (body_good n t w bd small) t none 0 (lays_body t) (λ c h m a b. omega arith) (omega arith)

  pub body_one : (i j : ℕ) → i < node_count t → j < node_count t → under (subtree (nodes (body_of t)) i) ≡ under (subtree (nodes (body_of t)) j) → i ≡ j
  body_one i j hi hj e =
      let d = subst Different body_groups (groups-different t (formed_e t w)) in
      by_order i j
      (λ l. absurd (once (nodes (body_of t)) (node_count t) 0 i j d (omega arith) l (omega arith) e))
      (λ q. q)
      (λ l. absurd (once (nodes (body_of t)) (node_count t) 0 j i d (omega arith) l (omega arith) (sym e)))
