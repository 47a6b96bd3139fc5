-- The groups of good nodes are the groups of their tree, every node is under the root, and of two nodes over one species the later is under the earlier.
-- Assumes nothing.
use mathlib.Core.Bool.{So}
use mathlib.Core.List.Memᴰ
use mathlib.Core.List.{List, Memᴰ, [], ◌∷◌}
use mathlib.Core.Logic.{⊎_elim}
use mathlib.Core.Path.{◌∙◌, ◌≡◌, ap, refl, subst, sym}
use Prim.Native.Nat.{◌<◌, ◌≤◌, suc, zero, ℕ}
use native.Mathlib.Decide.{ℕ_discrete}
use native.Mathlib.Omega.{arith}
use Rattle.sets.specs.Species.{Species}
use Rattle.trees.proofs.Groups.{root_group}
use Rattle.trees.specs.Trees.{Group, Tree, groups, groups_f, under}
use Rattle.bodies.proofs.Under.{Child, Under, by_children, child_later, down, here, in_children, in_leaf, is_child, meet-under, one_leaf, subtree-eq, under-le}
use Rattle.bodies.specs.Draws.{forest_of, grow, subtree}
use Rattle.bodies.specs.Nodes.{Good, Nodes, children}

-- ---- the groups of a node's tree: its own, and those of its children

groups-mem : (t : ℕ → Tree) (l : List ℕ) (G : Species) → Memᴰ G (groups_f (forest_of t l)) → (c : ℕ) × Memᴰ c l × Group (t c) G
groups-mem t [] G m = absurd (Memᴰ.not-nil m)
groups-mem t (c ∷ l) G m = ⊎_elim
    (λ k. (c, Memᴰ.head refl, k))
    (λ k. let r = groups-mem t l G k in (r.0, Memᴰ.tail r.1, r.2))
    (Memᴰ.append_cases (groups (t c)) m)

mem-groups : (t : ℕ → Tree) (l : List ℕ) (G : Species) (c : ℕ) → Memᴰ c l → Group (t c) G → Memᴰ G (groups_f (forest_of t l))
mem-groups t [] G c m k = absurd (Memᴰ.not-nil m)
mem-groups t (d ∷ l) G c m k = ⊎_elim
    (λ e. Memᴰ.append_left (groups_f (forest_of t l)) (subst (λ (z : ℕ). Group (t z) G) e k))
    (λ n. Memᴰ.append_right (groups (t d)) (mem-groups t l G c n k))
    (Memᴰ.cases_cons m)

module _ (n : ℕ) (v : Nodes) (g : Good n v) where
  -- a group is some node's
  abbrev pub NodeOf : Species → Type 0
  NodeOf G = (j : ℕ) × (j < v.count) × (G ≡ under (subtree v j))

  group_step : (i : ℕ) → i < v.count → ((c : ℕ) → Child v i c → (G : Species) → Group (subtree v c) G → NodeOf G) → (G : Species) → Group (subtree v i) G → NodeOf G
  group_step i h ih G m = go (children v i) refl (subst (λ (t : Tree). Group t G) (subtree-eq n v g i h) m)
    where
      own : (l : List ℕ) → children v i ≡ l → G ≡ under (grow (v.species i) (forest_of (subtree v) l)) → NodeOf G
      own l e q = (i, h, q ∙ ap under (sym (subtree-eq n v g i h ∙ ap (λ (l : List ℕ). grow (v.species i) (forest_of (subtree v) l)) e)))

      go : (l : List ℕ) → children v i ≡ l → Group (grow (v.species i) (forest_of (subtree v) l)) G → NodeOf G
      go [] e m = own [] e (Memᴰ.eq_of_singleton m)
      go (c ∷ l) e m = ⊎_elim (own (c ∷ l) e)
          (λ k. let r = groups-mem (subtree v) (c ∷ l) G k in ih r.0 (is_child v i r.0 (subst (λ (l : List ℕ). Memᴰ r.0 l) (sym e) r.1)) G r.2)
          (Memᴰ.cases_cons m)

  pub group_node : (i : ℕ) → i < v.count → (G : Species) → Group (subtree v i) G → NodeOf G
  group_node = by_children n v g (λ i. (G : Species) → Group (subtree v i) G → NodeOf G) group_step

  -- and a node's group is a group of every tree over it
  child_group : (i c : ℕ) (G : Species) → i < v.count → Child v i c → Group (subtree v c) G → Group (subtree v i) G
  child_group i c G h ch m = subst (λ (t : Tree). Group t G) (sym (subtree-eq n v g i h)) (go (children v i) (in_children v i c ch))
    where
      go : (l : List ℕ) → Memᴰ c l → Group (grow (v.species i) (forest_of (subtree v) l)) G
      go [] k = absurd (Memᴰ.not-nil k)
      go (d ∷ l) k = Memᴰ.tail (mem-groups (subtree v) (d ∷ l) G c k m)

  under_group : (i j : ℕ) (G : Species) → j < v.count → Under v i j → Group (subtree v j) G → Group (subtree v i) G
  under_group i j G h here m = m
  under_group i j G h (down {p = p} ch u) m =
      let hp : p < v.count = omega (arith, child_later n v g p j ch) in
      under_group i p G hp u (child_group p j G hp ch m)

  -- every node is under the root
  pub all_under : (j : ℕ) → j < v.count → Under v 0 j
  all_under j h = go (suc j) j (omega arith) h
    where
      go : (k j : ℕ) → j < k → j < v.count → Under v 0 j
      go zero j l h = absurd (omega arith)
      go (suc k) j l h = by (ℕ_discrete 0 j) (λ l. go k (v.parent j) l)
        where
          by : Dec (0 ≡ j) → (v.parent j < k → v.parent j < v.count → Under v 0 (v.parent j)) → Under v 0 j
          by (yes e) ih = subst (λ (z : ℕ). Under v 0 z) e here
          by (no m) ih =
              let p = g.later j (omega arith) h in
              down {j = j} {p = v.parent j} (record { later = omega arith; within = h; parent = refl }) (ih (omega arith) (omega arith))

  pub node_group : (j : ℕ) → j < v.count → Group (subtree v 0) (under (subtree v j))
  node_group j h = under_group 0 j (under (subtree v j)) h (all_under j h) (root_group (subtree v j))

  -- of two nodes over one species the later is under the earlier
  pub over : (i j x : ℕ) → i ≤ j → i < v.count → j < v.count → So (under (subtree v i) x) → So (under (subtree v j) x) → Under v i j
  over i j x l hi hj p q =
      let s = in_leaf n v g i x hi p in
      let t = in_leaf n v g j x hj q in
      let e = one_leaf n v g s.at t.at s.within t.within s.bare t.bare (s.species ∙ sym t.species) in
      ⊎_elim (λ u. u) (λ u. let z : j ≡ i = omega (arith, under-le n v g j i u) in subst (λ (k : ℕ). Under v k j) z here)
      (meet-under v t.at i j (subst (λ (z : ℕ). Under v i z) e s.under) t.under)
