-- Good nodes without an inner node that is not the root are good, and their tree has exactly the other groups. Assumes nothing.
use mathlib.Core.Bool.{So}
use mathlib.Core.List.{[]}
use mathlib.Core.Logic.{◌↔◌, ◌≢◌, ◌⊎◌, inl, inr, ⊎_elim}
use mathlib.Core.Path.{◌∙◌, ◌≡◌, ap, fun_ext, refl, subst, sym}
use Prim.Native.Nat.{◌<◌, ◌≤◌, ℕ}
use native.Mathlib.Decide.{ℕ_discrete}
use native.Mathlib.Omega.{arith}
use borrow.Author.Tests.{eq-eqb}
use lib.ListN.{length}
use Rattle.sets.proofs.Bools.{bool_ext, by_order}
use Rattle.sets.specs.Species.{Species, Two}
use Rattle.trees.specs.Trees.{Group, Tree, under}
use Rattle.trees.proofs.Lowest.{some_species}
use Rattle.bodies.proofs.Drawn.{subtree_formed}
use Rattle.bodies.proofs.Under.{Child, Under, child_in, child_later, children-apart, down, here, in_leaf, subtree_leaf, under_in}
use Rattle.bodies.specs.Draws.{subtree}
use Rattle.bodies.specs.Nodes.{Good, Nodes, children, none}
use Rattle.bodies.proofs.NodeGroups.{group_node, node_group}
use Rattle.dropping.proofs.ManyChildren.{bare_e, bare_i, some_child, some_many, two-children, two_many}
use Rattle.dropping.proofs.Numbering.{new_less, new_old, new_within, old_less, old_low, old_ne, old_new, old_within, parent_gone, parent_other, within_old}
use Rattle.dropping.specs.Without.{Without, new_number, new_parent, old_number}

module _ (n : ℕ) (small : n ≤ 64) (v : Nodes) (g : Good n v) (k : ℕ) (pos : 0 < k) (lt : k < v.count) (inner : v.species k ≡ none) (v' : Nodes) (w : Without v k v') where
  -- k's parent
  abbrev a : ℕ
  a = v.parent k

  a_low : a < k
  a_low = g.later k pos lt

  k_child : Child v a k
  k_child = record { later = pos; within = lt; parent = refl }

  k_many : 2 ≤ length (children v k)
  k_many = go (ℕ_discrete (length (children v k)) 0)
    where
      go : Dec (length (children v k) ≡ 0) → 2 ≤ length (children v k)
      go (yes e) = absurd (omega (arith, g.outer k lt e))
      go (no z) = g.two k lt (omega arith)

  k_le : k ≤ v'.count
  k_le = omega (arith, w.count)

  old_in : (i : ℕ) → i < v'.count → old_number k i < v.count
  old_in i h = omega (arith, w.count, old_within k i v'.count h)

  old_zero : old_number k 0 ≡ 0
  old_zero = old_low k 0 pos

  old_pos : (i : ℕ) → 0 < i → 0 < old_number k i
  old_pos i p = omega (arith, old_less k 0 i p)

  -- ---- the children of a node: its old ones, and those of k where k was one

  abbrev Kid : ℕ → ℕ → Type 0
  Kid i c = Child v (old_number k i) (old_number k c) ⊎ ((old_number k i ≡ a) × Child v k (old_number k c))

  of_child : (i c : ℕ) → Child v' i c → Kid i c
  of_child i c h =
      let e = w.parent c h.later h.within in
      go (ℕ_discrete (v.parent (old_number k c)) k) e
    where
      go : Dec (v.parent (old_number k c) ≡ k) → v'.parent c ≡ new_parent k a (v.parent (old_number k c)) → Kid i c
      go (yes p) e =
          let q : i ≡ a = sym h.parent ∙ e ∙ parent_gone k a (v.parent (old_number k c)) p in
          inr (ap (old_number k) q ∙ old_low k a a_low, record { later = old_pos c h.later; within = old_in c h.within; parent = p })
      go (no p) e =
          let q : i ≡ new_number k (v.parent (old_number k c)) = sym h.parent ∙ e ∙ parent_other k a (v.parent (old_number k c)) p in
          inl (record { later = old_pos c h.later; within = old_in c h.within; parent = sym (ap (old_number k) q ∙ old_new k (v.parent (old_number k c)) p) })

  old_back : (c : ℕ) → 0 < old_number k c → 0 < c
  old_back c p = by_order c 0 (λ l. absurd (omega arith)) (λ e. absurd (omega (arith, p, ap (old_number k) e, old_zero))) (λ l. l)

  to_child : (i c : ℕ) → Kid i c → Child v' i c
  to_child i c (inl h) =
      let p : 0 < c = old_back c h.later in
      let q : c < v'.count = within_old k c v'.count k_le (omega (arith, w.count, h.within)) in
      let ne : v.parent (old_number k c) ≢ k = λ e. old_ne k i (sym h.parent ∙ e) in
      record { later = p; within = q; parent = w.parent c p q ∙ parent_other k a (v.parent (old_number k c)) ne ∙ ap (new_number k) h.parent ∙ new_old k i }
  to_child i c (inr (e, h)) =
      let p : 0 < c = old_back c h.later in
      let q : c < v'.count = within_old k c v'.count k_le (omega (arith, w.count, h.within)) in
      let z : a ≡ i = sym (old_low_new e) ∙ new_old k i in
      record { later = p; within = q; parent = w.parent c p q ∙ parent_gone k a (v.parent (old_number k c)) h.parent ∙ z }
    where
      old_low_new : old_number k i ≡ a → new_number k (old_number k i) ≡ a
      old_low_new e = ap (new_number k) (e ∙ sym (old_low k a a_low)) ∙ new_old k a

  -- ---- the nodes under a node

  under_old : (i c : ℕ) → Under v' i c → Under v (old_number k i) (old_number k c)
  under_old i c here = here
  under_old i c (down {p = p} h u) = ⊎_elim
      (λ q. down q (under_old i p u))
      (λ q. down q.1 (down k_child (subst (λ (z : ℕ). Under v (old_number k i) z) q.0 (under_old i p u))))
      (of_child p c h)

  -- j's new number is under i; where j is k, its parent's is
  abbrev Moved : ℕ → ℕ → Type 0
  Moved i j = (j ≢ k → Under v' i (new_number k j)) × (j ≡ k → Under v' i a)

  under_new : (i j : ℕ) → Under v (old_number k i) j → Moved i j
  under_new i j here = ((λ ne. subst (λ (z : ℕ). Under v' i z) (sym (new_old k i)) here), λ e. absurd (old_ne k i e))
  under_new i j (down {p = p} h u) =
      let ih = under_new i p u in (
        λ ne. go (ℕ_discrete p k) ih ne,
        λ e.
            let q : p ≡ a = sym h.parent ∙ ap v.parent e in
            let np : p ≢ k = λ z. omega (arith, a_low) in
            subst (λ (z : ℕ). Under v' i z) (ap (new_number k) (q ∙ sym (old_low k a a_low)) ∙ new_old k a) (ih.0 np),
      )
    where
      go : Dec (p ≡ k) → Moved i p → j ≢ k → Under v' i (new_number k j)
      go (yes e) ih ne = down
          (to_child a (new_number k j) (inr (old_low k a a_low, subst (λ (z : ℕ). Child v z (old_number k (new_number k j))) e (subst (λ (z : ℕ). Child v p z) (sym (old_new k j ne)) h))))
          (ih.1 e)
      go (no np) ih ne = down
          (to_child (new_number k p) (new_number k j) (inl (subst (λ (z : ℕ). Child v z (old_number k (new_number k j))) (sym (old_new k p np)) (subst (λ (z : ℕ). Child v p z) (sym (old_new k j ne)) h))))
          (ih.0 np)

  -- ---- leaves

  kid_old : (i c : ℕ) → Kid i c → (d : ℕ) × Child v (old_number k i) d
  kid_old i c (inl h) = (old_number k c, h)
  kid_old i c (inr (e, h)) = (k, subst (λ (z : ℕ). Child v z k) (sym e) k_child)

  -- a child d of an old node, other than k, is a child still
  keep : (i d : ℕ) → d ≢ k → Child v (old_number k i) d → Child v' i (new_number k d)
  keep i d ne h = to_child i (new_number k d) (inl (subst (λ (z : ℕ). Child v (old_number k i) z) (sym (old_new k d ne)) h))

  -- and so is a child e of k, where k was one
  handed : (i e : ℕ) → Child v (old_number k i) k → Child v k e → Child v' i (new_number k e)
  handed i e h c =
      let ne : e ≢ k = λ z. omega (arith, child_later n v g k e c) in
      to_child i (new_number k e) (inr (sym h.parent, subst (λ (z : ℕ). Child v k z) (sym (old_new k e ne)) c))

  bare_old : (i : ℕ) → children v' i ≡ [] → children v (old_number k i) ≡ []
  bare_old i e = bare_i v (old_number k i) (λ d h. go d h (ℕ_discrete d k))
    where
      go : (d : ℕ) → Child v (old_number k i) d → Dec (d ≡ k) → ⊥
      go d h (yes q) = let r = some_child v k (omega (arith, k_many)) in
          bare_e v' i e (new_number k r.0) (handed i r.0 (subst (λ (z : ℕ). Child v (old_number k i) z) q h) r.1)
      go d h (no ne) = bare_e v' i e (new_number k d) (keep i d ne h)

  bare_new : (i : ℕ) → children v (old_number k i) ≡ [] → children v' i ≡ []
  bare_new i e = bare_i v' i (λ c h. let r = kid_old i c (of_child i c h) in bare_e v (old_number k i) e r.0 r.1)

  -- ---- the rules

  two_new : (i : ℕ) → i < v'.count → 0 < length (children v' i) → 2 ≤ length (children v' i)
  two_new i h s =
      let c = some_child v' i s in
      let d = kid_old i c.0 (of_child i c.0 c.1) in
      let (x, y, hx, hy, l) = two-children v (old_number k i) (g.two (old_number k i) (old_in i h) (some_many v (old_number k i) d.0 d.1)) in
      go x y hx hy l (ℕ_discrete x k) (ℕ_discrete y k)
    where
      given : Child v (old_number k i) k → 2 ≤ length (children v' i)
      given q = let (x, y, hx, hy, l) = two-children v k k_many in
          two_many v' i (new_number k x) (new_number k y) (handed i x q hx) (handed i y q hy)
          (new_less k x y (λ z. omega (arith, child_later n v g k x hx)) (λ z. omega (arith, child_later n v g k y hy)) l)

      go : (x y : ℕ) → Child v (old_number k i) x → Child v (old_number k i) y → x < y → Dec (x ≡ k) → Dec (y ≡ k) → 2 ≤ length (children v' i)
      go x y hx hy l (yes e) q = given (subst (λ (z : ℕ). Child v (old_number k i) z) e hx)
      go x y hx hy l (no e) (yes q) = given (subst (λ (z : ℕ). Child v (old_number k i) z) q hy)
      go x y hx hy l (no e) (no q) = two_many v' i (new_number k x) (new_number k y) (keep i x e hx) (keep i y q hy) (new_less k x y e q l)

  none-children : (u : Nodes) (i : ℕ) → length (children u i) ≡ 0 → children u i ≡ []
  none-children u i e = bare_i u i (λ c h. omega (arith, e, some_many u i c h))

  later_new : (i : ℕ) → 0 < i → i < v'.count → v'.parent i < i
  later_new i p h =
      let c : Child v' (v'.parent i) i = record { later = p; within = h; parent = refl } in
      ⊎_elim
      (λ q. back (v'.parent i) i (child_later n v g (old_number k (v'.parent i)) (old_number k i) q))
      (λ q. back (v'.parent i) i (omega (arith, q.0, a_low, child_later n v g k (old_number k i) q.1)))
      (of_child (v'.parent i) i c)
    where
      back : (x y : ℕ) → old_number k x < old_number k y → x < y
      back x y l = by_order x y (λ z. z) (λ e. absurd (omega (arith, l, ap (old_number k) e))) (λ z. absurd (omega (arith, l, old_less k y x z)))

  pub without_good : Good n v'
  without_good = record {
    root = λ h. w.root;
    later = later_new;
    inner = λ i h s.
        let c = some_child v' i s in
        let d = kid_old i c.0 (of_child i c.0 c.1) in
        w.species i h ∙ g.inner (old_number k i) (old_in i h) (some_many v (old_number k i) d.0 d.1);
    two = two_new;
    outer = λ i h e. omega (arith, w.species i h, g.outer (old_number k i) (old_in i h) (ap length (bare_old i (none-children v' i e))));
    once = λ i j l h e f q. g.once (old_number k i) (old_number k j) (old_less k i j l) (old_in j h)
        (ap length (bare_old i (none-children v' i e))) (ap length (bare_old j (none-children v' j f)))
        (sym (w.species i (omega arith)) ∙ q ∙ w.species j h);
  }

  -- ---- the species under a node are as they were

  at_leaf : (u : Nodes) → Good n u → (i x : ℕ) → i < u.count → children u i ≡ [] → u.species i ≡ x → So (under (subtree u i) x)
  at_leaf u gu i x h e s = subst (λ (t : Tree). So (under t x)) (sym (subtree_leaf n u gu i h e)) (eq-eqb (u.species i) x s)

  species_old : (i x : ℕ) → i < v'.count → So (under (subtree v' i) x) → So (under (subtree v (old_number k i)) x)
  species_old i x h s =
      let r = in_leaf n v' without_good i x h s in
      under_in n v g (old_number k i) (old_number k r.at) x (old_in r.at r.within) (under_old i r.at r.under)
      (at_leaf v g (old_number k r.at) x (old_in r.at r.within) (bare_old r.at r.bare) (sym (w.species r.at r.within) ∙ r.species))

  species_new : (i x : ℕ) → i < v'.count → So (under (subtree v (old_number k i)) x) → So (under (subtree v' i) x)
  species_new i x h s =
      let r = in_leaf n v g (old_number k i) x (old_in i h) s in
      let ne : r.at ≢ k = λ e. omega (arith, k_many, ap length (subst (λ (z : ℕ). children v z ≡ []) e r.bare)) in
      let q = old_new k r.at ne in
      let m = new_within k r.at v'.count k_le ne (omega (arith, w.count, r.within)) in
      under_in n v' without_good i (new_number k r.at) x m ((under_new i r.at r.under).0 ne)
      (at_leaf v' without_good (new_number k r.at) x m (bare_new (new_number k r.at) (subst (λ (z : ℕ). children v z ≡ []) (sym q) r.bare))
      (w.species (new_number k r.at) m ∙ ap v.species q ∙ r.species))

  same_species : (i : ℕ) → i < v'.count → under (subtree v' i) ≡ under (subtree v (old_number k i))
  same_species i h = fun_ext (λ x. bool_ext (under (subtree v' i) x) (under (subtree v (old_number k i)) x) (species_old i x h) (species_new i x h))

  -- ---- the groups

  pub some_left : 0 < v'.count
  some_left = omega (arith, pos, k_le)

  -- k's group has two species: one of each of two children
  pub without_two : Two (under (subtree v k))
  without_two =
      let (x, y, hx, hy, l) = two-children v k k_many in
      let p = some_species (subtree v x) (subtree_formed n v g x hx.within) in
      let q = some_species (subtree v y) (subtree_formed n v g y hy.within) in (
        p.0,
        q.0,
        child_in n v g k x p.0 lt hx p.1,
        child_in n v g k y q.0 lt hy q.1,
        λ e. children-apart n v g k x y p.0 hx hy l p.1 (subst (λ (z : ℕ). So (under (subtree v y) z)) (sym e) q.1),
      )

  -- where no two nodes have the same group
  module _ (one : (i j : ℕ) → i < v.count → j < v.count → under (subtree v i) ≡ under (subtree v j) → i ≡ j) where
    pub without_groups : (H : Species) → Group (subtree v' 0) H ↔ (Group (subtree v 0) H × (H ≢ under (subtree v k)))
    without_groups H = (
      λ m.
          let (i, h, e) = group_node n v' without_good 0 some_left H m in
          let q = e ∙ same_species i h in
          (subst (Group (subtree v 0)) (sym q) (node_group n v g (old_number k i) (old_in i h)), λ z. old_ne k i (one (old_number k i) k (old_in i h) lt (sym q ∙ z))),
      λ m.
          let (j, h, e) = group_node n v g 0 (omega arith) H m.0 in
          let ne : j ≢ k = λ z. m.1 (e ∙ ap (λ (y : ℕ). under (subtree v y)) z) in
          let l = new_within k j v'.count k_le ne (omega (arith, w.count)) in
          let q : H ≡ under (subtree v' (new_number k j)) = e ∙ ap (λ (y : ℕ). under (subtree v y)) (sym (old_new k j ne)) ∙ sym (same_species (new_number k j) l) in
          subst (Group (subtree v' 0)) (sym q) (node_group n v' without_good (new_number k j) l),
    )
