-- From a node to its only child that is touched, and on: the cut stays the same. Assumes nothing.
use mathlib.Core.Bool.{So, ◌&&◌}
use mathlib.Core.List.Memᴰ
use mathlib.Core.List.{List, Memᴰ, [], ◌∷◌}
use mathlib.Core.Logic.{◌↔◌, inl, inr, ⊎_elim}
use mathlib.Core.Path.{◌∙◌, ◌≡◌, ap, refl, subst, sym}
use Prim.Native.Nat.{◌+◌, ◌<◌, ◌≤◌, ℕ}
use native.Mathlib.Omega.{arith}
use borrow.Author.Count.{below_more}
use lib.ListN.{get_or}
use Rattle.sets.proofs.Bools.{and_i, and_l, and_r}
use Rattle.sets.proofs.Tests.{has_true, true_has}
use Rattle.sets.specs.Sets.{Subset, has, meet}
use Rattle.sets.specs.Species.{Species}
use Rattle.trees.proofs.Cut.{under-cut}
use Rattle.trees.proofs.CutRule.{cut_child}
use Rattle.trees.proofs.Formed.{Formed}
use Rattle.trees.proofs.House.{by_low, house_formed, house-under, house_f-under}
use Rattle.trees.specs.Cut.{cut}
use Rattle.trees.specs.Trees.{Child, Forest, Tree, cons, hang, house, house_f, nil, node, under, under_f}
use Rattle.bodies.proofs.Drawn.{subtree-below, subtree_formed}
use Rattle.bodies.proofs.Under as Under
use Rattle.bodies.specs.Draws.{forest_of, subtree}
use Rattle.bodies.specs.Nodes.{Good, Nodes, children}
use Rattle.groups.specs.Groups.{Groups}
use Rattle.children.proofs.Left.{Opened, alone, opened, parted}
use Rattle.cutting.specs.Descends.{Descends, HasAll}
use Rattle.cutting.proofs.Touching.{has_part, has-set}

-- ---- a child stands among the children in house order

hang_first : (t : Tree) (f : Forest) → Child t (hang t f)
hang_first t nil = inl refl
hang_first t (cons u f) = by_low t u f (Child t) (λ l. inl refl) (λ l. inr (hang_first t f))

hang_other : (t s : Tree) (f : Forest) → Child s f → Child s (hang t f)
hang_other t s nil m = absurd m
hang_other t s (cons u f) m = by_low t u f (Child s) (λ l. inr m) (λ l. ⊎_elim inl (λ k. inr (hang_other t s f k)) m)

house_child : (t : ℕ → Tree) (l : List ℕ) (c : ℕ) → Memᴰ c l → Child (house (t c)) (house_f (forest_of t l))
house_child t [] c m = absurd (Memᴰ.not-nil m)
house_child t (d ∷ l) c m = ⊎_elim
    (λ e. subst (λ (z : ℕ). Child (house (t z)) (house_f (forest_of t (d ∷ l)))) (sym e) (hang_first (house (t d)) (house_f (forest_of t l))))
    (λ k. hang_other (house (t d)) (house (t c)) (house_f (forest_of t l)) (house_child t l c k))
    (Memᴰ.cases_cons m)

module _ (v : Nodes) (g : Good 64 v) where
  -- ---- the cut of a node

  module _ (U : Species) where
    -- nodes with the same cut have the same species of U
    pub same_under : (i j : ℕ) → cut U (house (subtree v i)) ≡ cut U (house (subtree v j)) → (x : ℕ) → So (U x) → So (under (subtree v i) x) → So (under (subtree v j) x)
    same_under i j e x u h =
        let k = ap (λ (f : Forest). under_f f x) (sym e) ∙ under-cut U (house (subtree v i)) x ∙ and_i (under (house (subtree v i)) x) _ (house-under (subtree v i) x ∙ h) u in
        sym (house-under (subtree v j) x) ∙ and_l (under (house (subtree v j)) x) _ (sym (under-cut U (house (subtree v j)) x) ∙ k)

    child_same : (i c : ℕ) → i < v.count → Under.Child v i c → HasAll v U i c → cut U (house (subtree v c)) ≡ cut U (house (subtree v i))
    child_same i c h ch all = by (opened v g i h)
      where
        by : Opened v i → cut U (house (subtree v c)) ≡ cut U (house (subtree v i))
        by (alone n e t) = absurd (Memᴰ.not-nil (subst (Memᴰ c) e (Under.in_children v i c ch)))
        by (parted n t) =
            let f = forest_of (subtree v) (children v i) in
            let w = house_formed (node f) (subst Formed t (subtree_formed 64 v g i h)) in
            sym (ap (λ (z : Tree). cut U (house z)) t ∙ cut_child U (house_f f) w.1 (house (subtree v c)) (house_child (subtree v) (children v i) c (Under.in_children v i c ch))
            (λ x p u. house-under (subtree v c) x ∙ all x (ap (λ (z : Tree). under z x) t ∙ sym (house_f-under f x) ∙ p) u))

    -- ---- the search

    pub descends_start : (i : ℕ) → i < v.count → Descends v U i i (i + 1)
    descends_start i h = record {
      later = omega arith;
      within = h;
      same = refl;
      parts = λ c q p e a. omega (arith, g.later c p (omega arith));
    }

    module _ {i r k : ℕ} (d : Descends v U i r k) (h : k < v.count) where
      pub descends_on : v.parent k ≡ r → HasAll v U i k → 0 < k → Descends v U i k (k + 1)
      descends_on e all z =
          let ch : Under.Child v r k = record { later = z; within = h; parent = e } in
          record {
            later = omega (arith, d.later, Under.child_later 64 v g r k ch);
            within = h;
            same = child_same r k d.within ch (λ x p u. all x (same_under r i d.same x u p) u) ∙ d.same;
            parts = λ c q p e a. omega (arith, g.later c p (omega arith));
          }

      pub descends_past : (v.parent k ≡ r → HasAll v U i k → ⊥) → Descends v U i r (k + 1)
      descends_past n = record {
        later = d.later;
        within = d.within;
        same = d.same;
        parts = below_more _ k d.parts (λ z. n);
      }

    pub descends_end : {i r k : ℕ} → Descends v U i r k → v.count ≤ k → Descends v U i r v.count
    descends_end d h = record { later = d.later; within = d.within; same = d.same; parts = λ c l. d.parts c (omega arith) }

  -- ---- the test of the search

  pub subset_all : (groups : List ℕ) → Groups v groups → (set i j own : ℕ) → i < v.count → j < v.count → own ≡ meet (get_or groups i 0) set
      → Subset own (get_or groups j 0) ↔ HasAll v (has set) i j
  subset_all groups q set i j own hi hj e =
      let part : (x : ℕ) → has own x ≡ (under (subtree v i) x && has set x) = λ x. ap (λ (z : ℕ). has z x) e ∙ has_part (subtree v i) (subtree-below 64 v g i hi) _ (q.group i hi) set x in
      let there : (x : ℕ) → has (get_or groups j 0) x ≡ under (subtree v j) x = λ x. ap (λ (P : Species). P x) (has-set (subtree v j) (subtree-below 64 v g j hj) _ (q.group j hj)) in (
        (λ s x p u. sym (there x) ∙ true_has _ x (s x (has_true own x (part x ∙ and_i (under (subtree v i) x) _ p u)))),
        λ a x m. let k = sym (part x) ∙ true_has own x m in has_true _ x (there x ∙ a x (and_l (under (subtree v i) x) _ k) (and_r (under (subtree v i) x) _ k)),
      )
