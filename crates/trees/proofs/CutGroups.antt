-- The groups of a cut: what is left of each group of the whole tree, where something is. Assumes nothing.
use mathlib.Core.Bool.{Bool, So, ◌&&◌, cond, false, false≢true, or-false, true}
use mathlib.Core.List.Memᴰ
use mathlib.Core.List.{List, Memᴰ, [], ◌++◌}
use mathlib.Core.Logic.{◌↔◌, ◌⊎◌, inl, inr, ⊎_elim}
use mathlib.Core.Path.{◌∙◌, ◌≡◌, ap, fun_ext, refl, subst, sym}
use Prim.Native.Nat.{ℕ}
use native.Mathlib.Omega.{arith}
use borrow.Author.Tests.{eq-eqb}
use Rattle.sets.specs.Species.{Species}
use Rattle.trees.proofs.Cut.{formed_cut_f, leaf_under, under-cut_f}
use Rattle.trees.proofs.Dropping.{append-groups}
use Rattle.trees.proofs.Formed.{FormedF, Formed, formed_e}
use Rattle.trees.proofs.Groups.{root_group}
use Rattle.trees.proofs.Lowest.{some_species_f}
use Rattle.trees.specs.Cut.{cut, cut_f, knot}
use Rattle.trees.specs.Trees.{Forest, Group, Tree, cons, groups, groups_f, leaf, nil, node, under, under_f, well_formed}

abbrev Some : Species → Type 0
Some G = (x : ℕ) × So (G x)

-- the groups of the children that are left, and the one of their node
knot-groups : (f : Forest) → FormedF f → (G : Species) → Memᴰ G (groups_f (knot f)) ↔ (((G ≡ under_f f) × Some G) ⊎ Memᴰ G (groups_f f))
knot-groups nil w G = (inr, ⊎_elim (λ h. absurd (false≢true (subst (λ (P : Species). So (P h.1.0)) h.0 h.1.1))) (λ m. m))
knot-groups (cons t nil) w G =
    let e : under_f (cons t nil) ≡ under t = fun_ext (λ x. or-false _) in
    (inr, ⊎_elim (λ h. Memᴰ.append_left [] (subst (Group t) (sym (h.0 ∙ e)) (root_group t))) (λ m. m))
knot-groups (cons t (cons u f)) w G =
    let g = cons t (cons u f) in
    let s = some_species_f g (omega arith) w in (
      (λ m. ⊎_elim
          (λ k. ⊎_elim (λ e. inl (e, (s.0, subst (λ (P : Species). So (P s.0)) (sym e) s.1))) inr (Memᴰ.cases_cons k))
          (λ k. absurd (Memᴰ.not-nil k))
          (Memᴰ.append_cases (groups (node g)) m)),
      λ h. Memᴰ.append_left [] (⊎_elim (λ k. Memᴰ.head k.0) Memᴰ.tail h),
    )

module _ (U : Species) where
  -- what is left of a group
  abbrev kept : Species → Species
  kept G x = G x && U x

  -- G is what is left of a group of the list, and something is
  abbrev Left : List Species → Species → Type 0
  Left l G = (H : Species) × Memᴰ H l × (G ≡ kept H) × Some G

  left-append : (l m : List Species) (G : Species) → Left (l ++ m) G ↔ (Left l G ⊎ Left m G)
  left-append l m G = (
    (λ h. ⊎_elim (λ k. inl (h.0, k, h.2, h.3)) (λ k. inr (h.0, k, h.2, h.3)) (Memᴰ.append_cases l h.1)),
    ⊎_elim (λ h. (h.0, Memᴰ.append_left m h.1, h.2, h.3)) (λ h. (h.0, Memᴰ.append_right l h.1, h.2, h.3)),
  )

  leaf_groups : (x : ℕ) (G : Species) (b : Bool) → U x ≡ b → Memᴰ G (groups_f (cond b (cons (leaf x) nil) nil)) ↔ Left (groups (leaf x)) G
  leaf_groups x G true q =
      let e : under (leaf x) ≡ kept (under (leaf x)) = fun_ext (λ y. sym (or-false _) ∙ leaf_under U x y true q) in (
        (λ m. let g = Memᴰ.eq_of_singleton m in (under (leaf x), Memᴰ.head refl, g ∙ e, (x, subst (λ (P : Species). So (P x)) (sym g) (eq-eqb x x refl)))),
        λ h. Memᴰ.head (h.2 ∙ ap kept (Memᴰ.eq_of_singleton h.1) ∙ sym e),
      )
  leaf_groups x G false q = (
    (λ m. absurd (Memᴰ.not-nil m)),
    λ h. let y = h.3.0 in
        let g : G ≡ kept (under (leaf x)) = h.2 ∙ ap kept (Memᴰ.eq_of_singleton h.1) in
        absurd (false≢true (leaf_under U x y false q ∙ subst (λ (P : Species). So (P y)) g h.3.1)),
  )

  mutual
    groups-cut : (t : Tree) → Formed t → (G : Species) → Memᴰ G (groups_f (cut U t)) ↔ Left (groups t) G
    groups-cut (leaf x) w G = leaf_groups x G (U x) refl
    groups-cut (node f) w G =
        let k = knot-groups (cut_f U f) (formed_cut_f U f w.1) G in
        let e : under_f (cut_f U f) ≡ kept (under_f f) = fun_ext (under-cut_f U f) in
        let i = groups-cut_f f w.1 G in (
          (λ m. ⊎_elim (λ h. (under_f f, Memᴰ.head refl, h.0 ∙ e, h.1)) (λ h. let r = i.0 h in (r.0, Memᴰ.tail r.1, r.2, r.3)) (k.0 m)),
          λ h. k.1 (⊎_elim (λ q. inl (h.2 ∙ ap kept q ∙ sym e, h.3)) (λ q. inr (i.1 (h.0, q, h.2, h.3))) (Memᴰ.cases_cons h.1)),
        )

    groups-cut_f : (f : Forest) → FormedF f → (G : Species) → Memᴰ G (groups_f (cut_f U f)) ↔ Left (groups_f f) G
    groups-cut_f nil w G = ((λ m. absurd (Memᴰ.not-nil m)), λ h. absurd (Memᴰ.not-nil h.1))
    groups-cut_f (cons t f) w G =
        let a = append-groups (cut U t) (cut_f U f) G in
        let l = left-append (groups t) (groups_f f) G in
        let p = groups-cut t w.0 G in
        let q = groups-cut_f f w.2 G in (
          (λ m. l.1 (⊎_elim (λ k. inl (p.0 k)) (λ k. inr (q.0 k)) (Memᴰ.append_cases (groups_f (cut U t)) (a.0 m)))),
          λ h. a.1 (⊎_elim (λ k. Memᴰ.append_left (groups_f (cut_f U f)) (p.1 k)) (λ k. Memᴰ.append_right (groups_f (cut U t)) (q.1 k)) (l.0 h)),
        )

-- "exactly": G is a group of what the cut left of t, or it is what U has of a group of t, if it has any of it
pub cut-groups : (U : Species) (t t' : Tree) → cut U t ≡ cons t' nil → So (well_formed t) → (G : Species)
    → Group t' G ↔ ((H : Species) × Group t H × (G ≡ (λ x. H x && U x)) × ((x : ℕ) × So (G x)))
cut-groups U t t' is w G =
    let k = groups-cut U t (formed_e t w) G in (
      (λ m. k.0 (subst (λ (f : Forest). Memᴰ G (groups_f f)) (sym is) (Memᴰ.append_left [] m))),
      λ h. ⊎_elim (λ m. m) (λ m. absurd (Memᴰ.not-nil m)) (Memᴰ.append_cases (groups t') (subst (λ (f : Forest). Memᴰ G (groups_f f)) is (k.1 h))),
    )
