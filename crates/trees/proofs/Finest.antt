-- A group that is not earned stands in no tree all of whose groups are earned and which has only groups of this one: so none is dropped that some tree could keep.
-- Assumes nothing.
use mathlib.Core.Bool.{So}
use mathlib.Core.List.Memᴰ
use mathlib.Core.List.{Memᴰ}
use mathlib.Core.Logic.{inl, inr, ⊎_elim}
use mathlib.Core.Path.{◌≡◌, ◌∙◌, refl, subst, sym}
use Prim.Native.Nat.{ℕ}
use Rattle.sets.proofs.Bools.{or_case, or_l, or_r}
use Rattle.sets.specs.Species.{Inside, Species, either}
use Rattle.trees.proofs.Formed.{Formed, FormedF}
use Rattle.trees.proofs.Groups.{in_root}
use Rattle.trees.proofs.Kids.{Kid, child_in, child_uniq, every_child, kids}
use Rattle.trees.proofs.Loosened.{fewer_R}
use Rattle.trees.proofs.Lowest.{some_species}
use Rattle.trees.proofs.Near.{part_ways}
use Rattle.trees.proofs.Siblings.{lie, siblings_swap}
use Rattle.trees.proofs.Unearned.{sibling_group}
use Rattle.trees.specs.Check.{Earned, R}
use Rattle.trees.specs.Loosen.{NotEarned}
use Rattle.trees.specs.Trees.{Child, Forest, Group, Siblings, Tree, cons, deep, groups, groups_f, nil, top, under}
use Rattle.trees.specs.Triplets.{Triplets}

child_group : (f : Forest) (H : Species) → Memᴰ H (groups_f f) → (k : Tree) × Child k f × Group k H
child_group nil H m = absurd (Memᴰ.not-nil m)
child_group (cons t f) H m = ⊎_elim (λ g. (t, inl refl, g)) (λ g. let (k, c, h) = child_group f H g in (k, inr c, h)) (Memᴰ.append_cases (groups t) m)

-- a group below the root that shares a species with the child k is k's
its_group : (f : Forest) → FormedF f → (k : Tree) → Child k f → (a : ℕ) → So (under k a) → (H : Species) → So (H a) → Memᴰ H (groups_f f) → Group k H
its_group f w k c a ka H ha m =
    let (k', c', g) = child_group f H m in
    subst (λ (z : Tree). Group z H) (child_uniq f w k' k a c' c (in_root k' H g a ha) ka) g

-- of two siblings: a group that has a species of s, and lacks one of s', lies in s
narrow : (T s s' : Tree) → Formed T → Siblings T s s' → (a c : ℕ) → So (under s a) → So (under s' c) → (H : Species) → Group T H → So (H a) → (So (H c) → ⊥) → Inside H (under s)
narrow T s s' w (top {f = f} p q ne) a c sa sc H g ha hc = ⊎_elim
    (λ e. absurd (hc (subst (λ (Z : Species). So (Z c)) (sym e) (child_in f s' c q sc))))
    (λ m. in_root s H (its_group f w.1 s p a sa H ha m))
    (Memᴰ.cases_cons g)
narrow T s s' w (deep {f = f} {k = k} p q) a c sa sc H g ha hc =
    let kk = every_child (Kid f) k f (kids f w.1) p in
    let l = lie k s s' kk.formed q in
    ⊎_elim
    (λ e. absurd (hc (subst (λ (Z : Species). So (Z c)) (sym e) (kk.inside c (l.in_s' c sc)))))
    (λ m. narrow k s s' kk.formed q a c sa sc H (its_group f w.1 k p a (l.in_s a sa) H ha m) ha hc)
    (Memᴰ.cases_cons g)

-- P has the species of T, and only groups of T, and each of its groups is earned
module _ (E : Triplets) (T P : Tree) (w : Formed T) (v : Formed P) (species : (x : ℕ) → under P x ≡ under T x) (among : (H : Species) → Group P H → Group T H) (earned : Earned (R E P) P) where
  pub never_kept : (G : Species) → NotEarned (R E T) T G → Group P G → ⊥
  never_kept G u g =
      let (s, s', q, e, n) = u in
      let l = lie T s s' w q in
      let (a, sa) = some_species s l.formed in
      let (c, sc) = some_species s' l.formed' in
      let (p, p', r, pa, pc) = part_ways P a c (λ z. l.apart a sa (subst (λ (x : ℕ). So (under s' x)) (sym z) sc)) (species a ∙ l.in_s a sa) (species c ∙ l.in_s' c sc) in
      let m = lie P p p' v r in
      let gs : So (G a) = subst (λ (Z : Species). So (Z a)) (sym e) sa in
      let no-c : So (G c) → ⊥ = λ h. l.apart c (subst (λ (Z : Species). So (Z c)) e h) sc in
      let up : Inside (under s) (under p) = λ x h. narrow P p p' v r a c pa pc G g gs no-c x (subst (λ (Z : Species). So (Z x)) (sym e) h) in
      let down : Inside (under p) (under s) = narrow T s s' w q a c sa sc (under p) (among (under p) (sibling_group P p p' r)) pa (λ h. m.apart c h pc) in
      let down' : Inside (under p') (under s') = narrow T s' s w (siblings_swap T s s' q) c a sc sa (under p') (among (under p') (sibling_group P p' p (siblings_swap P p p' r))) pc (λ h. m.apart a pa h) in
      let both : Inside (either (under p) (under p')) (either (under s) (under s')) = λ x h. or_case (under p x) (under p' x) h (λ k. or_l (under s x) _ (down x k)) (λ k. or_r (under s x) _ (down' x k)) in
      n (λ X cl y sy Xy x h. earned p p' r X
      (λ i j k Xi pi pj pk Rk. cl i j k Xi (both i pi) (both j pj) (both k pk) (fewer_R T P v species among E i j k Rk)) y (up y sy) Xy x (up x h))
