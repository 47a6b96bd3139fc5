-- A tree cut to a set of species: which species it has, that it is well formed, and that of those species it says what the whole tree says. `t'` is what the
-- cut left of t. Assumes nothing.
use mathlib.Core.Bool.{Bool, So, ◌&&◌, ◌||◌, cond, false, false≢true, not, or_assoc, or-false, true}
use mathlib.Core.Path.{◌∙◌, ◌≡◌, ap, ap₂, refl, subst, sym}
use Prim.Native.Nat.{ℕ}
use native.Mathlib.Omega.{arith}
use borrow.Author.Tests.{eq-eqb, eqb-true}
use lib.Dec.{eqb}
use Rattle.sets.proofs.Bools.{and_i, and_l, and_r, bool_ext, or_case, or_l, or_r}
use Rattle.sets.specs.Species.{Species}
use Rattle.trees.proofs.Dropping.{append_formed, append-under}
use Rattle.trees.proofs.Formed.{Formed, FormedF, formed_e, formed_i}
use Rattle.trees.proofs.Splits.{cuts_e, holds_e, root_splits, splits, splits_groups, splits_f}
use Rattle.trees.specs.Cut.{Touches, cut, cut_f, knot}
use Rattle.trees.specs.Loosen.{append}
use Rattle.trees.specs.Trees.{Forest, Tree, cons, leaf, nil, node, under, under_f, well_formed}
use Rattle.trees.specs.Triplets.{cuts, holds}

-- ---- the children that are left, as no tree or one

knot_formed : (f : Forest) → FormedF f → FormedF (knot f)
knot_formed nil w = tt
knot_formed (cons t nil) w = w
knot_formed (cons t (cons u f)) w = ((omega arith, w), (λ x p q. false≢true q), tt)

pub knot-under : (f : Forest) (x : ℕ) → under_f (knot f) x ≡ under_f f x
knot-under nil x = refl
knot-under (cons t nil) x = refl
knot-under (cons t (cons u f)) x = or-false _

knot_twice : (f : Forest) → knot (knot f) ≡ knot f
knot_twice nil = refl
knot_twice (cons t nil) = refl
knot_twice (cons t (cons u f)) = refl

-- one child splits what its own group cuts off
knot_splits : (f : Forest) (a b c : ℕ) → splits_f (knot f) a b c ≡ (cuts (under_f f) a b c || splits_f f a b c)
knot_splits nil a b c = refl
knot_splits (cons t nil) a b c = bool_ext (splits t a b c || false) _ (λ h. or_r (cuts (under_f (cons t nil)) a b c) _ h)
    (λ h. or_case (cuts (under_f (cons t nil)) a b c) _ h
    (λ k. let q = cuts_e a b c (under_f (cons t nil)) k in
    or_l (splits t a b c) _ (root_splits t a b c (sym (or-false _) ∙ q.0) (sym (or-false _) ∙ q.1) (ap not (sym (or-false (under t c))) ∙ q.2)))
    (λ k. k))
knot_splits (cons t (cons u f)) a b c = or-false _

append_splits : (g f : Forest) (a b c : ℕ) → splits_f (append g f) a b c ≡ (splits_f g a b c || splits_f f a b c)
append_splits nil f a b c = refl
append_splits (cons t g) f a b c = ap (λ (z : Bool). splits t a b c || z) (append_splits g f a b c) ∙ sym (or_assoc (splits t a b c) (splits_f g a b c) (splits_f f a b c))

-- ---- the species

module _ (U : Species) where
  pub leaf_under : (y x : ℕ) (b : Bool) → U y ≡ b → under_f (cond b (cons (leaf y) nil) nil) x ≡ (eqb y x && U x)
  leaf_under y x true e = or-false _ ∙ bool_ext (eqb y x) (eqb y x && U x)
      (λ h. and_i (eqb y x) _ h (subst (λ (z : ℕ). So (U z)) (eqb-true y x h) e)) (and_l (eqb y x) _)
  leaf_under y x false e = bool_ext false (eqb y x && U x) (λ h. absurd (false≢true h))
      (λ h. sym e ∙ subst (λ (z : ℕ). So (U z)) (sym (eqb-true y x (and_l (eqb y x) _ h))) (and_r (eqb y x) _ h))

  spread : (a b u : Bool) → ((a && u) || (b && u)) ≡ ((a || b) && u)
  spread true true true = refl
  spread true true false = refl
  spread true false true = refl
  spread true false false = refl
  spread false b u = refl

  mutual
    pub under-cut : (t : Tree) (x : ℕ) → under_f (cut U t) x ≡ (under t x && U x)
    under-cut (leaf y) x = leaf_under y x (U y) refl
    under-cut (node f) x = knot-under (cut_f U f) x ∙ under-cut_f f x

    pub under-cut_f : (f : Forest) (x : ℕ) → under_f (cut_f U f) x ≡ (under_f f x && U x)
    under-cut_f nil x = refl
    under-cut_f (cons t f) x = append-under (cut U t) (cut_f U f) x ∙ ap₂ (λ (y z : Bool). y || z) (under-cut t x) (under-cut_f f x) ∙ spread (under t x) (under_f f x) (U x)

  -- ---- no tree or one

  pub cut-knot : (t : Tree) → knot (cut U t) ≡ cut U t
  cut-knot (leaf x) = by (U x)
    where
      by : (b : Bool) → knot (cond b (cons (leaf x) nil) nil) ≡ cond b (cons (leaf x) nil) nil
      by true = refl
      by false = refl
  cut-knot (node f) = knot_twice (cut_f U f)

  mutual
    pub cut-none : (t : Tree) → (Touches U t → ⊥) → cut U t ≡ nil
    cut-none (leaf y) n = by (U y) refl
      where
        by : (b : Bool) → U y ≡ b → cond b (cons (leaf y) nil) nil ≡ nil
        by true e = absurd (n (y, eq-eqb y y refl, e))
        by false e = refl
    cut-none (node f) n = ap knot (cut_f-none f (λ x h k. n (x, h, k)))

    pub cut_f-none : (f : Forest) → ((x : ℕ) → So (under_f f x) → So (U x) → ⊥) → cut_f U f ≡ nil
    cut_f-none nil n = refl
    cut_f-none (cons t f) n = ap₂ append (cut-none t (λ h. n h.0 (or_l (under t h.0) _ h.1) h.2)) (cut_f-none f (λ x h. n x (or_r (under t x) _ h)))

  pub cut_some : (t : Tree) → Touches U t → (t' : Tree) × (cut U t ≡ cons t' nil)
  cut_some t h = by (cut U t) (cut-knot t) (under-cut t h.0 ∙ and_i (under t h.0) _ h.1 h.2)
    where
      by : (f : Forest) → knot f ≡ f → So (under_f f h.0) → (t' : Tree) × (f ≡ cons t' nil)
      by nil e k = absurd (false≢true k)
      by (cons t nil) e k = (t, refl)
      by (cons t (cons u f)) e k = (node (cons t (cons u f)), sym e)

  -- ---- well formed

  mutual
    formed_cut : (t : Tree) → Formed t → FormedF (cut U t)
    formed_cut (leaf x) w = by (U x)
      where
        by : (b : Bool) → FormedF (cond b (cons (leaf x) nil) nil)
        by true = (tt, (λ y p q. false≢true q), tt)
        by false = tt
    formed_cut (node f) w = knot_formed (cut_f U f) (formed_cut_f f w.1)

    pub formed_cut_f : (f : Forest) → FormedF f → FormedF (cut_f U f)
    formed_cut_f nil w = tt
    formed_cut_f (cons t f) w = append_formed (cut U t) (cut_f U f) (formed_cut t w.0)
        (λ x h k. w.1 x (and_l (under t x) (U x) (sym (under-cut t x) ∙ h)) (and_l (under_f f x) (U x) (sym (under-cut_f f x) ∙ k))) (formed_cut_f f w.2)

  -- ---- triplets

  module _ (a b c : ℕ) (ha : So (U a)) (hb : So (U b)) (hc : So (U c)) where
    of_U : (p u : Bool) → So u → (p && u) ≡ p
    of_U true u h = h
    of_U false u h = refl

    cuts_same : (P Q : Species) → ((x : ℕ) → P x ≡ (Q x && U x)) → cuts P a b c ≡ cuts Q a b c
    cuts_same P Q e = rw (e a ∙ of_U (Q a) (U a) ha, e b ∙ of_U (Q b) (U b) hb, e c ∙ of_U (Q c) (U c) hc) refl

    mutual
      splits_cut : (t : Tree) → splits_f (cut U t) a b c ≡ splits t a b c
      splits_cut (leaf x) = by (U x) refl
        where
          by : (u : Bool) → U x ≡ u → splits_f (cond u (cons (leaf x) nil) nil) a b c ≡ cuts (under (leaf x)) a b c
          by true e = or-false _
          by false e = bool_ext false _ (λ h. absurd (false≢true h)) (λ h. sym e ∙ subst (λ (z : ℕ). So (U z)) (sym (eqb-true x a (cuts_e a b c (under (leaf x)) h).0)) ha)
      splits_cut (node f) = knot_splits (cut_f U f) a b c ∙ ap₂ (λ (y z : Bool). y || z) (cuts_same (under_f (cut_f U f)) (under_f f) (under-cut_f f)) (splits_cut_f f)

      splits_cut_f : (f : Forest) → splits_f (cut_f U f) a b c ≡ splits_f f a b c
      splits_cut_f nil = refl
      splits_cut_f (cons t f) = append_splits (cut U t) (cut_f U f) a b c ∙ ap₂ (λ (y z : Bool). y || z) (splits_cut t) (splits_cut_f f)

-- ---- what the cut left

module _ (U : Species) (t t' : Tree) (is : cut U t ≡ cons t' nil) where
  -- it has the species of t that are in U
  pub cut-under : (x : ℕ) → under t' x ≡ (under t x && U x)
  cut-under x = sym (or-false _) ∙ ap (λ (f : Forest). under_f f x) (sym is) ∙ under-cut U t x

  pub cut_formed : So (well_formed t) → So (well_formed t')
  cut_formed w = formed_i t' (subst FormedF is (formed_cut U t (formed_e t w))).0

  -- of species of U it says what t says
  pub cut-says : (a b c : ℕ) → So (U a) → So (U b) → So (U c) → holds t' a b c ≡ holds t a b c
  cut-says a b c ha hb hc = ap₂ (λ (y z : Bool). not (eqb a b) && (y && z))
      (cut-under c ∙ of_U U a b c ha hb hc (under t c) (U c) hc)
      (sym (splits_groups t' a b c) ∙ sym (or-false _) ∙ ap (λ (f : Forest). splits_f f a b c) (sym is) ∙ splits_cut U a b c ha hb hc t ∙ splits_groups t a b c)

  -- and of others nothing
  pub cut-says-only : (a b c : ℕ) → So (holds t' a b c) → So (U a) × So (U b) × So (U c)
  cut-says-only a b c h =
      let o = holds_e t' a b c h in
      let u : (x : ℕ) → So (under t' x) → So (U x) = λ x k. and_r (under t x) _ (sym (cut-under x) ∙ k) in
      (u a o.in_a, u b o.in_b, u c o.in_c)
