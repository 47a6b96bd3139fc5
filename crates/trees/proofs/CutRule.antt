-- A cut as code makes it, node by node: where one child has all the species that are left, the cut of the node is that child's; where none has, it is a bracket
-- around what is left of each. Assumes nothing.
use mathlib.Core.Bool.{So, false≢true}
use mathlib.Core.Logic.{inl, inr, ⊎_elim}
use mathlib.Core.Path.{◌∙◌, ◌≡◌, ap, ap₂, refl, subst, sym}
use Prim.Native.Nat.{ℕ}
use native.Mathlib.Omega.{arith}
use Rattle.sets.proofs.Bools.{and_i, or_case, or_l, or_r}
use Rattle.sets.specs.Species.{Species}
use Rattle.trees.proofs.Cut.{cut-knot, cut-none, cut_f-none, under-cut, under-cut_f}
use Rattle.trees.proofs.Dropping.{append-degree}
use Rattle.trees.proofs.Formed.{FormedF}
use Rattle.trees.proofs.Kids.{child_in}
use Rattle.trees.specs.Cut.{Touches, cut, cut_f, knot}
use Rattle.trees.specs.Loosen.{append}
use Rattle.trees.specs.Trees.{Child, Forest, Tree, cons, degree, nil, node, under, under_f}

append-nil : (f : Forest) → append f nil ≡ f
append-nil nil = refl
append-nil (cons t f) = ap (cons t) (append-nil f)

module _ (U : Species) where
  -- s has every species of U that is under f
  abbrev pub HasAll : Forest → Tree → Type 0
  HasAll f s = (x : ℕ) → So (under_f f x) → So (U x) → So (under s x)

  all_child : (f : Forest) → FormedF f → (s : Tree) → Child s f → HasAll f s → cut_f U f ≡ cut U s
  all_child nil w s m h = absurd m
  all_child (cons t f) w s m h = ⊎_elim
      (λ e. ap₂ append (ap (cut U) (sym e)) (cut_f-none U f (λ x p u. w.1 x (subst (λ (z : Tree). So (under z x)) e (h x (or_r (under t x) _ p) u)) p)) ∙ append-nil (cut U s))
      (λ k. ap₂ append (cut-none U t (λ p. w.1 p.0 p.1 (child_in f s p.0 k (h p.0 (or_l (under t p.0) _ p.1) p.2))))
      (all_child f w.2 s k (λ x p u. h x (or_r (under t x) _ p) u)))
      m

  pub cut_child : (f : Forest) → FormedF f → (s : Tree) → Child s f → HasAll f s → cut U (node f) ≡ cut U s
  cut_child f w s m h = ap knot (all_child f w s m h) ∙ cut-knot U s

  -- where one tree is left of f, a child has all
  left_nothing : (g : Forest) → degree g ≡ 0 → (x : ℕ) → So (under_f g x) → ⊥
  left_nothing nil e x h = false≢true h
  left_nothing (cons t g) e x h = omega arith

  one_left : (f : Forest) → degree (cut_f U f) ≡ 1 → (s : Tree) × Child s f × HasAll f s
  one_left nil e = absurd (omega arith)
  one_left (cons t f) e = by (cut U t) refl (λ k. one_left f k) e
    where
      by : (g : Forest) → cut U t ≡ g → (degree (cut_f U f) ≡ 1 → (s : Tree) × Child s f × HasAll f s) → degree (append g (cut_f U f)) ≡ 1 → (s : Tree) × Child s (cons t f) × HasAll (cons t f) s
      by nil q ih k = let r = ih k in (
        r.0,
        inr r.1,
        λ x h u. or_case (under t x) (under_f f x) h
            (λ p. absurd (false≢true (ap (λ (z : Forest). under_f z x) (sym q) ∙ under-cut U t x ∙ and_i (under t x) _ p u))) (λ p. r.2 x p u),
      )
      by (cons r g) q ih k = (
        t,
        inl refl,
        λ x h u. or_case (under t x) (under_f f x) h (λ p. p)
            (λ p. absurd (left_nothing (cut_f U f) (omega (arith, append-degree g (cut_f U f))) x (under-cut_f U f x ∙ and_i (under_f f x) _ p u))),
      )

  pub cut_forks : (f : Forest) → Touches U (node f) → ((s : Tree) → Child s f → HasAll f s → ⊥) → cut U (node f) ≡ cons (node (cut_f U f)) nil
  cut_forks f t n = by (cut_f U f) refl
    where
      by : (g : Forest) → cut_f U f ≡ g → knot g ≡ cons (node g) nil
      by nil e = absurd (false≢true (ap (λ (z : Forest). under_f z t.0) (sym e) ∙ under-cut_f U f t.0 ∙ and_i (under_f f t.0) _ t.1 t.2))
      by (cons r nil) e = let o = one_left f (ap degree e) in absurd (n o.0 o.1 o.2)
      by (cons r (cons u g)) e = refl
