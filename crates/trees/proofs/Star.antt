-- A leaf for each species of a set: exactly these species, none twice, in house order; and no two of them are cut off together. Assumes nothing.
use mathlib.Core.Bool.{Bool, So, ◌||◌, false≢true}
use mathlib.Core.List.{List, [], ◌∷◌, map}
use mathlib.Core.Logic.{◌≢◌, inl, inr, ⊎_elim}
use mathlib.Core.Path.{◌∙◌, ◌≡◌, ap, refl, subst, sym}
use Prim.Native.Nat.{◌≤◌, suc, ℕ}
use native.Mathlib.Omega.{arith}
use borrow.Author.Tests.{eq-eqb, eqb-true}
use lib.Dec.{eqb}
use lib.ListN.{length}
use Rattle.sets.proofs.Bools.{bool_ext, or_case}
use Rattle.sets.proofs.Members.{any_of, from_e, from_i}
use Rattle.sets.proofs.Ordered.{from_ascend}
use Rattle.sets.specs.Species.{Ascending, Below, Species, from, members}
use Rattle.trees.proofs.Formed.{FormedF}
use Rattle.trees.proofs.Lowest.{HousedF}
use Rattle.trees.proofs.Splits.{splits, splits_in, splits_f}
use Rattle.trees.specs.Build.{leaf_each}
use Rattle.trees.specs.Trees.{Forest, Tree, cons, degree, nil, under, under_f}
use Rattle.trees.specs.Veto.{Leaves}

pub leaves-degree : (l : List ℕ) → degree (leaf_each l) ≡ length l
leaves-degree [] = refl
leaves-degree (x ∷ l) = ap suc (leaves-degree l)

leaves-any : (l : List ℕ) (x : ℕ) → under_f (leaf_each l) x ≡ any_of (map eqb l) x
leaves-any [] x = refl
leaves-any (y ∷ l) x = ap (λ (z : Bool). eqb y x || z) (leaves-any l x)

leaves-from : (i : ℕ) (l : List ℕ) → Ascending i l → (x : ℕ) → So (under_f (leaf_each l) x) → i ≤ x
leaves-from i [] a x h = absurd (false≢true h)
leaves-from i (y ∷ l) a x h = or_case (eqb y x) (under_f (leaf_each l) x) h
    (λ e. omega (arith, eqb-true y x e, a.0)) (λ k. omega (arith, a.0, leaves-from (suc y) l a.1 x k))

leaves_formed : (i : ℕ) (l : List ℕ) → Ascending i l → FormedF (leaf_each l)
leaves_formed i [] a = tt
leaves_formed i (y ∷ l) a = (tt, (λ x p q. omega (arith, eqb-true y x p, leaves-from (suc y) l a.1 x q)), leaves_formed (suc y) l a.1)

leaves_housed : (i : ℕ) (l : List ℕ) → Ascending i l → HousedF (leaf_each l)
leaves_housed i [] a = tt
leaves_housed i (y ∷ l) a = (tt, (λ x q. (y, eq-eqb y y refl, leaves-from (suc y) l a.1 x q)), leaves_housed (suc y) l a.1)

pub leaves_each : (l : List ℕ) → Leaves (leaf_each l)
leaves_each [] s m = absurd m
leaves_each (x ∷ l) s m = ⊎_elim (λ e. (x, e)) (leaves_each l s) m

pub leaves_split : (f : Forest) → Leaves f → (a b c : ℕ) → a ≢ b → So (splits_f f a b c) → ⊥
leaves_split nil l a b c ne h = false≢true h
leaves_split (cons t f) l a b c ne h = or_case (splits t a b c) (splits_f f a b c) h
    (λ k.
    let (x, e) = l t (inl refl) in
    let q = splits_in t a b c k in
    ne (sym (eqb-true x a (subst (λ (s : Tree). So (under s a)) e q.0)) ∙ eqb-true x b (subst (λ (s : Tree). So (under s b)) e q.1)))
    (leaves_split f (λ s m. l s (inr m)) a b c ne)

module _ (N : ℕ) (S : Species) where
  pub star-species : Below N S → (x : ℕ) → under_f (leaf_each (members N S)) x ≡ S x
  unfolding members
  star-species bd x = leaves-any (from 0 N S) x ∙ bool_ext (any_of (map eqb (from 0 N S)) x) (S x)
      (λ h. let w = from_e eqb S x N 0 h in subst (λ (z : ℕ). So (S z)) (eqb-true w.0 x w.4) w.3)
      (λ h. from_i eqb S x N 0 x (omega arith) (omega (arith, bd x h)) h (eq-eqb x x refl))

  pub star_formed : FormedF (leaf_each (members N S))
  unfolding members
  star_formed = leaves_formed 0 (from 0 N S) (from_ascend S N 0)

  pub star_housed : HousedF (leaf_each (members N S))
  unfolding members
  star_housed = leaves_housed 0 (from 0 N S) (from_ascend S N 0)
