-- The star of a set of species: a well-formed tree with exactly these. Assumes nothing.
use mathlib.Core.Bool.{So, false≢true}
use mathlib.Core.List.{List, [], ◌∷◌}
use mathlib.Core.Path.{◌∙◌, ◌≡◌, refl}
use Prim.Native.Nat.{ℕ}
use native.Mathlib.Omega.{arith}
use lib.Dec.{eqb}
use Rattle.sets.proofs.Bools.{bool_ext, or_case, or_l}
use Rattle.sets.specs.Species.{Below, Species, members}
use Rattle.trees.proofs.Formed.{FormedF, formed_i}
use Rattle.trees.proofs.Star as Leaves
use Rattle.trees.specs.Build.{leaf_each}
use Rattle.trees.specs.Trees.{node, under, under_f, well_formed}
use Rattle.promises.specs.Useless.{star_of}

star_formed : (l : List ℕ) → FormedF (leaf_each l) → So (well_formed (star_of l))
star_formed [] f = refl
star_formed (x ∷ []) f = refl
star_formed (x ∷ (y ∷ l)) f = formed_i (node (leaf_each (x ∷ (y ∷ l)))) (omega arith, f)

-- where there is some species, its leaves have the species of the star
star-leaves : (l : List ℕ) (u : ℕ) → So (under_f (leaf_each l) u) → (x : ℕ) → under (star_of l) x ≡ under_f (leaf_each l) x
star-leaves [] u h x = absurd (false≢true h)
star-leaves (y ∷ []) u h x = bool_ext (eqb y x) _ (or_l (eqb y x) _) (λ k. or_case (eqb y x) _ k (λ e. e) (λ e. absurd (false≢true e)))
star-leaves (y ∷ (z ∷ l)) u h x = refl

module _ (n : ℕ) (S : Species) where
  pub star_sound : So (well_formed (star_of (members n S)))
  star_sound = star_formed (members n S) (Leaves.star_formed n S)

  pub star-species : Below n S → (u : ℕ) → So (S u) → (x : ℕ) → under (star_of (members n S)) x ≡ S x
  star-species bd u h x = star-leaves (members n S) u (Leaves.star-species n S bd u ∙ h) x ∙ Leaves.star-species n S bd x
