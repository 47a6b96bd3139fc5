-- A tree's species as a set: it has a species in common with another set exactly when the two sets meet. Assumes nothing.
use mathlib.Core.Bool.{◌&&◌, false≢true}
use mathlib.Core.Logic.{◌≢◌}
use mathlib.Core.Path.{◌∙◌, ◌≡◌, ap, sym}
use Prim.Native.Nat.{ℕ}
use Rattle.sets.proofs.Bools.{and_i, and_l, and_r}
use Rattle.sets.proofs.Least.{some_member}
use Rattle.sets.proofs.Tests.{has_empty, has_meet, number_is, true_has}
use Rattle.sets.specs.Sets.{has, meet}
use Rattle.sets.specs.Species.{Below, Species}
use Rattle.trees.specs.Cut.{Touches}
use Rattle.trees.specs.Trees.{Tree, under}
use Rattle.groups.specs.Groups.{set_of}

module _ (t : Tree) (b : Below 64 (under t)) (s : ℕ) (e : s ≡ set_of t) where
  pub has-set : has s ≡ under t
  has-set = ap has e ∙ number_is 64 (under t) b

  pub has_part : (set x : ℕ) → has (meet s set) x ≡ (under t x && has set x)
  has_part set x = has_meet s set x ∙ ap (λ (P : Species). P x && has set x) has-set

  pub meet_touches : (set : ℕ) → meet s set ≢ 0 → Touches (has set) t
  meet_touches set nz =
      let (x, m) = some_member (meet s set) nz in
      let k = sym (has_part set x) ∙ true_has (meet s set) x m in
      (x, and_l (under t x) _ k, and_r (under t x) _ k)

  pub meet_empty : (set : ℕ) → meet s set ≡ 0 → Touches (has set) t → ⊥
  meet_empty set z (x, h, u) = false≢true (sym (has_empty x) ∙ ap (λ (n : ℕ). has n x) (sym z) ∙ has_part set x ∙ and_i (under t x) _ h u)
