-- Links, parts and the builds do not depend on the number that the species are below. Assumes nothing.
use mathlib.Core.Bool.{Bool, So, ◌&&◌, false, not, true}
use mathlib.Core.List.{List, map}
use mathlib.Core.Path.{◌∙◌, ◌≡◌, ap, ap₂, fun_ext, refl}
use Prim.Native.Nat.{◌<◌, ◌≤◌, suc, zero, ℕ}
use native.Mathlib.Omega.{arith}
use lib.ListN.{get_or}
use Rattle.sets.proofs.Bools.{and_l, bool_ext}
use Rattle.sets.proofs.Members.{members_bound, members_more}
use Rattle.sets.specs.Species.{Below, Species, any, members}
use Rattle.trees.proofs.Outcomes.{gather_same}
use Rattle.trees.proofs.Parts.{part_closed, part_in, part-least, part_refl, parts_every}
use Rattle.trees.proofs.Stopping.{both_levels}
use Rattle.trees.specs.Build.{build, build_by, build_in, choose, ending, gather, leaf_each, tree}
use Rattle.trees.specs.Links.{joined, leads, lone, part, parts}
use Rattle.trees.specs.Trees.{node}
use Rattle.trees.specs.Triplets.{Proper, Triplets}

module _ (E : Triplets) (pr : Proper E) (N M : ℕ) (le : N ≤ M) where
  module _ (S : Species) (bd : Below N S) where
    bd' : Below M S
    bd' x h = omega (arith, bd x h)

    pub part_bound : part E M S ≡ part E N S
    part_bound = fun_ext (λ a. fun_ext (λ x. bool_ext (part E M S a x) (part E N S a x)
        (λ h. part-least E M S bd' pr (part E N S a) (part_closed E N S bd pr a) a x h (part_refl E N S bd pr a))
        (λ h. part-least E N S bd pr (part E M S a) (part_closed E M S bd' pr a) a x h (part_refl E M S bd' pr a))))

    leads_bound : leads E M S ≡ leads E N S
    unfolding leads
    leads_bound = fun_ext (λ i. ap (λ (f : ℕ → Species). S i && not (any i (λ j. S j && f j i))) part_bound)

    leads-lt : (x : ℕ) → So (leads E N S x) → x < N
    unfolding leads
    leads-lt x h = bd x (and_l (S x) _ h)

    pub parts_bound : parts E M S ≡ parts E N S
    unfolding parts
    parts_bound = ap₂ (λ (f : ℕ → Species) (P : Species). map f (members M P)) part_bound leads_bound ∙ ap (map (part E N S)) (members_more N M (leads E N S) le leads-lt)

  ending_bound : (v : Bool) (S : Species) → Below N S → ending v M S ≡ ending v N S
  ending_bound false S bd = refl
  ending_bound true S bd = ap (λ (l : List ℕ). tree (node (leaf_each l))) (members_more N M S le bd)

  module _ (v : Bool) where
    pub levels_bound : (k : ℕ) (S : Species) → Below N S → build_in v E M k S ≡ build_in v E N k S
    unfolding build_in
    levels_bound zero S bd = ending_bound v S bd
    levels_bound (suc k) S bd =
        ap₂ (λ (l : List ℕ) (ps : List Species). choose (lone l) (lone ps) (get_or l 0 0) (ending v M S) (gather (λ p. build_in v E M k p) ps)) (members_more N M S le bd) (parts_bound S bd)
        ∙ ap₂ (choose (lone (members N S)) (joined E N S) (get_or (members N S) 0 0)) (ending_bound v S bd)
        (gather_same (λ p. build_in v E M k p) (λ p. build_in v E N k p) (parts E N S)
        (parts_every E N S bd pr (λ p. build_in v E M k p ≡ build_in v E N k p) (λ j hj fj. levels_bound k (part E N S j) (λ x q. bd x (part_in E N S bd pr j x hj q)))))

    pub both_bound : (S : Species) → Below N S → (u : ℕ) → So (S u) → build_by v E M S ≡ build_by v E N S
    unfolding build_by
    both_bound S bd u hu = levels_bound M S bd ∙ both_levels v E N pr M S bd u hu (omega (arith, members_bound N S))

  pub build_bound : (S : Species) → Below N S → (u : ℕ) → So (S u) → build E M S ≡ build E N S
  build_bound = both_bound false
