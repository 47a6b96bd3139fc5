-- The triples of the sets that are the groups of a tree's inner nodes: for s species at most C(s+1,4). Assumes nothing.
use mathlib.Core.Path.{◌≡◌}
use Prim.Native.Nat.{◌+◌, ◌≤◌, suc, ℕ}
use native.Mathlib.Omega.{arith}
use Rattle.sets.proofs.Bools.{or_l, or_r}
use Rattle.sets.proofs.Members.{members_one}
use Rattle.sets.specs.Species.{Below}
use Rattle.trees.proofs.Combinations.{C-rule, fours_apart, fours_beside}
use Rattle.trees.proofs.Formed.{Formed, FormedF}
use Rattle.trees.proofs.Lowest.{some_species, some_species_f}
use Rattle.trees.proofs.Sizes.{size, size-either}
use Rattle.trees.proofs.VisitRule.{triples-append}
use Rattle.trees.specs.Combinations.{C}
use Rattle.trees.specs.Trees.{Forest, Tree, cons, degree, leaf, nil, node, under, under_f}
use Rattle.trees.specs.Visits.{inner_groups, inner_groups_f, triples}

module _ (N : ℕ) where
  abbrev pub weight : Tree → ℕ
  weight t = triples N (inner_groups t)

  abbrev pub weight_f : Forest → ℕ
  weight_f f = triples N (inner_groups_f f)

  pub weight_cons : (t : Tree) (f : Forest) → weight_f (cons t f) ≡ weight t + weight_f f
  weight_cons t f = triples-append N (inner_groups t) (inner_groups_f f)

  pub size-cons : (t : Tree) (f : Forest) → FormedF (cons t f) → size N (under_f (cons t f)) ≡ size N (under t) + size N (under_f f)
  size-cons t f w = size-either N (under t) (under_f f) w.1

  pub first_below : (t : Tree) (f : Forest) → Below N (under_f (cons t f)) → Below N (under t)
  first_below t f bd x h = bd x (or_l (under t x) (under_f f x) h)

  pub others_below : (t : Tree) (f : Forest) → Below N (under_f (cons t f)) → Below N (under_f f)
  others_below t f bd x h = bd x (or_r (under t x) (under_f f x) h)

  mutual
    pub weight_most : (t : Tree) → Formed t → Below N (under t) → weight t ≤ C (suc (size N (under t))) 4
    weight_most (leaf x) w bd = omega arith
    weight_most (node f) w bd = omega (arith, C-rule (size N (under_f f)) 3, most_two f w.0 w.1 bd)

    most_two : (f : Forest) → 2 ≤ degree f → FormedF f → Below N (under_f f) → weight_f f ≤ C (size N (under_f f)) 4
    most_two nil d w bd = absurd (omega arith)
    most_two (cons t f) d w bd =
        let tbd = first_below t f bd in
        let fbd = others_below t f bd in
        let x = some_species t w.0 in
        let y = some_species_f f (omega arith) w.2 in
        omega (
          arith,
          weight_cons t f,
          weight_most t w.0 tbd,
          most_forest f w.2 fbd,
          fours_apart (size N (under t)) (size N (under_f f)) (size N (under_f (cons t f))) (members_one N (under t) x.0 (tbd x.0 x.1) x.1)
              (members_one N (under_f f) y.0 (fbd y.0 y.1) y.1) (size-cons t f w),
        )

    most_forest : (f : Forest) → FormedF f → Below N (under_f f) → weight_f f ≤ C (suc (size N (under_f f))) 4
    most_forest nil w bd = omega arith
    most_forest (cons t f) w bd = omega (
      arith,
      weight_cons t f,
      weight_most t w.0 (first_below t f bd),
      most_forest f w.2 (others_below t f bd),
      fours_beside (size N (under t)) (size N (under_f f)) (size N (under_f (cons t f))) (size-cons t f w),
    )
