-- The sets visited, and the number of triples looked at, do not depend on the number that the species are below. Assumes nothing.
use mathlib.Core.Bool.{Bool, So, cond, false, true}
use mathlib.Core.List.{List, [], ◌++◌, ◌∷◌}
use mathlib.Core.Path.{◌∙◌, ◌≡◌, ap, ap₂, refl}
use Prim.Native.Nat.{◌+◌, ◌≤◌, suc, zero, ℕ}
use native.Mathlib.Omega.{arith}
use lib.ListN.{length}
use Rattle.sets.proofs.Members.{Every, members_bound, members_more}
use Rattle.sets.specs.Species.{Below, Species, members}
use Rattle.trees.proofs.Bound.{levels_bound, parts_bound}
use Rattle.trees.proofs.Parts.{part_in, parts_every}
use Rattle.trees.proofs.VisitRule.{turn_same, visited_levels}
use Rattle.trees.specs.Build.{Outcome, build_in}
use Rattle.trees.specs.Combinations.{C}
use Rattle.trees.specs.Links.{joined, lone, part, parts}
use Rattle.trees.specs.Triplets.{Proper, Triplets}
use Rattle.trees.specs.Visits.{in_turn, looked, stopped, triples, visit, visited, visited_in}

-- ---- what is so of each set that is visited

module _ (Q : Species → Type 0) where
  every_append : (l m : List Species) → Every Q l → Every Q m → Every Q (l ++ m)
  every_append [] m p q = q
  every_append (U ∷ l) m p q = (p.0, every_append l m p.1 q)

  every_cond : (b : Bool) (l : List Species) → Every Q l → Every Q (cond b [] l)
  every_cond true l q = tt
  every_cond false l q = q

  every_turn : (g : Species → Outcome) (h : Species → List Species) (ps : List Species) → Every (λ p. Every Q (h p)) ps → Every Q (in_turn g h ps)
  every_turn g h [] q = tt
  every_turn g h (p ∷ ps) q = every_append (h p) _ q.0 (every_cond (stopped (g p)) (in_turn g h ps) (every_turn g h ps q.1))

  every_visit : (s j : Bool) (S : Species) (r : List Species) → Q S → Every Q r → Every Q (visit s j S r)
  every_visit true j S r p q = tt
  every_visit false true S r p q = (p, tt)
  every_visit false false S r p q = (p, q)

module _ (E : Triplets) (pr : Proper E) (N M : ℕ) (le : N ≤ M) (v : Bool) where
  below_in : (k : ℕ) (S : Species) → Below N S → Every (Below N) (visited_in v E N k S)
  unfolding visited_in
  below_in zero S bd = (bd, tt)
  below_in (suc k) S bd = every_visit (Below N) (lone (members N S)) (joined E N S) S _ bd (every_turn (Below N) (λ p. build_in v E N k p) (λ p. visited_in v E N k p) (parts E N S)
      (parts_every E N S bd pr (λ p. Every (Below N) (visited_in v E N k p)) (λ j hj lj. below_in k (part E N S j) (λ x q. bd x (part_in E N S bd pr j x hj q)))))

  visits_in : (k : ℕ) (S : Species) → Below N S → visited_in v E M k S ≡ visited_in v E N k S
  unfolding visited_in
  visits_in zero S bd = refl
  visits_in (suc k) S bd =
      ap₂ (λ (l : List ℕ) (ps : List Species). visit (lone l) (lone ps) S (in_turn (λ p. build_in v E M k p) (λ p. visited_in v E M k p) ps)) (members_more N M S le bd) (parts_bound E pr N M le S bd)
      ∙ ap (visit (lone (members N S)) (joined E N S) S)
      (turn_same (λ p. build_in v E M k p) (λ p. build_in v E N k p) (λ p. visited_in v E M k p) (λ p. visited_in v E N k p) (parts E N S)
      (parts_every E N S bd pr (λ p. (build_in v E M k p ≡ build_in v E N k p) × (visited_in v E M k p ≡ visited_in v E N k p))
      (λ j hj fj. let pbd : Below N (part E N S j) = λ x q. bd x (part_in E N S bd pr j x hj q) in
      (levels_bound E pr N M le v k (part E N S j) pbd, visits_in k (part E N S j) pbd))))

  triples_bound : (l : List Species) → Every (Below N) l → triples M l ≡ triples N l
  triples_bound [] h = refl
  triples_bound (U ∷ l) h = ap₂ (λ (m : List ℕ) (k : ℕ). C (length m) 3 + k) (members_more N M U le h.0) (triples_bound l h.1)

  module _ (S : Species) (bd : Below N S) (u : ℕ) (hu : So (S u)) where
    pub visited_bound : visited v E M S ≡ visited v E N S
    unfolding visited
    visited_bound = visits_in M S bd ∙ visited_levels v E N pr M S bd u hu (omega (arith, members_bound N S))

    all_below : Every (Below N) (visited v E N S)
    unfolding visited
    all_below = below_in N S bd

    pub looked_bound : looked v E M S ≡ looked v E N S
    unfolding looked
    looked_bound = ap (triples M) visited_bound ∙ triples_bound (visited v E N S) all_below
