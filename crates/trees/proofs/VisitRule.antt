-- The rule of the sets visited, and of the number of triples looked at, without a number of levels, as code follows it. Assumes nothing.
use mathlib.Core.Bool.{Bool, So, cond, false, not, true}
use mathlib.Core.List.{List, [], ◌++◌, ◌∷◌}
use mathlib.Core.Path.{◌∙◌, ◌≡◌, ap, refl, sym}
use Prim.Native.Nat.{◌+◌, ◌≤◌, suc, zero, ℕ}
use native.Mathlib.Omega.{arith}
use lib.ListN.{length}
use Rattle.sets.proofs.Members.{Every, members_bound, members_one}
use Rattle.sets.specs.Species.{Below, Species, members}
use Rattle.trees.proofs.Parts.{part_in, part_refl, parts_every}
use Rattle.trees.proofs.Stopping.{both_levels, fewer}
use Rattle.trees.specs.Build.{Outcome, build_by, build_in}
use Rattle.trees.specs.Combinations.{C}
use Rattle.trees.specs.Links.{joined, lone, part, parts}
use Rattle.trees.specs.Triplets.{Proper, Triplets}
use Rattle.trees.specs.Visits.{in_turn, looked, stopped, triples, visit, visited, visited_in}

-- ---- any number of levels from the number of species on gives the same

pub turn_same : (g g' : Species → Outcome) (h h' : Species → List Species) (ps : List Species) → Every (λ p. (g p ≡ g' p) × (h p ≡ h' p)) ps → in_turn g h ps ≡ in_turn g' h' ps
turn_same g g' h h' [] q = refl
turn_same g g' h h' (p ∷ ps) q = rw (q.0.0, q.0.1, turn_same g g' h h' ps q.1) refl

-- the parts are visited only where the set is neither one species nor joined
visit_same : (s j : Bool) (S : Species) (r r' : List Species) → (So (not j) → r ≡ r') → visit s j S r ≡ visit s j S r'
visit_same true j S r r' h = refl
visit_same false true S r r' h = refl
visit_same false false S r r' h = ap (λ (l : List Species). S ∷ l) (h refl)

module _ (v : Bool) (E : Triplets) (N : ℕ) (pr : Proper E) where
  levels : (k k' : ℕ) (S : Species) → Below N S → (u : ℕ) → So (S u) → length (members N S) ≤ k → length (members N S) ≤ k' → visited_in v E N k S ≡ visited_in v E N k' S
  unfolding visited_in
  levels zero k' S bd u hu l l' = absurd (omega (arith, members_one N S u (bd u hu) hu))
  levels (suc k) zero S bd u hu l l' = absurd (omega (arith, members_one N S u (bd u hu) hu))
  levels (suc k) (suc k') S bd u hu l l' = visit_same (lone (members N S)) (joined E N S) S _ _
      (λ o. turn_same (λ p. build_in v E N k p) (λ p. build_in v E N k' p) (λ p. visited_in v E N k p) (λ p. visited_in v E N k' p) (parts E N S)
      (parts_every E N S bd pr (λ p. (build_in v E N k p ≡ build_in v E N k' p) × (visited_in v E N k p ≡ visited_in v E N k' p))
      (λ j hj lj.
      let fw = fewer E N pr S bd u hu j hj o in
      let p = part E N S j in
      let pbd : Below N p = λ x q. bd x (part_in E N S bd pr j x hj q) in
      let jj = part_refl E N S bd pr j in
      (both_levels v E N pr k p pbd j jj (omega arith) ∙ sym (both_levels v E N pr k' p pbd j jj (omega arith)), levels k k' p pbd j jj (omega arith) (omega arith)))))

  pub visited_levels : (k : ℕ) (S : Species) → Below N S → (u : ℕ) → So (S u) → length (members N S) ≤ k → visited_in v E N k S ≡ visited v E N S
  unfolding visited
  visited_levels k S bd u hu l = levels k N S bd u hu l (members_bound N S)

  pub visited_rule : (S : Species) → Below N S → (u : ℕ) → So (S u)
      → visited v E N S ≡ visit (lone (members N S)) (joined E N S) S (in_turn (build_by v E N) (visited v E N) (parts E N S))
  unfolding build_by visited visited_in
  visited_rule S bd u hu = levels N (suc N) S bd u hu (members_bound N S) (omega (arith, members_bound N S))

-- ---- the same as numbers

-- one species: none; else the triples c of the set, and where it is split those of its parts, r
abbrev pub counted : Bool → Bool → ℕ → ℕ → ℕ
counted true j c r = 0
counted false true c r = c
counted false false c r = c + r

-- those of the parts, part after part, up to any stop
abbrev pub looked_each : Bool → Triplets → ℕ → List Species → ℕ
looked_each v E N [] = 0
looked_each v E N (p ∷ ps) = looked v E N p + cond (stopped (build_by v E N p)) 0 (looked_each v E N ps)

pub triples-append : (N : ℕ) (l m : List Species) → triples N (l ++ m) ≡ triples N l + triples N m
triples-append N [] m = omega arith
triples-append N (U ∷ l) m = omega (arith, triples-append N l m)

triples-cond : (N : ℕ) (b : Bool) (l : List Species) → triples N (cond b [] l) ≡ cond b 0 (triples N l)
triples-cond N true l = refl
triples-cond N false l = refl

triples-visit : (N : ℕ) (s j : Bool) (S : Species) (r : List Species) → triples N (visit s j S r) ≡ counted s j (C (length (members N S)) 3) (triples N r)
triples-visit N true j S r = refl
triples-visit N false true S r = omega arith
triples-visit N false false S r = refl

module _ (v : Bool) (E : Triplets) (N : ℕ) where
  turn_triples : (ps : List Species) → triples N (in_turn (build_by v E N) (visited v E N) ps) ≡ looked_each v E N ps
  unfolding looked
  turn_triples [] = refl
  turn_triples (p ∷ ps) =
      let b = stopped (build_by v E N p) in
      let r = in_turn (build_by v E N) (visited v E N) ps in
      triples-append N (visited v E N p) (cond b [] r) ∙ ap (λ (n : ℕ). triples N (visited v E N p) + n) (triples-cond N b r ∙ ap (cond b 0) (turn_triples ps))

  pub looked_rule : Proper E → (S : Species) → Below N S → (u : ℕ) → So (S u)
      → looked v E N S ≡ counted (lone (members N S)) (joined E N S) (C (length (members N S)) 3) (looked_each v E N (parts E N S))
  unfolding looked
  looked_rule pr S bd u hu = ap (triples N) (visited_rule v E N pr S bd u hu) ∙ triples-visit N (lone (members N S)) (joined E N S) S (in_turn (build_by v E N) (visited v E N) (parts E N S))
      ∙ ap (counted (lone (members N S)) (joined E N S) (C (length (members N S)) 3)) (turn_triples (parts E N S))
