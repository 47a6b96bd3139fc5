-- The sets that a build visits: where it gives a tree, the groups of that tree's inner nodes; where it stops, the set at which it stops comes last. The
-- plain build visits the first ones of those that the veto build visits. Assumes nothing.
use mathlib.Core.Bool.{Bool, So, cond, false, not, true}
use mathlib.Core.List.{List, [], ◌++◌, ◌∷◌, append_assoc, append-nil}
use mathlib.Core.Logic.{⊎_elim}
use mathlib.Core.Path.{◌∙◌, ◌≡◌, ap, ap₂, fun_ext, refl, sym}
use Prim.Native.Nat.{◌≤◌, suc, zero, ℕ}
use native.Mathlib.Omega.{arith}
use lib.ListN.{get_or, length}
use Rattle.sets.proofs.Members.{Every, members_bound, members_one}
use Rattle.sets.specs.Species.{Below, Species, members}
use Rattle.trees.proofs.Built.{built_in}
use Rattle.trees.proofs.Outcomes.{next_stop, next_tree, tree_same}
use Rattle.trees.proofs.Parts.{part_in, part_refl, parts_every}
use Rattle.trees.proofs.Stopping.{fewer}
use Rattle.trees.proofs.VetoTheorems.{no_stop_in}
use Rattle.trees.specs.Build.{Outcome, Outcomes, build, build_by, build_in, choose, ending, gather, leaf_each, next, stop, stops, tree, trees}
use Rattle.trees.specs.Links.{joined, lone, part, parts}
use Rattle.trees.specs.Trees.{Forest, Tree, leaf, nil, node, under}
use Rattle.trees.specs.Triplets.{Proper, Triplets}
use Rattle.trees.specs.Visits.{in_turn, inner_groups, inner_groups_f, stopped, visit, visited, visited_in}

-- ---- a tree: the groups of its inner nodes

leaves_none : (l : List ℕ) → inner_groups_f (leaf_each l) ≡ []
leaves_none [] = refl
leaves_none (x ∷ l) = leaves_none l

-- a node t over f, whose group is S
top : (S : Species) (f : Forest) (t : Tree) → under t ≡ S → node f ≡ t → S ∷ inner_groups_f f ≡ inner_groups t
top S f t sp q = ap (λ (U : Species). U ∷ inner_groups_f f) (sym sp ∙ ap under (sym q)) ∙ ap inner_groups q

ending-trees : (v : Bool) (N : ℕ) (S : Species) (t : Tree) → under t ≡ S → ending v N S ≡ tree t → S ∷ [] ≡ inner_groups t
ending-trees false N S t sp e = let z : ◌≡◌ {A = ℕ} 0 1 = cc in absurd (omega arith)
ending-trees true N S t sp e = ap (λ (l : List Species). S ∷ l) (sym (leaves_none (members N S))) ∙ top S (leaf_each (members N S)) t sp (tree_same _ t e)

turn_trees : (g : Species → Outcome) (h : Species → List Species) (ps : List Species) → Every (λ p. (t : Tree) → g p ≡ tree t → h p ≡ inner_groups t) ps
    → (f : Forest) → gather g ps ≡ trees f → in_turn g h ps ≡ inner_groups_f f
turn_trees g h [] q f e = let z : f ≡ nil = cc in rw z refl
turn_trees g h (p ∷ ps) q f e =
    let r = next_tree (g p) (gather g ps) f e in
    rw (r.2, r.4) (ap₂ (λ (l m : List Species). l ++ m) (q.0 r.0 r.2) (turn_trees g h ps q.1 r.1 r.3))

visit-trees : (s j : Bool) (x : ℕ) (S : Species) (w : Outcome) (o : Outcomes) (r : List Species) (t : Tree) → under t ≡ S → (w ≡ tree t → S ∷ [] ≡ inner_groups t)
    → (So (not j) → (f : Forest) → o ≡ trees f → r ≡ inner_groups_f f) → choose s j x w o ≡ tree t → visit s j S r ≡ inner_groups t
visit-trees true j x S w o r t sp a b e = ap inner_groups (tree_same (leaf x) t e)
visit-trees false true x S w o r t sp a b e = a e
visit-trees false false x S w (trees f) r t sp a b e = ap (λ (l : List Species). S ∷ l) (b refl f refl) ∙ top S f t sp (tree_same (node f) t e)
visit-trees false false x S w (stops U) r t sp a b e = let z : ◌≡◌ {A = ℕ} 0 1 = cc in absurd (omega arith)

module _ (v : Bool) (E : Triplets) (N : ℕ) (pr : Proper E) where
  trees_in : (k : ℕ) (S : Species) → Below N S → (u : ℕ) → So (S u) → length (members N S) ≤ k → (t : Tree) → build_in v E N k S ≡ tree t → visited_in v E N k S ≡ inner_groups t
  unfolding build_in visited_in
  trees_in zero S bd u hu le t e = absurd (omega (arith, members_one N S u (bd u hu) hu))
  trees_in (suc k) S bd u hu le t e =
      let sp : under t ≡ S = fun_ext (built_in v E N pr (suc k) S bd u hu le t e).species in
      visit-trees (lone (members N S)) (joined E N S) (get_or (members N S) 0 0) S (ending v N S) (gather (λ p. build_in v E N k p) (parts E N S)) _ t sp (ending-trees v N S t sp)
      (λ nj. turn_trees (λ p. build_in v E N k p) (λ p. visited_in v E N k p) (parts E N S)
      (parts_every E N S bd pr (λ p. (t : Tree) → build_in v E N k p ≡ tree t → visited_in v E N k p ≡ inner_groups t)
      (λ j hj lj. trees_in k (part E N S j) (λ x q. bd x (part_in E N S bd pr j x hj q)) j (part_refl E N S bd pr j) (omega (arith, fewer E N pr S bd u hu j hj nj)))))
      e

  pub trees-visited : (S : Species) → Below N S → (u : ℕ) → So (S u) → (t : Tree) → build_by v E N S ≡ tree t → visited v E N S ≡ inner_groups t
  unfolding build_by visited
  trees-visited S bd u hu t e = trees_in N S bd u hu (members_bound N S) t e

-- ---- a stop: the last set

-- the list ends with U
abbrev Ends : Species → List Species → Type 0
Ends U l = (m : List Species) × (l ≡ m ++ (U ∷ []))

ending_stops : (v : Bool) (N : ℕ) (S U : Species) → ending v N S ≡ stop U → Ends U (S ∷ [])
ending_stops false N S U e = let q : S ≡ U = cc in ([], ap (λ (W : Species). W ∷ []) q)
ending_stops true N S U e = let z : ◌≡◌ {A = ℕ} 0 1 = cc in absurd (omega arith)

turn_stops : (g : Species → Outcome) (h : Species → List Species) → ((p U : Species) → g p ≡ stop U → Ends U (h p)) → (ps : List Species) (U : Species) → gather g ps ≡ stops U → Ends U (in_turn g h ps)
turn_stops g h q [] U e = let z : ◌≡◌ {A = ℕ} 0 1 = cc in absurd (omega arith)
turn_stops g h q (p ∷ ps) U e = go (g p) refl e (turn_stops g h q ps U)
  where
    go : (o : Outcome) → g p ≡ o → next o (gather g ps) ≡ stops U → (gather g ps ≡ stops U → Ends U (in_turn g h ps)) → Ends U (h p ++ cond (stopped o) [] (in_turn g h ps))
    go (stop W) d n ih =
        let w : stop W ≡ stop U = cc in
        let r = q p U (d ∙ w) in
        (r.0, append-nil (h p) ∙ r.1)
    go (tree t) d n ih = ⊎_elim
        (λ k. let z : ◌≡◌ {A = ℕ} 0 1 = cc in absurd (omega arith))
        (λ k. let r = ih k in (h p ++ r.0, ap (λ (l : List Species). h p ++ l) r.1 ∙ sym (append_assoc (h p) r.0 (U ∷ []))))
        (next_stop (tree t) (gather g ps) U n)

visit_stops : (s j : Bool) (x : ℕ) (S : Species) (w : Outcome) (o : Outcomes) (r : List Species) (U : Species) → (w ≡ stop U → Ends U (S ∷ [])) → (o ≡ stops U → Ends U r)
    → choose s j x w o ≡ stop U → Ends U (visit s j S r)
visit_stops true j x S w o r U a b e = let z : ◌≡◌ {A = ℕ} 0 1 = cc in absurd (omega arith)
visit_stops false true x S w o r U a b e = a e
visit_stops false false x S w (trees f) r U a b e = let z : ◌≡◌ {A = ℕ} 0 1 = cc in absurd (omega arith)
visit_stops false false x S w (stops W) r U a b e = let q : stops W ≡ stops U = cc in let m = b q in (S ∷ m.0, ap (λ (l : List Species). S ∷ l) m.1)

module _ (E : Triplets) (N : ℕ) where
  stops_in : (k : ℕ) (S U : Species) → build_in false E N k S ≡ stop U → Ends U (visited_in false E N k S)
  unfolding build_in visited_in
  stops_in zero S U e = ending_stops false N S U e
  stops_in (suc k) S U e =
      visit_stops (lone (members N S)) (joined E N S) (get_or (members N S) 0 0) S (ending false N S) (gather (λ p. build_in false E N k p) (parts E N S)) _ U (ending_stops false N S U)
      (turn_stops (λ p. build_in false E N k p) (λ p. visited_in false E N k p) (stops_in k) (parts E N S) U) e

  pub stops_visited : (S U : Species) → build E N S ≡ stop U → (l : List Species) × (visited false E N S ≡ l ++ (U ∷ []))
  unfolding build_by visited
  stops_visited S U e = stops_in N S U e

-- ---- the plain build visits the first ones of those that the veto build visits, and where it gives a tree all of them

not_stopped : (o : Outcome) → ((U : Species) → o ≡ stop U → ⊥) → stopped o ≡ false
not_stopped (tree t) h = refl
not_stopped (stop U) h = absurd (h U refl)

turn_first : (g g' : Species → Outcome) (h h' : Species → List Species) → ((p : Species) → stopped (g' p) ≡ false)
    → ((p : Species) → (m : List Species) × (h' p ≡ h p ++ m) × ((t : Tree) → g p ≡ tree t → m ≡ [])) → (ps : List Species)
    → (m : List Species) × (in_turn g' h' ps ≡ in_turn g h ps ++ m) × ((f : Forest) → gather g ps ≡ trees f → m ≡ [])
turn_first g g' h h' n q [] = ([], refl, λ f e. refl)
turn_first g g' h h' n q (p ∷ ps) = rw (n p) (go (g p) refl (turn_first g g' h h' n q ps))
  where
    go : (o : Outcome) → g p ≡ o → (m : List Species) × (in_turn g' h' ps ≡ in_turn g h ps ++ m) × ((f : Forest) → gather g ps ≡ trees f → m ≡ [])
        → (m : List Species) × (h' p ++ in_turn g' h' ps ≡ (h p ++ cond (stopped o) [] (in_turn g h ps)) ++ m) × ((f : Forest) → next o (gather g ps) ≡ trees f → m ≡ [])
    go (stop U) d b =
        let a = q p in
        let R = in_turn g' h' ps in (
          a.0 ++ R,
          ap (λ (l : List Species). l ++ R) a.1 ∙ append_assoc (h p) a.0 R ∙ ap (λ (l : List Species). l ++ (a.0 ++ R)) (sym (append-nil (h p))),
          λ f e. let z : ◌≡◌ {A = ℕ} 0 1 = cc in absurd (omega arith),
        )
    go (tree t) d b =
        let a = q p in (
          b.0,
          ap₂ (λ (l m : List Species). l ++ m) (a.1 ∙ ap (λ (l : List Species). h p ++ l) (a.2 t d) ∙ append-nil (h p)) b.1 ∙ sym (append_assoc (h p) (in_turn g h ps) b.0),
          λ f e. let r = next_tree (tree t) (gather g ps) f e in b.2 r.1 r.3,
        )

visit_first : (s j : Bool) (x : ℕ) (S : Species) (w : Outcome) (o : Outcomes) (r r' : List Species) → (m : List Species) × (r' ≡ r ++ m) × ((f : Forest) → o ≡ trees f → m ≡ [])
    → (m : List Species) × (visit s j S r' ≡ visit s j S r ++ m) × ((t : Tree) → choose s j x w o ≡ tree t → m ≡ [])
visit_first true j x S w o r r' b = ([], refl, λ t e. refl)
visit_first false true x S w o r r' b = ([], refl, λ t e. refl)
visit_first false false x S w (trees f) r r' b = (b.0, ap (λ (l : List Species). S ∷ l) b.1, λ t e. b.2 f refl)
visit_first false false x S w (stops U) r r' b = (b.0, ap (λ (l : List Species). S ∷ l) b.1, λ t e. let z : ◌≡◌ {A = ℕ} 0 1 = cc in absurd (omega arith))

module _ (E : Triplets) (N : ℕ) where
  first_in : (k : ℕ) (S : Species) → (m : List Species) × (visited_in true E N k S ≡ visited_in false E N k S ++ m) × ((t : Tree) → build_in false E N k S ≡ tree t → m ≡ [])
  unfolding build_in visited_in
  first_in zero S = ([], refl, λ t e. refl)
  first_in (suc k) S = visit_first (lone (members N S)) (joined E N S) (get_or (members N S) 0 0) S (ending false N S) (gather (λ p. build_in false E N k p) (parts E N S)) _ _
      (turn_first (λ p. build_in false E N k p) (λ p. build_in true E N k p) (λ p. visited_in false E N k p) (λ p. visited_in true E N k p)
      (λ p. not_stopped (build_in true E N k p) (no_stop_in E N k p)) (first_in k) (parts E N S))

  pub first_visited : (S : Species) → (m : List Species) × (visited true E N S ≡ visited false E N S ++ m) × ((t : Tree) → build E N S ≡ tree t → m ≡ [])
  unfolding build_by visited
  first_visited S = first_in N S
