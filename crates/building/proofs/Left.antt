-- What a build leaves where it answers with a tree, by either build: a good body at the front of the room, of a tree that nothing entered contradicts. Assumes nothing.
use mathlib.Core.Bool.{Bool, So, false, true}
use mathlib.Core.List.{List, [], ◌∷◌}
use mathlib.Core.Path.{◌∙◌, ◌≡◌, ap, refl, subst, sym}
use Prim.Native.Nat.{ℕ, ◌≤◌}
use native.Mathlib.Omega.{arith}
use borrow.Author.Tests.{lt-ltb}
use lib.ListN.{length, take}
use Rattle.sets.proofs.Least.{some_member}
use Rattle.sets.proofs.Members.{all_below}
use Rattle.sets.proofs.Tests.{true_has}
use Rattle.sets.proofs.Sizes.{not_empty}
use Rattle.sets.specs.Sets.{Has, has}
use Rattle.sets.specs.Species.{Below, Inside, below}
use Rattle.trees.proofs.Built.{Built, built}
use Rattle.trees.proofs.Formed.{formed_i}
use Rattle.trees.proofs.Theorems.{built_tree}
use Rattle.trees.proofs.VetoTheorems.{veto_pc, veto-plain, veto_tree}
use Rattle.trees.specs.Build.{Outcome, stop, tree, veto}
use Rattle.trees.specs.Check.{PC}
use Rattle.trees.specs.Trees.{Tree, under, well_formed}
use Rattle.tables.proofs.Bytes.{entered_proper}
use Rattle.tables.specs.Bytes.{entered}
use Rattle.bodies.proofs.Back.{body_back, body_bad_length, body_good, body_length_lem, set_room}
use Rattle.bodies.proofs.Written.{written_body}
use Rattle.bodies.specs.Draws.{body_of, node_count, tree_of, written}
use Rattle.bodies.specs.Nodes.{body_length}
use Rattle.answers.proofs.Answered.{first_append, then_pass}
use Rattle.answers.proofs.Good.{table_pass}
use Rattle.answers.specs.Inputs.{Body, Count, Table}
use Rattle.answers.specs.Looks.{after, answered, first_refusal, look_bytes, look_count, look_table}
use Rattle.answers.specs.Looks.{Look}
use Rattle.answers.specs.declared.Written.{Written}
use Rattle.admitting.specs.GoodSet.{GoodSet, input_looks}
use Rattle.building.specs.Builds.{build_after, build_answer, build_done, build_looks, build_room, counted_done, counted_refused, look_outcome, looked_by, nodes_in, outcome, outcome_by}
use Rattle.building.specs.Vetoes.{veto_after, veto_answer, veto_looked, vetoed}
use Rattle.admitting.proofs.Chosen.{input_good, set_below, set_small}
use Rattle.std.specs.Prelude.{Ok, Err}

-- b is the body of a tree that was built from the table t of n species
pub record BuiltBody (n : ℕ) (t b : List ℕ) : Type 0 where
  pub count : Count n
  pub table : Table n t
  pub body : Body n b
  pub agrees : PC (entered t) (below n) (tree_of b)

-- ---- the tree T of the set s, by the build v, in the room o

module _ (n s : ℕ) (t : List ℕ) (g : GoodSet n s) where
  some : (x : ℕ) × Has s x
  some = some_member s (not_empty s g.some)

  in_below : Below n (has s)
  in_below = set_below n s g

  some_in : So (has s some.0)
  some_in = true_has s some.0 some.1

  tree_built : (v : Bool) (T : Tree) → outcome_by v n s t ≡ tree T → Built v (entered t) (has s) T
  unfolding outcome_by
  tree_built v T e = built v (entered t) n (entered_proper t) (has s) in_below some.0 some_in T e

  -- where the plain build gives a tree, the veto build gives it too
  vetoed_too : (v : Bool) (T : Tree) → outcome_by v n s t ≡ tree T → veto (entered t) n (has s) ≡ tree T
  unfolding outcome_by
  vetoed_too true T e = e
  vetoed_too false T e =
      let h = built_tree (entered t) (entered_proper t) n (has s) in_below some.0 some_in T e in
      sym ((veto-plain (entered t) (entered_proper t) n (has s) in_below some.0 some_in).0 (T, h.0)) ∙ e

  -- the check is over all n species
  tree_agrees : (v : Bool) (T : Tree) → outcome_by v n s t ≡ tree T → PC (entered t) (below n) T
  tree_agrees v T e =
      let inside : Inside (has s) (below n) = λ x h. lt-ltb x n (in_below x h) in
      veto_pc (entered t) (entered_proper t) n (has s) in_below some.0 some_in T (vetoed_too v T e) n (below n) (all_below n) inside

-- nothing that is handed in is refused
module _ (n s : ℕ) (t o : List ℕ) (passed : first_refusal (input_looks n s t (length o)) ≡ Ok tt) where
  good : GoodSet n s
  good = (input_good n s t (length o) passed).1

  count : Count n
  count = (input_good n s t (length o) passed).0

  table : Table n t
  table =
      let a = (then_pass (look_count n) _).0 passed in
      let b = (then_pass (look_table n (length t)) _).0 a.1 in
      let c = (then_pass (look_bytes t) _).0 b.1 in
      (table_pass n t).0 ((then_pass (look_table n (length t)) (first_refusal (look_bytes t ∷ []))).1 (b.0, (then_pass (look_bytes t) (Ok tt)).1 (c.0, refl)))

  module _ (v : Bool) (T : Tree) (e : outcome_by v n s t ≡ tree T) where
    formed : So (well_formed T)
    formed = formed_i T (tree_built n s t good v T e).formed

    species : (x : ℕ) → under T x ≡ has s x
    species = (tree_built n s t good v T e).species

    tree_below : Below n (under T)
    tree_below x h = in_below n s t good x (sym (species x) ∙ h)

    fits : length (body_of T) ≤ length o
    fits = omega (arith, set_room n s (set_small n s good) T formed species, (input_good n s t (length o) passed).2)

    stands : body_of T ≡ take (body_length (node_count T)) (written o (body_of T))
    stands = sym (ap (λ (k : ℕ). take k (written o (body_of T))) (sym (body_length_lem T)) ∙ written_body o (body_of T) fits)

    tree_leaves : BuiltBody n t (take (body_length (node_count T)) (written o (body_of T)))
    tree_leaves = subst (BuiltBody n t) stands (record {
      count = count;
      table = table;
      body = record { good = body_good n T formed tree_below count.most; long = body_bad_length n T formed tree_below count.most };
      agrees = subst (PC (entered t) (below n)) (sym (body_back n T formed tree_below count.most)) (tree_agrees n s t good v T e);
    })

-- ---- by the answer

-- the looks were answered with k, and the build came to R
came : (c : ℕ) (k : Look) (R : Outcome) (o : List ℕ) (w : Written) → (answered (counted_done c) (counted_refused c) k (build_done R)).answer ≡ Ok w
    → (k ≡ Ok tt) × (take (body_length (nodes_in R)) (build_room R o) ≡ take (body_length w.nodes) (after k (build_room R o) o))
came c (Ok _) R o w e = let z : build_done R ≡ w = cc in (refl, ap (λ (x : Written). take (body_length x.nodes) (build_room R o)) z)
came c (Err x) R o w e = let z : ◌≡◌ {A = ℕ} 0 1 = cc in absurd (omega arith)

is_tree : (R : Outcome) → look_outcome R ≡ Ok tt → (T : Tree) × (R ≡ tree T)
is_tree (tree T) e = (T, refl)
is_tree (stop U) e = let z : ◌≡◌ {A = ℕ} 0 1 = cc in absurd (omega arith)

module _ (n s : ℕ) (t o : List ℕ) (w : Written) where
  leaves : (v : Bool) (T : Tree) → outcome_by v n s t ≡ tree T → first_refusal (input_looks n s t (length o)) ≡ Ok tt
      → BuiltBody n t (take (body_length (nodes_in (outcome_by v n s t))) (build_room (outcome_by v n s t) o))
  leaves v T e p = subst (λ (R : Outcome). BuiltBody n t (take (body_length (nodes_in R)) (build_room R o))) (sym e) (tree_leaves n s t o p v T e)

  -- the plain build,
  pub build-leaves : (build_answer n s t (length o)).answer ≡ Ok w → BuiltBody n t (take (body_length w.nodes) (build_after n s t o))
  build-leaves e =
      let k = came (looked_by false n s t) (first_refusal (build_looks n s t (length o))) (outcome n s t) o w e in
      let p = (then_pass (first_refusal (input_looks n s t (length o))) _).0 (sym (first_append (input_looks n s t (length o)) (look_outcome (outcome n s t) ∷ [])) ∙ k.0) in
      let r = is_tree (outcome n s t) ((then_pass (look_outcome (outcome n s t)) (Ok tt)).0 p.1).0 in
      subst (BuiltBody n t) k.1 (leaves false r.0 r.1 p.0)

  -- and the veto build
  pub veto-leaves : (veto_answer n s t (length o)).answer ≡ Ok w → BuiltBody n t (take (body_length w.nodes) (veto_after n s t o))
  unfolding outcome_by
  veto-leaves e =
      let k = came (veto_looked n s t) (first_refusal (input_looks n s t (length o))) (vetoed n s t) o w e in
      let r = veto_tree (entered t) n (has s) in
      subst (BuiltBody n t) k.1 (leaves true r.0 r.1 k.0)
