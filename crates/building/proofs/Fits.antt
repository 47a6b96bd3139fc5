-- A tree that was built has its body in the room. Assumes nothing.
use mathlib.Core.Bool.{Bool, false, true}
use mathlib.Core.List.{List, [], ◌∷◌, ◌++◌}
use mathlib.Core.Path.{◌∙◌, ◌≡◌, ap, refl, sym}
use Prim.Native.Nat.{ℕ, ◌≤◌}
use native.Mathlib.Omega.{arith}
use Rattle.sets.proofs.Least.{some_member}
use Rattle.sets.proofs.Tests.{true_has}
use Rattle.sets.proofs.Sizes.{not_empty}
use Rattle.sets.specs.Sets.{has, size}
use Rattle.trees.proofs.Built.{built}
use Rattle.trees.proofs.Formed.{formed_i}
use Rattle.trees.specs.Build.{Outcome, stop, tree}
use Rattle.trees.specs.Trees.{Tree}
use Rattle.tables.proofs.Bytes.{entered_proper}
use Rattle.tables.specs.Bytes.{entered}
use Rattle.bodies.proofs.Back.{body_length_lem, set_room}
use Rattle.bodies.specs.Draws.{node_count}
use Rattle.bodies.specs.Nodes.{body_length, room_for}
use Rattle.answers.proofs.Answered.{first_append, then_pass}
use Rattle.answers.specs.Looks.{answered, first_refusal}
use Rattle.answers.specs.Looks.{Look}
use Rattle.admitting.specs.GoodSet.{GoodSet, input_looks}
use Rattle.building.specs.Builds.{build_answer, build_done, counted_done, counted_refused, look_outcome, looked_by, nodes_in, outcome, outcome_by}
use Rattle.building.specs.Vetoes.{veto_answer, veto_looked}
use Rattle.answers.specs.declared.Written.{Written}
use Rattle.admitting.proofs.Chosen.{input_good, set_below, set_small}
use Rattle.std.specs.Prelude.{Ok, Err}

done_pass : (c : ℕ) (k : Look) (w v : Written) → (answered (counted_done c) (counted_refused c) k v).answer ≡ Ok w → (k ≡ Ok tt) × (w ≡ v)
done_pass c (Ok _) w v e = let z : v ≡ w = cc in (refl, sym z)
done_pass c (Err x) w v e = let z : ◌≡◌ {A = ℕ} 0 1 = cc in absurd (omega arith)

module _ (v : Bool) (n s : ℕ) (t : List ℕ) (l : ℕ) (g : GoodSet n s) (room : room_for (size s) ≤ l) where
  tree_fits : (T : Tree) → outcome_by v n s t ≡ tree T → body_length (node_count T) ≤ l
  unfolding outcome_by
  tree_fits T e =
      let m = some_member s (not_empty s g.some) in
      let b = built v (entered t) n (entered_proper t) (has s) (set_below n s g) m.0 (true_has s m.0 m.1) T e in
      omega (arith, body_length_lem T, set_room n s (set_small n s g) T (formed_i T b.formed) b.species, room)

  outcome_fits : (R : Outcome) → outcome_by v n s t ≡ R → body_length (nodes_in R) ≤ l
  outcome_fits (tree T) e = tree_fits T e
  outcome_fits (stop U) e = omega arith

-- The body of a tree that was built lies in the room, by either build v and whatever looks come behind those at what is handed in.
answer_fits : (v : Bool) (c n s : ℕ) (t : List ℕ) (l : ℕ) (later : List Look) (w : Written)
    → (answered (counted_done c) (counted_refused c) (first_refusal (input_looks n s t l ++ later)) (build_done (outcome_by v n s t))).answer ≡ Ok w → body_length w.nodes ≤ l
answer_fits v c n s t l later w e =
    let d = done_pass c (first_refusal (input_looks n s t l ++ later)) w (build_done (outcome_by v n s t)) e in
    let p = (then_pass (first_refusal (input_looks n s t l)) _).0 (sym (first_append (input_looks n s t l) later) ∙ d.0) in
    let i = input_good n s t l p.0 in
    omega (arith, outcome_fits v n s t l i.1 i.2 (outcome_by v n s t) refl, ap (λ (x : Written). x.nodes) d.1)

-- of the plain build
pub done_fits : (n s : ℕ) (t : List ℕ) (l : ℕ) (w : Written) → (build_answer n s t l).answer ≡ Ok w → body_length w.nodes ≤ l
done_fits n s t l = answer_fits false (looked_by false n s t) n s t l (look_outcome (outcome n s t) ∷ [])

-- and of the veto build
pub veto-fits : (n s : ℕ) (t : List ℕ) (l : ℕ) (w : Written) → (veto_answer n s t l).answer ≡ Ok w → body_length w.nodes ≤ l
veto-fits n s t l = answer_fits true (veto_looked n s t) n s t l []
