-- What may be sent passes the check, with the same table. Assumes nothing.
use mathlib.Core.Bool.{Bool, false, true}
use mathlib.Core.List.{List, [], ◌∷◌}
use mathlib.Core.Logic.{◌≢◌}
use mathlib.Core.Path.{◌∙◌, ◌≡◌, ap, refl, sym}
use Prim.Native.Nat.{ℕ}
use native.Mathlib.Omega.{arith}
use borrow.Author.Tests.{le-ltb, lt-ltb}
use lib.Dec.{ltb}
use lib.ListN.{get_or, length}
use Rattle.sets.proofs.Members.{all_below}
use Rattle.sets.specs.Species.{Inside, below}
use Rattle.trees.proofs.LooseTheorems.{final_earned, final_pc}
use Rattle.trees.specs.Check.{Earned, PC, R}
use Rattle.trees.specs.Trees.{Tree, under}
use Rattle.tables.proofs.Bytes.{entered_proper}
use Rattle.tables.specs.Bytes.{entered}
use Rattle.triples.specs.Index.{C}
use Rattle.bodies.proofs.Good.{length_good}
use Rattle.bodies.specs.Draws.{body_of, tree_of}
use Rattle.bodies.specs.Nodes.{longest}
use Rattle.answers.proofs.Answered.{first_on, then_pass}
use Rattle.answers.proofs.Good.{room_pass}
use Rattle.answers.specs.Inputs.{Body, Count, Table}
use Rattle.answers.specs.Looks.{answered, first_refusal, look_room, refuse_if}
use Rattle.refusals.specs.declared.Contradiction.{Contradiction}
use Rattle.answers.specs.Looks.{Look}
use Rattle.refusals.specs.declared.Refusal.TheVariants.{Contradicted, Unforced}
use Rattle.checking.proofs.Judged.{agreed, is_earned}
use Rattle.checking.proofs.Passing.{pc_first}
use Rattle.checking.specs.Checks.{answer_of, candidate_looks, check_answer, check_told, first_differs, first_unsure, look_pc, triples_looks}
use Rattle.easing.specs.Eases.{eased, numbers, tally}
use Rattle.loosening.specs.Loosens.{late_looks, loosen_answer, loosen_looks}
use Rattle.easing.specs.declared.Tally.{Tally}
use Rattle.verdict_text.proofs.Said.{candidate_good, check_triples}
use Rattle.sending.proofs.Final.{built_below, built_formed, final_below, final_body_lem, final_tree, final_well}
use Rattle.sending.proofs.Left.{done_told, left_body, left_dropped}
use Rattle.sending.specs.Sends.{dropped_sets, final_body, left_in', lines_text, sent_text}
use Rattle.std.specs.Prelude.{Ok, Err, Result}
use Rattle.refusals.specs.declared.Refusal.{Refusal}

-- loosening is done, and what is written is the tree that it leaves, with the sets that it dropped; that tree passes the check
pub record SentPasses (n : ℕ) (t b : List ℕ) : Type 0 where
  pub counts : Tally
  pub done : loosen_answer n t b longest 62 ≡ Ok counts
  pub text : sent_text n t b ≡ lines_text (final_body (left_in' n t b) counts) (dropped_sets (left_in' n t b) counts)
  pub final : final_body (left_in' n t b) counts ≡ body_of (eased n t b).final
  pub dropped : dropped_sets (left_in' n t b) counts ≡ numbers (eased n t b).dropped
  pub passes : check_answer n t (final_body (left_in' n t b) counts) ≡ Ok tt

not_contradicted : (p q : Bool) (x : Contradiction) (j : ℕ) → (check_told (answer_of (refuse_if p (Contradicted x) ∷ refuse_if q (Unforced j) ∷ []))).number ≢ 11
    → refuse_if p (Contradicted x) ≡ Ok tt
not_contradicted true q x j h = absurd (h refl)
not_contradicted false q x j h = refl

module _ (n : ℕ) (t b : List ℕ) (c : Count n) (k : Table n t) (g : Body n b) where
  inside : Inside (under (tree_of b)) (below n)
  inside x h = lt-ltb x n (built_below g x h)

  -- no entered triplet contradicts the tree
  module _ (none : look_pc n t (tree_of b) ≡ Ok tt) where
    pc : PC (entered t) (below n) (tree_of b)
    pc = agreed n t (tree_of b) (built_formed g) (built_below g) none

    -- ---- the tree that is left

    abbrev F : Tree
    F = (eased n t b).final

    left_pc : PC (entered t) (below n) F
    unfolding eased
    left_pc = final_pc (entered t) (entered_proper t) n (tree_of b) (built_formed g) (built_below g) (below n) (all_below n) inside pc

    left_earned : Earned (R (entered t) F) F
    unfolding eased
    left_earned = final_earned (entered t) (entered_proper t) n (tree_of b) (built_formed g) (built_below g)

    left-none : look_pc n t F ≡ Ok tt
    left-none =
        let w = final_well g c t in
        let s : Inside (under F) (below n) = λ x h. lt-ltb x n (final_below g c t x h) in
        rw (le-ltb (first_differs n t F) (C n 3) ((pc_first n t F w s).0 left_pc)) refl

    left_passes : check_answer n t (body_of F) ≡ Ok tt
    left_passes = check_triples c k (final_body_lem g c t) ∙ ap (λ (u : Tree). answer_of (triples_looks n t u)) (final_tree g c t)
        ∙ sym (is_earned n t F (final_well g c t) (final_below g c t) left-none left_earned)

    -- ---- loosening

    pass : first_refusal (loosen_looks n t b longest 62) ≡ Ok tt
    pass =
        let l = length_good b g.long in
        first_on (candidate_looks n t b) (late_looks n t b longest 62) (candidate_good c k g)
        ∙ (then_pass (look_pc n t (tree_of b)) _).1 (
          none,
          (then_pass (look_room (length b) longest) _).1
              ((room_pass (length b) longest).1 (omega (arith, l.1, l.2)), (then_pass (look_room 62 62) (Ok tt)).1 ((room_pass 62 62).1 (omega arith), refl)),
        )

    is_done : loosen_answer n t b longest 62 ≡ Ok (tally (eased n t b))
    is_done = ap (λ (a : Look). answered Ok Err a (tally (eased n t b))) pass

    sent : SentPasses n t b
    sent =
        let final = left_body n t b _ refl _ refl (tally (eased n t b)) is_done c g in
        record {
          counts = tally (eased n t b);
          done = is_done;
          text = sym (done_told n t b _ refl _ refl (tally (eased n t b)) is_done _ refl);
          final = final;
          dropped = left_dropped n t b _ refl _ refl (tally (eased n t b)) is_done c g;
          passes = ap (check_answer n t) final ∙ left_passes;
        }

  -- For good input that the check does not refuse with 11: the tree that may be sent passes the whole check, with the same table.
  pub sent_passes : (check_told (check_answer n t b)).number ≢ 11 → SentPasses n t b
  sent_passes h =
      let at = first_differs n t (tree_of b) in
      let x : Contradiction = record { index = at; byte = get_or t at 0 } in
      let unsure = first_unsure n t (tree_of b) in
      sent (not_contradicted (ltb at (C n 3)) (ltb unsure (C n 3)) x unsure (λ e. h (ap (λ (a : Result (Unit {0}) Refusal). (check_told a).number) (check_triples c k g) ∙ e)))
