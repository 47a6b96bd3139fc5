-- The tree behind `may be sent: `: what is printed of a built tree has it, and it passes the check; so what is printed of a build. Assumes nothing.
use mathlib.Core.Bool.{Bool, false, true}
use mathlib.Core.List.{List, [], ◌∷◌, ◌++◌, append_assoc}
use mathlib.Core.Logic.{◌≢◌}
use mathlib.Core.Path.{◌∙◌, ◌≡◌, ap, refl, subst, sym}
use Prim.Native.Nat.{ℕ}
use native.Mathlib.Omega.{arith}
use borrow.Author.Tests.{le-ltb, lt-ltb}
use lib.Dec.{ltb}
use lib.ListN.{get_or, replicate}
use Rattle.sets.specs.Sets.{number}
use Rattle.sets.specs.Species.{Inside, below}
use Rattle.trees.specs.Build.{Outcome, stop, tree}
use Rattle.trees.specs.Trees.{under}
use Rattle.triples.specs.Index.{C}
use Rattle.bodies.proofs.Drawn.{tree_below, tree_formed}
use Rattle.bodies.proofs.Good.{length_good}
use Rattle.bodies.specs.Draws.{tree_of}
use Rattle.bodies.specs.Nodes.{body_length, longest, nodes}
use Rattle.answers.proofs.Answered.{first_on, then_nothing}
use Rattle.answers.specs.Looks.{answered, first_refusal, refuse_if}
use Rattle.refusals.specs.declared.Contradiction.{Contradiction}
use Rattle.answers.specs.Looks.{Look}
use Rattle.refusals.specs.declared.Refusal.TheVariants.{Contradicted, NoTree, Unforced}
use Rattle.collections.specs.Layout.{trees}
use Rattle.building.proofs.Left.{BuiltBody, build-leaves, veto-leaves}
use Rattle.admitting.specs.GoodSet.{input_looks}
use Rattle.building.specs.Builds.{build_answer, build_done, build_looks, counted_done, counted_refused, look_outcome, looked_by, outcome}
use Rattle.building.specs.Vetoes.{veto_answer, veto_looked, vetoed}
use Rattle.checking.proofs.Passing.{pc_first}
use Rattle.checking.specs.Checks.{answer_of, check_answer, check_told, first_differs, first_unsure}
use Rattle.verdict_text.proofs.Said.{check_triples}
use Rattle.verdict_text.specs.Verdict.{verdict_text}
use Rattle.species_text.specs.Lines.{species_line, tree_line}
use Rattle.sending.proofs.Sent.{sent_passes}
use Rattle.sending.specs.Pulls.{groups_text, species_lines}
use Rattle.sending.specs.Sends.{dropped_sets, final_body, left_in', send_text}
use Rattle.sending.specs.Words.{dropped_word}
use Rattle.papers_text.specs.Lines.{sides_text}
use Rattle.built_text.specs.Built.{built_text, tree_text, veto_text}
use Rattle.built_text.specs.Sent.{Sent}
use Rattle.built_text.specs.Words.{built_words, open_words, quarrel_words}
use Rattle.built_text.proofs.Told.{open_done, plain_done, plain_refused}
use Rattle.std.specs.Prelude.{Ok, Result}
use Rattle.refusals.specs.declared.Refusal.{Refusal}

-- behind another text
pub sent_behind : (n : ℕ) (t u x : List ℕ) → Sent n t x → Sent n t (u ++ x)
sent_behind n t u x s = record {
  before = u ++ s.before;
  body = s.body;
  behind = s.behind;
  text = ap (λ (z : List ℕ). u ++ z) s.text ∙ sym (append_assoc u s.before _);
  passes = s.passes;
}

-- ---- the tree of a body b that was built from the table t of n species

agreed : (q : Bool) (x : Contradiction) (j : ℕ) → (check_told (answer_of (refuse_if false (Contradicted x) ∷ refuse_if q (Unforced j) ∷ []))).number ≢ 11
agreed true x j e = omega (arith, e)
agreed false x j e = omega (arith, e)

module _ (n : ℕ) (t b : List ℕ) (g : BuiltBody n t b) where
  no_difference : ltb (first_differs n t (tree_of b)) (C n 3) ≡ false
  no_difference =
      let some = (length_good b g.body.long).0 in
      let inside : Inside (under (tree_of b)) (below n) = λ x h. lt-ltb x n (tree_below n (nodes b) g.body.good some x h) in
      le-ltb (first_differs n t (tree_of b)) (C n 3) ((pc_first n t (tree_of b) (tree_formed n (nodes b) g.body.good some) inside).0 g.agrees)

  uncontradicted : (check_told (check_answer n t b)).number ≢ 11
  uncontradicted e =
      let x : Contradiction = record { index = first_differs n t (tree_of b); byte = get_or t (first_differs n t (tree_of b)) 0 } in
      let unsure = first_unsure n t (tree_of b) in
      let q : check_answer n t b ≡ answer_of (refuse_if false (Contradicted x) ∷ refuse_if (ltb unsure (C n 3)) (Unforced unsure) ∷ []) = check_triples g.count g.table g.body
      ∙ ap (λ (p : Bool). answer_of (refuse_if p (Contradicted x) ∷ refuse_if (ltb unsure (C n 3)) (Unforced unsure) ∷ [])) no_difference in
      agreed (ltb unsure (C n 3)) x unsure (sym (ap (λ (a : Result (Unit {0}) Refusal). (check_told a).number) q) ∙ e)

  pub tree_sent : (w : List ℕ) → Sent n t (tree_text w n t b)
  unfolding send_text
  tree_sent w =
      let s = sent_passes n t b g.count g.table g.body uncontradicted in
      let body = final_body (left_in' n t b) s.counts in
      sent_behind n t (tree_line w b) _ (sent_behind n t (verdict_text n t b) _ (record {
        before = [];
        body = body;
        behind = species_lines dropped_word (dropped_sets (left_in' n t b) s.counts) ++ groups_text body;
        text = s.text;
        passes = s.passes;
      }))

-- ---- the builds of the set s of the papers c, of which nothing is refused that is handed in

module _ (c : List ℕ) (n s : ℕ) (t : List ℕ) (passed : first_refusal (input_looks n s t longest) ≡ Ok tt) where
  veto_done : (veto_answer n s t longest).answer ≡ Ok (build_done (vetoed n s t))
  veto_done = ap (λ (k : Look). (answered (counted_done (veto_looked n s t)) (counted_refused (veto_looked n s t)) k (build_done (vetoed n s t))).answer) passed

  veto_sent : Sent n t (veto_text n s t)
  veto_sent =
      let w = build_done (vetoed n s t) in
      subst (Sent n t) (open_done n s t _ _ refl refl w veto_done (body_length w.nodes) refl) (tree_sent n t _ (veto-leaves n s t (replicate longest 0) w veto_done) open_words)

  looked : (R : Outcome) → outcome n s t ≡ R → first_refusal (build_looks n s t longest) ≡ look_outcome R
  looked R e = first_on (input_looks n s t longest) (look_outcome (outcome n s t) ∷ []) passed ∙ then_nothing _ ∙ ap look_outcome e

  answer_is : (R : Outcome) → outcome n s t ≡ R
      → (build_answer n s t longest).answer ≡ (answered (counted_done (looked_by false n s t)) (counted_refused (looked_by false n s t)) (look_outcome R) (build_done (outcome n s t))).answer
  answer_is R e = ap (λ (k : Look). (answered (counted_done (looked_by false n s t)) (counted_refused (looked_by false n s t)) k (build_done (outcome n s t))).answer) (looked R e)

  pub built_sent : Sent n t (built_text c n s t)
  built_sent = by (outcome n s t) refl
    where
      by : (R : Outcome) → outcome n s t ≡ R → Sent n t (built_text c n s t)
      by (tree T) e =
          let w = build_done (outcome n s t) in
          let d = answer_is (tree T) e in
          subst (Sent n t) (plain_done c n s t _ _ refl refl w d (body_length w.nodes) refl) (tree_sent n t _ (build-leaves n s t (replicate longest 0) w d) built_words)
      by (stop U) e =
          let u = number 64 U in
          subst (Sent n t) (plain_refused c n s t _ _ refl refl (NoTree u) (answer_is (stop U) e))
          (sent_behind n t (species_line quarrel_words u) _ (sent_behind n t (sides_text u c (trees c)) _ veto_sent))
