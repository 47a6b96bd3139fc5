-- How long the text of a built table is. Assumes nothing.
use mathlib.Core.Bool.{Bool, cond, false, true}
use mathlib.Core.List.{List, [], ◌++◌}
use mathlib.Core.Path.{◌≡◌, refl}
use Prim.Native.Nat.{ℕ, ◌+◌, ◌≤◌}
use native.Mathlib.Omega.{arith}
use lib.Dec.{eqb}
use lib.ListN.{get_or, length, length-append, replicate}
use Rattle.bodies.specs.Nodes.{body_length, longest}
use Rattle.refusals.specs.Told.{Told, unnamed}
use Rattle.answers.specs.Inputs.{Body, Count}
use Rattle.refusals.specs.Refusals.{refusal_told}
use Rattle.collections.specs.Collection.{Collection}
use Rattle.collections.specs.Layout.{trees}
use Rattle.building.specs.Builds.{build_after, build_answer}
use Rattle.building.specs.Vetoes.{veto_after, veto_answer}
use Rattle.species_text.proofs.Lengths.{species_few, tree_few}
use Rattle.species_text.specs.Lines.{species_line, tree_line}
use Rattle.sending.proofs.Lengths.{send_few}
use Rattle.sending.specs.Sends.{send_text}
use Rattle.papers_text.proofs.Lengths.{sides_few}
use Rattle.papers_text.specs.Lines.{sides_text}
use Rattle.built_text.specs.Built.{built_text, open_text, plain_text, quarrel_text, stopped_text, tree_text, veto_text}
use Rattle.built_text.specs.Words.{built_words, open_words, quarrel_words}
use Rattle.built_text.proofs.Told.{open_body, plain_body}
use Rattle.std.specs.Prelude.{Ok, Err, Result}
use Rattle.refusals.specs.declared.Refusal.{Refusal}
use Rattle.answers.specs.declared.Written.{Written}

line_few : {n : ℕ} {b : List ℕ} → Count n × Body n b → (w t : List ℕ) → length (tree_text w n t b) ≤ length w + 26309
line_few {n} {b} g w t = omega (arith, length-append (tree_line w b) (send_text n t b), tree_few g.0 g.1 w, send_few g.0 g.1 t)

module _ (n s : ℕ) (t : List ℕ) where
  veto_few : length (veto_text n s t) ≤ 26335
  veto_few = by (veto_answer n s t longest).answer refl
    where
      by : (a : Result Written Refusal) → (veto_answer n s t longest).answer ≡ a → length (open_text n t (veto_after n s t (replicate longest 0)) a) ≤ 26335
      by (Ok w) e = line_few (open_body n s t _ _ refl refl w e (body_length w.nodes) refl) open_words t
      by (Err x) e = omega arith

  module _ (c : List ℕ) (g : Collection c) where
    quarrel_few : (a : Told) → length (quarrel_text c n s t a) ≤ 31879
    quarrel_few a = by (eqb a.number 10)
      where
        u : ℕ
        u = get_or (unnamed a.values) 0 0

        by : (o : Bool) → length (cond o (stopped_text c n s t u) []) ≤ 31879
        by true =
            omega (
              arith,
              length-append (species_line quarrel_words u) (sides_text u c (trees c) ++ veto_text n s t),
              length-append (sides_text u c (trees c)) (veto_text n s t),
              species_few quarrel_words u,
              sides_few c g u (trees c) (omega arith),
              g.few,
              veto_few,
            )
        by false = omega arith

    pub built_few : length (built_text c n s t) ≤ 31879
    built_few = by (build_answer n s t longest).answer refl
      where
        by : (a : Result Written Refusal) → (build_answer n s t longest).answer ≡ a → length (plain_text c n s t (build_after n s t (replicate longest 0)) a) ≤ 31879
        by (Ok w) e = omega (arith, line_few (plain_body c n s t _ _ refl refl w e (body_length w.nodes) refl) built_words t)
        by (Err x) e = quarrel_few (refusal_told x)
