-- How long the text of a built tree is: at most 62 sets are dropped, and at most 62 groups are left to pull by. Assumes nothing.
use mathlib.Core.List.{List, [], ◌∷◌, ◌++◌}
use mathlib.Core.Path.{◌≡◌, refl}
use Prim.Native.Nat.{ℕ, ◌+◌, ◌*◌, ◌≤◌}
use native.Mathlib.Omega.{arith}
use lib.ListN.{length, length-append, length-take}
use Rattle.trees.proofs.Formed.{formed_e}
use Rattle.trees.specs.Visits.{inner_groups}
use Rattle.bodies.proofs.Back.{leaves_few}
use Rattle.bodies.specs.Draws.{tree_of}
use Rattle.bodies.specs.Nodes.{longest}
use Rattle.answers.specs.Inputs.{Body, Count}
use Rattle.loosening.specs.Loosens.{loosen_answer}
use Rattle.species_text.proofs.Lengths.{species_few, tree_few}
use Rattle.species_text.specs.Lines.{species_line, tree_line}
use Rattle.verdict_text.proofs.Told.{verdict_few}
use Rattle.verdict_text.specs.Verdict.{verdict_text}
use Rattle.sending.proofs.InnerNodes.{behind_few}
use Rattle.sending.proofs.Left.{left_good}
use Rattle.sending.proofs.Pulled.{numbers-length}
use Rattle.sending.specs.Pulls.{InPreorder, behind_first, groups_text, pulled, pulled_text, species_lines}
use Rattle.sending.specs.Sends.{dropped_sets, final_body, left_in', left_text, send_text, sent_text}
use Rattle.sending.specs.Words.{dropped_word, sent_words, together_words}
use Rattle.std.specs.Prelude.{Ok, Err, Result}
use Rattle.refusals.specs.declared.Refusal.{Refusal}
use Rattle.easing.specs.declared.Tally.{Tally}

lines_few : (w l : List ℕ) → length (species_lines w l) ≤ (length w + 193) * length l
lines_few w [] = omega arith
lines_few w (s ∷ l) = omega (arith, length-append (species_line w s) (species_lines w l), species_few w s, lines_few w l)

pulled_few : (b : List ℕ) → InPreorder b → length (pulled b) ≤ 62
pulled_few b p = omega (
  arith,
  numbers-length (behind_first (inner_groups (tree_of b))),
  behind_few (tree_of b) (formed_e (tree_of b) p.formed),
  leaves_few 64 (tree_of b) p.formed p.below,
)

text_few : (l : List ℕ) → length l ≤ 62 → length (pulled_text l) ≤ 12834
text_few [] h = omega arith
text_few (s ∷ l) h = omega (arith, lines_few together_words (s ∷ l), h)

module _ {n : ℕ} {b : List ℕ} (c : Count n) (g : Body n b) (t : List ℕ) where
  left_few : (a : Result Tally Refusal) → a ≡ loosen_answer n t b longest 62 → length (left_text (left_in' n t b) a) ≤ 25618
  left_few (Ok w) e =
      let o = left_in' n t b in
      let k = left_good n t b (Ok w) e o refl w refl c g in
      let d = dropped_sets o w in
      let few : length d ≤ 62 = simp length-take (omega (arith, k.few_dropped)) in
      omega (
        arith,
        length-append (tree_line sent_words (final_body o w)) (species_lines dropped_word d ++ groups_text (final_body o w)),
        length-append (species_lines dropped_word d) (groups_text (final_body o w)),
        tree_few c k.body sent_words,
        lines_few dropped_word d,
        few,
        text_few (pulled (final_body o w)) (pulled_few (final_body o w) k.preorder),
      )
  left_few (Err x) e = omega arith

  pub send_few : length (send_text n t b) ≤ 26000
  unfolding send_text
  send_few = omega (arith, length-append (verdict_text n t b) (sent_text n t b), verdict_few n t b, left_few (loosen_answer n t b longest 62) refl)
