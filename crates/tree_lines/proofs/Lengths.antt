-- How long the lines of calls on trees are at most. Assumes nothing.
use mathlib.Core.List.{List, []}
use Prim.Native.Nat.{ℕ, ◌+◌, ◌*◌, ◌≤◌}
use native.Mathlib.Omega.{arith}
use lib.ListN.{length, length-append}
use lib.Seq.{length-sets}
use Rattle.bodies.specs.Draws.{body_of, ordered}
use Rattle.trees.specs.Loosen.{Loosened}
use Rattle.refusals.proofs.Numbers.{values_few}
use Rattle.refusals.specs.Refusals.{told_by}
use Rattle.refusals.specs.Told.{Told, told}
use Rattle.answers.specs.Looks.{Look, after, first_refusal, written_told}
use Rattle.ordering.specs.Orders.{order_answer, order_looks, order_room, order_told}
use Rattle.parsing.specs.Parses.{parse_answer, parse_looks, parse_room, parse_told, text_body}
use Rattle.rendering.specs.Renders.{render_answer, render_looks, render_room, render_told, text_told}
use Rattle.rendering.specs.Texts.{newick_text}
use Rattle.checking.specs.Checks.{check_answer, check_told}
use Rattle.easing.specs.Eases.{eased, laid_out, lent, numbers}
use Rattle.loosening.specs.Loosens.{loosen_after, loosen_answer, loosen_looks, loosen_told, tally_values}
use Rattle.reply_text.proofs.Lengths.{after_few, bare_few, barred_few, lent_few}
use Rattle.reply_text.specs.Text.{barred}
use Rattle.tree_lines.specs.Lines.{check_line, lent_text, loosen_line, order_line, parse_line, render_line}
use Rattle.std.specs.Prelude.{Ok, Err, Result}
use Rattle.refusals.specs.declared.Refusal.{Refusal}
use Rattle.answers.specs.declared.Written.{Written}

-- ---- three values at most

few : {A : Type 0} (returned : A → Told) → ((x : A) → length (returned x).values ≤ 3) → (a : Result A Refusal) → length (told_by returned a).values ≤ 3
few returned h (Ok x) = h x
few returned h (Err x) = omega (arith, values_few x)

written_few : (a : Result Written Refusal) → length (told_by written_told a).values ≤ 3
written_few = few written_told λ w. omega arith

-- ---- the lines

pub order_few : (n : ℕ) (b o : List ℕ) → length (order_line n b o) ≤ 21 * length o + 150
unfolding order_line
order_few n b o = after_few (order_told (order_answer n b (length o))) (first_refusal (order_looks n b (length o))) (order_room b o) o (written_few (order_answer n b (length o))) (λ _. length-sets o 0 (ordered b))

pub parse_few : (n : ℕ) (w o : List ℕ) → length (parse_line n w o) ≤ 21 * length o + 150
unfolding parse_line
parse_few n w o = after_few (parse_told (parse_answer n w (length o))) (first_refusal (parse_looks n w (length o))) (parse_room w o) o (written_few (parse_answer n w (length o))) (λ _. length-sets o 0 (text_body w))

pub render_few : (n : ℕ) (b o : List ℕ) → length (render_line n b o) ≤ 21 * length o + 150
unfolding render_line
render_few n b o = after_few (render_told (render_answer n b (length o))) (first_refusal (render_looks n b (length o))) (render_room b o) o (few text_told (λ x. omega arith) (render_answer n b (length o))) (λ _. length-sets o 0 (newick_text b))

pub check_few : (n : ℕ) (t b : List ℕ) → length (check_line n t b) ≤ 150
unfolding check_line
check_few n t b = bare_few (check_told (check_answer n t b)) (few (λ u. told 0 []) (λ u. omega arith) (check_answer n t b))

-- the room and the list are as long as they were
laid_few : (k : Look) (L : Loosened) (o l : List ℕ) → length (lent_text (after k (laid_out L (lent o l)) (lent o l))) ≤ 21 * (length o + length l) + 30
laid_few (Ok _) L o l =
    let o' = laid_out L (lent o l) in
    omega (arith, length-append (barred o'.room) (barred o'.list), barred_few o'.room, barred_few o'.list, length-sets o 0 (body_of L.final), length-sets l 0 (numbers L.dropped))
laid_few (Err x) L o l = omega (arith, length-append (barred o) (barred l), barred_few o, barred_few l)

pub loosen_few : (n : ℕ) (t b o l : List ℕ) → length (loosen_line n t b o l) ≤ 21 * (length o + length l) + 150
unfolding loosen_line
loosen_few n t b o l =
    let a = loosen_answer n t b (length o) (length l) in
    lent_few (loosen_told a) (few (λ w. told 0 (tally_values w)) (λ w. omega arith) a) (lent_text (loosen_after n t b (lent o l))) (length o + length l) (laid_few (first_refusal (loosen_looks n t b (length o) (length l))) (eased n t b) o l)
