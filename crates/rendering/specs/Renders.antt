-- A body as Newick text. Request T-02: "Write any good body as Newick [..], and return the text's length"; "Refusals: 2, 5, 6, 9 where the room is shorter
-- than the text."
use Rattle.std.specs.Prelude.{List, [], ◌∷◌, ℕ, length}
use Rattle.bodies.specs.Draws.{written}
use Rattle.refusals.specs.Told.{Told, text_length, told, value}
use Rattle.answers.specs.Looks.{Settled, after, answered, first_refusal, look_count, look_length, look_room, look_rules}
use Rattle.refusals.specs.Refusals.{told_by}
use Rattle.answers.specs.Looks.{Look}
use Rattle.rendering.specs.Texts.{newick_text}
use Rattle.rendering.specs.declared.Text.{Text}
use Rattle.std.specs.Prelude.{Ok, Err, Result}
use Rattle.refusals.specs.declared.Refusal.{Refusal}

-- "2, 5, 6, 9 where the room is shorter than the text", for the body b and a room of l bytes; the tree number is 0, since there is one body only
abbrev pub render_looks : ℕ → List ℕ → ℕ → List Look
render_looks n b l = look_count n ∷ look_length 0 (length b) ∷ look_rules 0 n b ∷ look_room (length (newick_text b)) l ∷ []

-- on 0: "return the text's length"; "places behind any output stay", for the room o
abbrev pub render_done : List ℕ → Text
render_done b = record { length = length (newick_text b) }

abbrev pub render_room : List ℕ → List ℕ → List ℕ
render_room b o = written o (newick_text b)

-- o is the room before, r the answer, o' the room after
abbrev pub Renders : ℕ → List ℕ → List ℕ → Result Text Refusal → List ℕ → Type 0
Renders n b o r o' = Settled Ok Err (render_looks n b (length o)) (render_done b) (render_room b o) o r o'

abbrev pub render_answer : ℕ → List ℕ → ℕ → Result Text Refusal
render_answer n b l = answered Ok Err (first_refusal (render_looks n b l)) (render_done b)

abbrev pub render_after : ℕ → List ℕ → List ℕ → List ℕ
render_after n b o = after (first_refusal (render_looks n b (length o))) (render_room b o) o

abbrev pub text_told : Text → Told
text_told w = told 0 (value text_length w.length ∷ [])

abbrev pub render_told : Result Text Refusal → Told
render_told = told_by text_told
