-- Putting a tree in house order. Document 01, "Numbers handed back".
use Rattle.std.specs.Prelude.{List, [], ◌∷◌, ℕ, length}
use Rattle.bodies.specs.Nodes.{nodes}
use Rattle.bodies.specs.Draws.{ordered, written}
use Rattle.refusals.specs.Told.{Told}
use Rattle.answers.specs.Looks.{Settled, after, answered, first_refusal, look_count, look_length, look_room, look_rules, written_told}
use Rattle.refusals.specs.Refusals.{told_by}
use Rattle.answers.specs.Looks.{Look}
use Rattle.answers.specs.declared.Written.{Written}
use Rattle.std.specs.Prelude.{Ok, Err, Result}
use Rattle.refusals.specs.declared.Refusal.{Refusal}

-- "House order: 2, 5, 6, 9 (room shorter than the body)", for the body b and a room of l bytes; "The tree number is 0 where there is only one body"
abbrev pub order_looks : ℕ → List ℕ → ℕ → List Look
order_looks n b l = look_count n ∷ look_length 0 (length b) ∷ look_rules 0 n b ∷ look_room (length b) l ∷ []

-- on 0: "order and build: node count"; "order and build write the body and change nothing behind it", for the room o
abbrev pub order_done : List ℕ → Written
order_done b = record { nodes = (nodes b).count }

abbrev pub order_room : List ℕ → List ℕ → List ℕ
order_room b o = written o (ordered b)

-- o is the room before, r the answer, o' the room after
abbrev pub Orders : ℕ → List ℕ → List ℕ → Result Written Refusal → List ℕ → Type 0
Orders n b o r o' = Settled Ok Err (order_looks n b (length o)) (order_done b) (order_room b o) o r o'

abbrev pub order_answer : ℕ → List ℕ → ℕ → Result Written Refusal
order_answer n b l = answered Ok Err (first_refusal (order_looks n b l)) (order_done b)

abbrev pub order_after : ℕ → List ℕ → List ℕ → List ℕ
order_after n b o = after (first_refusal (order_looks n b (length o))) (order_room b o) o

abbrev pub order_told : Result Written Refusal → Told
order_told = told_by written_told
