-- Loosening a tree by a table, with its refusals. Request T-07: "return the node count and how many were dropped."
use Rattle.std.specs.Prelude.{List, [], ◌∷◌, ◌++◌, ℕ, length}
use Rattle.bodies.specs.Draws.{tree_of}
use Rattle.refusals.specs.Told.{Told, Value, dropped_count, number_of_nodes, told, value}
use Rattle.answers.specs.Looks.{Settled, after, answered, first_refusal, look_room}
use Rattle.refusals.specs.Refusals.{told_by}
use Rattle.answers.specs.Looks.{Look}
use Rattle.checking.specs.Checks.{candidate_looks, look_pc}
use Rattle.easing.specs.Eases.{Lent, eased, laid_out, tally}
use Rattle.easing.specs.declared.Tally.{Tally}
use Rattle.std.specs.Prelude.{Ok, Err, Result}
use Rattle.refusals.specs.declared.Refusal.{Refusal}

-- "Refusals: 2, 7, 8, 5, 6, then 11 as in the check, then 9 where the tree room is shorter than the candidate's body or the lent list has under 62 places", for a
-- room of l bytes and a list of k places
abbrev pub late_looks : ℕ → List ℕ → List ℕ → ℕ → ℕ → List Look
late_looks n t b l k = look_pc n t (tree_of b) ∷ look_room (length b) l ∷ look_room 62 k ∷ []

abbrev pub loosen_looks : ℕ → List ℕ → List ℕ → ℕ → ℕ → List Look
loosen_looks n t b l k = candidate_looks n t b ++ late_looks n t b l k

-- on 0: how many nodes the final tree has, and how many sets were dropped
abbrev pub tally_values : Tally → List Value
tally_values w = value number_of_nodes w.nodes ∷ value dropped_count w.dropped ∷ []

-- o is what was lent before, r the answer, o' what was lent after
abbrev pub Loosens : ℕ → List ℕ → List ℕ → Lent → Result Tally Refusal → Lent → Type 0
Loosens n t b o r o' = Settled Ok Err (loosen_looks n t b (length o.room) (length o.list)) (tally (eased n t b)) (laid_out (eased n t b) o) o r o'

-- what comes of a good body: o is what was lent before, r the answer, o' what was lent after
abbrev pub Settles : ℕ → List ℕ → List ℕ → Lent → Result Tally Refusal → Lent → Type 0
Settles n t b o r o' = Settled Ok Err (late_looks n t b (length o.room) (length o.list)) (tally (eased n t b)) (laid_out (eased n t b) o) o r o'

abbrev pub loosen_answer : ℕ → List ℕ → List ℕ → ℕ → ℕ → Result Tally Refusal
loosen_answer n t b l k = answered Ok Err (first_refusal (loosen_looks n t b l k)) (tally (eased n t b))

abbrev pub loosen_after : ℕ → List ℕ → List ℕ → Lent → Lent
loosen_after n t b o = after (first_refusal (loosen_looks n t b (length o.room) (length o.list))) (laid_out (eased n t b) o) o

abbrev pub loosen_told : Result Tally Refusal → Told
loosen_told = told_by (λ w. told 0 (tally_values w))
