-- Newick text into a body. Request T-01: "Refusals: 2; then 14 with the byte place, for text over length (place 4,096, before any other place) or against
-- these rules or limits; then 6; then 9 where the room is shorter than the body"; "The body is in the text's order; the node count is returned."
use Rattle.std.specs.Prelude.{List, [], ◌∷◌, ℕ, ◌-◌, ltb, length}
use Rattle.bodies.specs.Nodes.{nodes}
use Rattle.bodies.specs.Draws.{written}
use Rattle.refusals.specs.Told.{Told}
use Rattle.answers.specs.Looks.{Settled, after, answered, first_refusal, look_count, look_room, look_rules, refuse_if, written_told}
use Rattle.refusals.specs.Refusals.{told_by}
use Rattle.answers.specs.Looks.{Look}
use Rattle.refusals.specs.declared.Refusal.TheVariants.{BadText}
use Rattle.answers.specs.declared.Written.{Written}
use Rattle.newick.specs.Scan.{Scanned, scan, stuck, taken}
use Rattle.newick.specs.Texts.{longest_text}
use Rattle.std.specs.Prelude.{Ok, Err, Result}
use Rattle.refusals.specs.declared.Refusal.{Refusal}

-- 14 for "text over length (place 4,096, before any other place)"
abbrev pub look_long : ℕ → Look
look_long l = refuse_if (ltb longest_text l) (BadText longest_text)

-- 14 for a text "against these rules or limits": of l bytes those from the place on are left
abbrev pub placed : ℕ → Scanned → Look
placed l (taken b) = Ok tt
placed l (stuck k) = Err (BadText (l - k))

abbrev pub look_form : List ℕ → Look
look_form w = placed (length w) (scan w)

-- the body of a text, and none where the text is refused
abbrev pub body_in : Scanned → List ℕ
body_in (taken b) = b
body_in (stuck k) = []

abbrev pub text_body : List ℕ → List ℕ
text_body w = body_in (scan w)

-- ---- a body that was read: "then 6; then 9 where the room is shorter than the body", for a room of l bytes; the tree number is 0, since there is one body only

abbrev pub body_looks : ℕ → List ℕ → ℕ → List Look
body_looks n b l = look_rules 0 n b ∷ look_room (length b) l ∷ []

abbrev pub body_done : List ℕ → Written
body_done b = record { nodes = (nodes b).count }

abbrev pub Puts : ℕ → List ℕ → List ℕ → Result Written Refusal → List ℕ → Type 0
Puts n b o r o' = Settled Ok Err (body_looks n b (length o)) (body_done b) (written o b) o r o'

-- ---- the operation, for the text w

abbrev pub parse_looks : ℕ → List ℕ → ℕ → List Look
parse_looks n w l = look_count n ∷ look_long (length w) ∷ look_form w ∷ body_looks n (text_body w) l

-- on 0: "the node count is returned"; "places behind any output stay", for the room o
abbrev pub parse_done : List ℕ → Written
parse_done w = body_done (text_body w)

abbrev pub parse_room : List ℕ → List ℕ → List ℕ
parse_room w o = written o (text_body w)

-- o is the room before, r the answer, o' the room after
abbrev pub Parses : ℕ → List ℕ → List ℕ → Result Written Refusal → List ℕ → Type 0
Parses n w o r o' = Settled Ok Err (parse_looks n w (length o)) (parse_done w) (parse_room w o) o r o'

abbrev pub parse_answer : ℕ → List ℕ → ℕ → Result Written Refusal
parse_answer n w l = answered Ok Err (first_refusal (parse_looks n w l)) (parse_done w)

abbrev pub parse_after : ℕ → List ℕ → List ℕ → List ℕ
parse_after n w o = after (first_refusal (parse_looks n w (length o))) (parse_room w o) o

abbrev pub parse_told : Result Written Refusal → Told
parse_told = told_by written_told
