-- What may be sent. "Loosening of that built tree: `may be sent: NEWICK`, the tree that is left; then for each dropped set, in the order in which they went,
-- `dropped: X Y Z`."
use Rattle.std.specs.Prelude.{List, [], ◌++◌, ℕ, replicate, take}
use Rattle.bodies.specs.Nodes.{body_length, longest}
use Rattle.easing.specs.Eases.{Lent, lent}
use Rattle.loosening.specs.Loosens.{loosen_after, loosen_answer}
use Rattle.easing.specs.declared.Tally.{Tally}
use Rattle.species_text.specs.Lines.{tree_line}
use Rattle.verdict_text.specs.Verdict.{verdict_text}
use Rattle.sending.specs.Pulls.{groups_text, species_lines}
use Rattle.sending.specs.Words.{dropped_word, sent_words}
use Rattle.std.specs.Prelude.{Ok, Err, Result}
use Rattle.refusals.specs.declared.Refusal.{Refusal}

-- the tree of the body b may be sent, and the sets d were dropped; then "for each group of that tree .."
abbrev pub lines_text : List ℕ → List ℕ → List ℕ
lines_text b d = tree_line sent_words b ++ (species_lines dropped_word d ++ groups_text b)

-- what loosening left: the body is as many of the first bytes of the room as its nodes take, the dropped sets are the first places of the list
abbrev pub final_body : Lent → Tally → List ℕ
final_body o w = take (body_length w.nodes) o.room

abbrev pub dropped_sets : Lent → Tally → List ℕ
dropped_sets o w = take w.dropped o.list

abbrev pub left_text : Lent → Result Tally Refusal → List ℕ
left_text o (Ok w) = lines_text (final_body o w) (dropped_sets o w)
left_text o (Err x) = []

-- a room of zeros that holds the longest body, and a list of 62 zeros: what loosening leaves in them
abbrev pub left_in' : ℕ → List ℕ → List ℕ → Lent
left_in' n t b = loosen_after n t b (lent (replicate longest 0) (replicate 62 0))

abbrev pub sent_text : ℕ → List ℕ → List ℕ → List ℕ
sent_text n t b = left_text (left_in' n t b) (loosen_answer n t b longest 62)

-- of the built tree's body b, with the table t of n species
unfoldable pub send_text : ℕ → List ℕ → List ℕ → List ℕ
send_text n t b = verdict_text n t b ++ sent_text n t b
