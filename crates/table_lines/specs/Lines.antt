-- The lines of calls that read a collection, fill a table or build from one: the text of the reply, and where a table or a room was lent, also after a refusal, that of its bytes. A line ends with byte 10.
-- b is a collection, t a table, s a set, and o a room, as they are before the call.
use Rattle.std.specs.Prelude.{List, ◌++◌, ℕ, length}
use Rattle.collections.specs.Reads.{read_answer, read_told}
use Rattle.listing.specs.Lists.{list_answer, list_after}
use Rattle.entering.specs.Enters.{enter_answer, enter_after, enter_told}
use Rattle.building.specs.Builds.{build_answer, build_after, build_told}
use Rattle.building.specs.Vetoes.{veto_answer, veto_after}
use Rattle.writing.specs.Texts.{ended}
use Rattle.reply_text.specs.Text.{told_text, barred}

unfoldable pub read_line : List ℕ → List ℕ
read_line b = ended (told_text (read_told (read_answer b)))

unfoldable pub list_line : List ℕ → List ℕ → List ℕ
list_line b t = ended (told_text (read_told (list_answer b (length t))) ++ barred (list_after b t))

unfoldable pub enter_line : ℕ → List (List ℕ) → List ℕ → List ℕ
enter_line n records t = ended (told_text (enter_told (enter_answer n records (length t))) ++ barred (enter_after n records t))

unfoldable pub build_line : ℕ → ℕ → List ℕ → List ℕ → List ℕ
build_line n s t o = ended (told_text (build_told (build_answer n s t (length o))) ++ barred (build_after n s t o))

unfoldable pub veto_line : ℕ → ℕ → List ℕ → List ℕ → List ℕ
veto_line n s t o = ended (told_text (build_told (veto_answer n s t (length o))) ++ barred (veto_after n s t o))
