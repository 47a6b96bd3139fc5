-- The lines of calls that take a tree: the text of the reply, and where a room was lent, or a room and a list, also after a refusal, that of its bytes and its sets. A line ends with byte 10.
-- t is a table, w a text, o a room and l a list of sets, as they are before the call.
use Rattle.std.specs.Prelude.{List, ◌++◌, ℕ, length}
use Rattle.ordering.specs.Orders.{order_answer, order_after, order_told}
use Rattle.parsing.specs.Parses.{parse_after, parse_answer, parse_told}
use Rattle.rendering.specs.Renders.{render_after, render_answer, render_told}
use Rattle.checking.specs.Checks.{check_answer, check_told}
use Rattle.easing.specs.Eases.{Lent, lent}
use Rattle.loosening.specs.Loosens.{loosen_after, loosen_answer, loosen_told}
use Rattle.writing.specs.Texts.{ended}
use Rattle.reply_text.specs.Text.{told_text, barred}

-- a room, and then a list of sets
abbrev pub lent_text : Lent → List ℕ
lent_text o = barred o.room ++ barred o.list

unfoldable pub order_line : ℕ → List ℕ → List ℕ → List ℕ
order_line n body o = ended (told_text (order_told (order_answer n body (length o))) ++ barred (order_after n body o))

unfoldable pub parse_line : ℕ → List ℕ → List ℕ → List ℕ
parse_line n w o = ended (told_text (parse_told (parse_answer n w (length o))) ++ barred (parse_after n w o))

unfoldable pub render_line : ℕ → List ℕ → List ℕ → List ℕ
render_line n body o = ended (told_text (render_told (render_answer n body (length o))) ++ barred (render_after n body o))

unfoldable pub check_line : ℕ → List ℕ → List ℕ → List ℕ
check_line n t body = ended (told_text (check_told (check_answer n t body)))

unfoldable pub loosen_line : ℕ → List ℕ → List ℕ → List ℕ → List ℕ → List ℕ
loosen_line n t body o l = ended (told_text (loosen_told (loosen_answer n t body (length o) (length l))) ++ lent_text (loosen_after n t body (lent o l)))
