-- The line of the answer and of what was lent. Assumes nothing.
use Rattle.std.proofs.Common.{ap, ◌∙◌}
use Rattle.collections.specs.Reads.{read_told}
use Rattle.writing.specs.Pages.{wrote_on}
use Rattle.reply_text.proofs.Pieces.{barred-line}
use Rattle.table_lines.specs.Lines.{list_line}
use Rattle.table_lines.proofs.list_line.Goals as goal

pub returns-clause-writes : goal.returns-clause-writes
unfolding list_line
returns-clause-writes c =
    let a = c.list-a.ensures in
    c.put_barred.ensures ∙ ap (wrote_on c.args.out.now) (barred-line read_told c.answer.ensures a.is a.holds)
