-- The line of the answer. Assumes nothing.
use Rattle.std.proofs.Common.{ap, ◌∙◌}
use Rattle.collections.specs.Reads.{read_told}
use Rattle.writing.specs.Pages.{wrote_on}
use Rattle.reply_text.proofs.Pieces.{bare_line}
use Rattle.table_lines.specs.Lines.{read_line}
use Rattle.table_lines.proofs.read_line.Goals as goal

pub returns : goal.returns
unfolding read_line
returns c = c.put_line.ensures ∙ ap (wrote_on c.args.out.now) (bare_line read_told c.answer.ensures c.read.ensures)
