-- The line of the answer. Assumes nothing.
use Rattle.std.proofs.Common.{ap, ◌∙◌}
use Rattle.checking.specs.Checks.{check_told}
use Rattle.writing.specs.Pages.{wrote_on}
use Rattle.reply_text.proofs.Pieces.{bare_line}
use Rattle.tree_lines.specs.Lines.{check_line}
use Rattle.tree_lines.proofs.check_line.Goals as goal

pub returns : goal.returns
unfolding check_line
returns c = c.put_line.ensures ∙ ap (wrote_on c.args.out.now) (bare_line check_told c.answer.ensures c.check.ensures)
