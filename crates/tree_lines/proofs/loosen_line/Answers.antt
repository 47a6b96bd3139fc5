-- The line of the answer and of what was lent. Assumes nothing.
use Rattle.std.proofs.Common.{ap, ◌∙◌}
use Rattle.loosening.specs.Loosens.{loosen_told}
use Rattle.writing.specs.Pages.{wrote_on}
use Rattle.reply_text.proofs.Pieces.{lent-line}
use Rattle.tree_lines.specs.Lines.{lent_text, loosen_line}
use Rattle.tree_lines.proofs.loosen_line.Goals as goal

pub returns-clause-writes : goal.returns-clause-writes
unfolding loosen_line
returns-clause-writes c =
    let a = c.loosen-a.ensures in
    c.put_both.ensures ∙ ap (wrote_on c.args.out.now) (lent-line loosen_told lent_text c.answer.ensures a.is a.holds)
