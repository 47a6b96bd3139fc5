-- The line of the answer and of what was lent. Assumes nothing.
use Rattle.std.proofs.Common.{ap, ◌∙◌}
use Rattle.building.specs.Builds.{build_told}
use Rattle.writing.specs.Pages.{wrote_on}
use Rattle.reply_text.proofs.Pieces.{barred-line}
use Rattle.table_lines.specs.Lines.{veto_line}
use Rattle.table_lines.proofs.veto_line.Goals as goal

pub returns-clause-writes : goal.returns-clause-writes
unfolding veto_line
returns-clause-writes c =
    let a = c.veto-a.ensures in
    c.put_barred.ensures ∙ ap (wrote_on c.args.out.now) (barred-line build_told c.build.ensures a.is a.holds)
