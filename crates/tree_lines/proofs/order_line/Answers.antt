-- The line of the answer and of what was lent. Assumes nothing.
use Rattle.std.proofs.Common.{ap, ◌∙◌}
use Rattle.ordering.specs.Orders.{order_told}
use Rattle.writing.specs.Pages.{wrote_on}
use Rattle.reply_text.proofs.Pieces.{barred-line}
use Rattle.tree_lines.specs.Lines.{order_line}
use Rattle.tree_lines.proofs.order_line.Goals as goal

pub returns-clause-writes : goal.returns-clause-writes
unfolding order_line
returns-clause-writes c =
    let a = c.order-a.ensures in
    c.put_barred.ensures ∙ ap (wrote_on c.args.out.now) (barred-line order_told c.answer.ensures a.is a.holds)
