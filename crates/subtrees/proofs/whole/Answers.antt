-- `subtrees::whole` meets its contract: each way out by the law of its kind. Assumes nothing.
use Rattle.subtrees.proofs.Wholes.{whole_done, whole_more, whole_out, whole_stray}
use Rattle.subtrees.proofs.whole.Goals.{then-g-text-via-then-g-text, then-g-text-via-else-g-text+then-text-g-ne59}
use Rattle.subtrees.proofs.whole.Goals as goal

pub returns-then-g-text : goal.returns-then-g-text
returns-then-g-text c =
    let x = c.in_ok-g.ensures in
    elim c.then-g-text.branch [
      | then-g-text-via-then-g-text w ↦ (x.kept, whole_out _ _ _ _ x w.if-g-text.true)
      | then-g-text-via-else-g-text+then-text-g-ne59 w ↦ (x.kept, whole_stray _ _ _ _ x w.if-g-text.false w.if-text-g-ne59.true)
    ]

pub returns-then-end-text : goal.returns-then-end-text
returns-then-end-text c =
    let x = c.in_ok-g.ensures in
    (x.kept, whole_more _ _ _ _ x c.if-g-text.false c.if-text-g-ne59.false _ c.skip-end.ensures c.if-end-text.true)

pub returns : goal.returns
returns c =
    let x = c.in_ok-g.ensures in
    (x.kept, whole_done _ _ _ _ x c.if-g-text.false c.if-text-g-ne59.false _ c.skip-end.ensures c.if-end-text.false)
