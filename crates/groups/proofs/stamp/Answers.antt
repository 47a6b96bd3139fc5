-- `groups::stamp` meets its contract. Assumes nothing.
use Rattle.groups.proofs.Cells.{rows_end, rows_step}
use Rattle.groups.proofs.stamp.Goals as goal

pub loop-a-preserved : goal.loop-a-preserved
loop-a-preserved c = rows_step _ _ _ _ _ _ _ c.in-Some.ensures.steps.1 c.stamp_row.ensures c.loop-a.invariant

pub returns : goal.returns
returns c = rows_end _ _ _ _ c.in-None.ensures.steps.1 c.loop-a.invariant
