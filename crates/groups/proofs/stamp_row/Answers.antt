-- `groups::stamp_row` meets its contract. Assumes nothing.
use Rattle.groups.proofs.Cells.{row_end, row_step}
use Rattle.groups.proofs.stamp_row.Goals as goal

pub loop-b-preserved : goal.loop-b-preserved
loop-b-preserved c = row_step _ _ _ _ _ _ _ c.requires.0 c.in-Some.ensures.steps.1 c.loop-b.invariant

pub returns : goal.returns
returns c = row_end _ _ _ _ _ c.in-None.ensures.steps.1 c.loop-b.invariant
