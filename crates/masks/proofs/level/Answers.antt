-- `masks::level` meets its contract. Assumes nothing.
use Rattle.masks.proofs.Growth.{noted_next}
use Rattle.masks.specs.Filling.{in_row}
use Rattle.masks.proofs.level.Goals as goal

pub loop-b-preserved : goal.loop-b-preserved
loop-b-preserved c = noted_next (λ j E. in_row E j j c.args.c) c.loop-b.b c.loop-b.invariant c.row.ensures
