-- `masks::row` meets its contract. Assumes nothing.
use Rattle.masks.proofs.Growth.{noted_next}
use Rattle.masks.specs.Filling.{in_triple}
use Rattle.masks.proofs.row.Goals as goal

pub loop-a-preserved : goal.loop-a-preserved
loop-a-preserved c = noted_next (λ j E. in_triple E j c.args.b c.args.c) c.loop-a.a c.loop-a.invariant c.note.ensures
