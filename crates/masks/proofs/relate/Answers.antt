-- `masks::relate` meets its contract. Assumes nothing.
use Rattle.std.proofs.Common.{arith}
use Rattle.masks.proofs.Growth.{noted_next}
use Rattle.masks.proofs.Triples.{relate_masks}
use Rattle.masks.specs.Filling.{in_level}
use Rattle.masks.proofs.relate.Goals as goal

pub loop-c-preserved : goal.loop-c-preserved
loop-c-preserved c = noted_next (λ j E. in_level E j j) c.loop-c.c c.loop-c.invariant c.level.ensures

pub returns-clause-masks : goal.returns-clause-masks
returns-clause-masks c = λ T d. relate_masks c.args.n T c.requires.0 d c.loop-c.c (omega arith) c.loop-c.invariant
