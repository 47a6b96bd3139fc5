-- One byte more was read. Assumes nothing.
use Rattle.std.proofs.Common.{arith, ◌<◌, add-one, length}
use Rattle.std.proofs.Math.Seq.{take-suc-set}
use Rattle.input.proofs.Reading.{lent_both, took_both}
use Rattle.input.proofs.Reader.fill.Goals as goal

pub loop-slot-preserved : goal.loop-slot-preserved
loop-slot-preserved c =
    let h : c.loop-slot.slot-index < length c.loop-slot.to = omega arith in
    (rw (add-one, take-suc-set) (took_both c.loop-slot.invariant.0 c.in_ok-slot.ensures.took), lent_both c.loop-slot.invariant.1 c.in_ok-slot.ensures.lent)
