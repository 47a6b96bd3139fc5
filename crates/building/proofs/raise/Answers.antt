-- The draft has room for any tree, and the lent room for this one.
use Rattle.std.proofs.Common.{arith, replicate}
use Rattle.sets.proofs.Sizes.{size-le}
use Rattle.sets.specs.Sets.{has, size}
use Rattle.tables.specs.Bytes.{entered}
use Rattle.trees.specs.Build.{build_by}
use Rattle.bodies.specs.Nodes.{longest}
use Rattle.growing.specs.Grows.{vetoes}
use Rattle.building.proofs.Whole.{raise_done, raise_stop}
use Rattle.building.proofs.raise.Goals as goal

pub returns-in-Ok : goal.returns-in-Ok
returns-in-Ok c =
    let a = c.args in
    let r = c.grow-end in
    let w = rw c.in-Ok.is at r.ensures.grows in
    raise_done (build_by (vetoes a.build) (entered a.t.now) 64 (has a.s)) (size a.s) c.in-Ok.nodes (replicate longest 0) r.new.room a.room.now c.copy.new.room w
    (omega (arith, w.few, size-le 64 a.s c.ranges.s.fits)) (omega (arith, w.few, c.requires.1)) c.copy.ensures _ _ r.ensures.looked_value

pub returns-in-Err : goal.returns-in-Err
returns-in-Err c =
    let a = c.args in
    let r = c.grow-end in
    raise_stop (build_by (vetoes a.build) (entered a.t.now) 64 (has a.s)) c.in-Err.u a.room.now (omega arith) (rw c.in-Err.is at r.ensures.grows) _ _ r.ensures.looked_value
