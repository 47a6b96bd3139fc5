-- The part of the lowest species that is left is the next one to come.
use Rattle.std.proofs.Common.{arith}
use Rattle.tables.proofs.Bytes.{entered_proper}
use Rattle.tables.specs.Bytes.{entered}
use Rattle.splitting.proofs.Coming.{Next, listed_end, listed_next, listed_start}
use Rattle.splitting.proofs.split.Goals as goal
use Rattle.splitting.proofs.split.Goals.{After-part-p}

pub loop-rest-init : goal.loop-rest-init
loop-rest-init c = let a = c.args in listed_start (entered a.t.now) (entered_proper a.t.now) a.s (omega arith) a.parts.now

-- one part more
next : (c : After-part-p) → Next (entered c.args.t.now) c.args.s c.args.parts.now c.loop-rest.parts c.loop-rest.rest c.loop-rest.k c.part-p.result
next c =
    let a = c.args in
    let l = c.loop-rest in
    let p = c.part-p in
    listed_next (entered a.t.now) (entered_proper a.t.now) a.s (omega arith) _ c.links-filled.ensures.rows_show a.parts.now l.parts l.rest l.k
    c.loop-rest-test.true c.lowest.result c.lowest.ensures p.result (omega arith) p.ensures l.invariant

pub offset_bounds-parts-k : goal.offset_bounds-parts-k
offset_bounds-parts-k c = omega (arith, (next c).room)

pub bounds-parts-k : goal.bounds-parts-k
bounds-parts-k c = (next (goal.at.bounds-parts-k c).After-part-p).room

pub overflow_add-k : goal.overflow_add-k
overflow_add-k c = omega (arith, (next (goal.at.overflow_add-k c).After-part-p).room)

pub loop-rest-smaller : goal.loop-rest-smaller
loop-rest-smaller c = (next (goal.at.loop-rest-smaller c).After-part-p).less c.minus-rest.result c.minus-rest.ensures

pub loop-rest-preserved : goal.loop-rest-preserved
loop-rest-preserved c = (next (goal.at.loop-rest-preserved c).After-part-p).more c.minus-rest.result c.minus-rest.ensures

pub returns-clause-count_value : goal.returns-clause-count_value
returns-clause-count_value c =
    let a = c.args in
    let l = c.loop-rest in
    (listed_end (entered a.t.now) (entered_proper a.t.now) a.s (omega arith) a.parts.now l.parts l.rest l.k c.loop-rest-test.false l.invariant).0

pub returns-clause-parts_after : goal.returns-clause-parts_after
returns-clause-parts_after c =
    let a = c.args in
    let l = c.loop-rest in
    (listed_end (entered a.t.now) (entered_proper a.t.now) a.s (omega arith) a.parts.now l.parts l.rest l.k c.loop-rest-test.false l.invariant).1
