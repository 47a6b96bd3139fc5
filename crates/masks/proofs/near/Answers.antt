-- `masks::near` meets its contract. Assumes nothing.
use Rattle.std.proofs.Common.{arith}
use Rattle.masks.proofs.Links.{gather_end, gather_no, gather-start, gather_yes, touch_no, touch_yes}
use Rattle.masks.specs.Filling.{touch}
use Rattle.masks.proofs.near.Goals as goal

pub loop-j-init : goal.loop-j-init
loop-j-init c = gather-start _ _ _ (cc)

pub loop-j-preserved-then-meet-ne0 : goal.loop-j-preserved-then-meet-ne0
loop-j-preserved-then-meet-ne0 c =
    let a = c.args in
    let m = a.masks.now in
    gather_yes (touch m a.s a.i) a.fresh _ c.in-Some.j _ c.loop-j.r c.in-Some.ensures.steps.1 c.loop-j.invariant
    c.with-r.result (touch_yes m a.s a.i c.in-Some.j c.meet.result c.meet.ensures c.if-meet-ne0.true) c.with-r.ensures

pub loop-j-preserved : goal.loop-j-preserved
loop-j-preserved c =
    let a = c.args in
    let m = a.masks.now in
    gather_no (touch m a.s a.i) a.fresh _ c.in-Some.j _ c.loop-j.r c.in-Some.ensures.steps.1 c.loop-j.invariant
    (touch_no m a.s a.i c.in-Some.j c.meet.result c.meet.ensures c.if-meet-ne0.false)

pub returns : goal.returns
returns c = gather_end (touch c.args.masks.now c.args.s c.args.i) c.args.fresh _ c.loop-j.r (omega arith) c.in-None.ensures.steps.1 c.loop-j.invariant
