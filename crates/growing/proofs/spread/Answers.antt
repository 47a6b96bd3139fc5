-- Each species becomes a leaf.
use Rattle.std.proofs.Common.{◌*◌, arith}
use Rattle.bodies.specs.Nodes.{inner_bytes, longest, width}
use Rattle.growing.proofs.Finish.{kept}
use Rattle.growing.proofs.Leaves.{spread_end, spread_start, spread_step}
use Rattle.growing.proofs.spread.Goals as goal

pub loop-i-init : goal.loop-i-init
loop-i-init c =
    let a = c.args in
    let o = c.put_inner in
    rw (c.into_iter-i-iterator.ensures.into_iter_gives, c.species-i-items.ensures)
    (spread_start a.s a.at o.new.room (kept a.room.now o.new.room (inner_bytes a.parent) (width * a.at) longest o.ensures c.requires.2))

pub put_leaf-requires : goal.put_leaf-requires
put_leaf-requires c =
    let u = c.in-Some.ensures.steps.1 in
    omega (arith, u.rest.fewer u.some, c.loop-i.invariant.long, c.loop-i.invariant.room, c.requires.0, c.requires.1)

pub loop-i-preserved : goal.loop-i-preserved
loop-i-preserved c =
    let l = c.loop-i in
    let u = c.in-Some.ensures.steps in
    spread_step c.args.s c.args.at _ l.i-iterator.left c.in-Some.i c.next.new.self.left l.next l.room c.put_leaf.new.room u.0 u.1 c.put_leaf.ensures l.invariant

pub returns : goal.returns
returns c =
    let a = c.args in
    let l = c.loop-i in
    let e = c.in-None.ensures.steps in
    spread_end a.s a.at c.put_inner.new.room l.i-iterator.left a.parent l.next a.room.now l.room e.1 e.0.0 c.requires.0 l.invariant c.put_inner.ensures
