-- a goes into the row of each species of `row`.
use Rattle.std.proofs.Common.{arith}
use Rattle.splitting.proofs.Mirroring.{given_end}
use Rattle.splitting.proofs.Stores.{grown_put}
use Rattle.splitting.proofs.Walks.{turn, walk_end, walk_next, walk_start}
use Rattle.splitting.proofs.give.Goals as goal

pub loop-left-init : goal.loop-left-init
loop-left-init c = (walk_start c.told-g)

pub loop-left-smaller : goal.loop-left-smaller
loop-left-smaller c = omega (arith, c.rest-left.ensures.fewer c.loop-left-test.true)

pub loop-left-preserved : goal.loop-left-preserved
loop-left-preserved c =
    let l = c.loop-left in
    let u = turn c.loop-left-test.true c.lowest-i.ensures c.rest-left.ensures in
    walk_next u (grown_put l.g c.lowest-i.result c.args.a c.with.result l.invariant.grown.size u.below c.with.ensures) l.invariant

pub returns : goal.returns
returns c = given_end c.args.row c.args.a (walk_end c.loop-left-test.false c.loop-left.invariant)
