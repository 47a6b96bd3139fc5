-- What a row has of the species that are not lower goes into their rows.
use Rattle.std.proofs.Common.{◌≡◌, ◌∙◌, ap, get_or, arith}
use Rattle.sets.specs.Sets.{minus, upto}
use Rattle.splitting.proofs.Mirroring.{mirror_end, mirror_step}
use Rattle.splitting.proofs.Walks.{turn, walk_end, walk_next}
use Rattle.splitting.proofs.mirror.Goals as goal

pub loop-left-smaller : goal.loop-left-smaller
loop-left-smaller c = omega (arith, c.rest-left.ensures.fewer c.loop-left-test.true)

pub loop-left-preserved : goal.loop-left-preserved
loop-left-preserved c =
    let g = c.loop-left.g in
    let a = c.lowest-a.result in
    let e : c.minus-row.result ≡ minus (get_or g a 0) (upto a) = c.minus-row.ensures ∙ ap (minus (get_or g a 0)) c.all.ensures in
    walk_next (turn c.loop-left-test.true c.lowest-a.ensures c.rest-left.ensures) (mirror_step e c.loop-left.invariant c.give.ensures) c.loop-left.invariant

pub returns : goal.returns
returns c = mirror_end c.args.s (walk_end c.loop-left-test.false c.loop-left.invariant)
