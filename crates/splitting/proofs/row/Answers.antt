-- Each triple with b and c, and the lowest from `low`, is looked at and counted.
use Rattle.std.proofs.Common.{◌+◌, arith}
use Rattle.sets.specs.Sets.{meet, size, upto}
use Rattle.splitting.proofs.Counting.{C-zero, count_end, count_few, count_next, count_start}
use Rattle.splitting.proofs.Walks.{turn, walk_end, walk_next, walk_start}
use Rattle.splitting.proofs.row.Goals as goal

pub loop-left-init : goal.loop-left-init
loop-left-init c = record { walked = walk_start c.told-g; counted = count_start c.args.low 0 }

pub overflow_add-looked : goal.overflow_add-looked
overflow_add-looked c = omega (arith, count_few (omega arith) c.ranges.low.fits c.loop-left.invariant.counted)

pub loop-left-smaller : goal.loop-left-smaller
loop-left-smaller c = omega (arith, c.rest-left.ensures.fewer c.loop-left-test.true)

pub loop-left-preserved : goal.loop-left-preserved
loop-left-preserved c =
    let l = c.loop-left in
    let u = turn c.loop-left-test.true c.lowest.ensures c.rest-left.ensures in
    record {
      walked = walk_next u c.note.ensures l.invariant.walked;
      counted = count_next u l.invariant.counted (l.looked + 1) (omega (arith, C-zero (size (meet c.args.low (upto c.lowest.result)))));
    }

pub returns-clause-flagged : goal.returns-clause-flagged
returns-clause-flagged c = walk_end c.loop-left-test.false c.loop-left.invariant.walked

pub returns-clause-value : goal.returns-clause-value
returns-clause-value c = count_end c.loop-left-test.false c.loop-left.invariant.counted
