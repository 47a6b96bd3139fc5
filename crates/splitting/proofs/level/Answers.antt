-- Each two species of `low` are looked at with c and counted.
use Rattle.std.proofs.Common.{◌≡◌, ℕ, ◌+◌, ◌∙◌, ap, arith}
use Rattle.sets.specs.Sets.{meet, size, upto}
use Rattle.trees.specs.Combinations.{C}
use Rattle.tables.specs.Bytes.{entered}
use Rattle.splitting.proofs.Counting.{count_end, count_few, count_next, count_start, few}
use Rattle.splitting.proofs.Linking.{grown_under, under-below}
use Rattle.splitting.proofs.Walks.{turn, walk_end, walk_in, walk_next, walk_start}
use Rattle.splitting.specs.Rows.{InRow}
use Rattle.splitting.proofs.level.Goals as goal

pub loop-left-init : goal.loop-left-init
loop-left-init c = (record {
  walked = walk_start c.told-g;
  counted = count_start c.args.low 1;
})

pub row-looked-requires : goal.row-looked-requires
row-looked-requires c =
    let w = c.loop-left.invariant.walked in
    let e : c.meet.result ≡ meet c.args.low (upto c.lowest-b.result) = c.meet.ensures ∙ ap (meet c.args.low) c.all.ensures in
    (under-below c.args.low c.lowest-b.result c.meet.result e, c.requires.0 c.lowest-b.result (walk_in c.loop-left-test.true c.lowest-b.ensures w), c.requires.1, w.grown.size)

pub overflow_add-looked : goal.overflow_add-looked
overflow_add-looked c =
    omega (arith, count_few (omega arith) c.ranges.low.fits c.loop-left.invariant.counted, c.row-looked.ensures.value, few 1 c.meet.result (omega arith) (omega arith))

pub loop-left-smaller : goal.loop-left-smaller
loop-left-smaller c = omega (arith, c.rest-left.ensures.fewer c.loop-left-test.true)

pub loop-left-preserved : goal.loop-left-preserved
loop-left-preserved c =
    let a = c.args in
    let l = c.loop-left in
    let u = turn c.loop-left-test.true c.lowest-b.ensures c.rest-left.ensures in
    let e : c.meet.result ≡ meet a.low (upto c.lowest-b.result) = c.meet.ensures ∙ ap (meet a.low) c.all.ensures in
    record {
      walked = walk_next u (grown_under a.low c.lowest-b.result c.meet.result e (λ z. InRow (entered a.t.now) z c.lowest-b.result a.c) c.row-looked.ensures.flagged) l.invariant.walked;
      counted = count_next u l.invariant.counted (l.looked + c.row-looked.result)
          (ap (λ (z : ℕ). l.looked + z) (c.row-looked.ensures.value ∙ ap (λ (z : ℕ). C (size z) 1) e));
    }

pub returns-clause-flagged : goal.returns-clause-flagged
returns-clause-flagged c = walk_end c.loop-left-test.false c.loop-left.invariant.walked

pub returns-clause-value : goal.returns-clause-value
returns-clause-value c = count_end c.loop-left-test.false c.loop-left.invariant.counted
