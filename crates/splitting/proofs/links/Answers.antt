-- Each three species of s are looked at and counted, and then every link stands in both rows.
use Rattle.std.proofs.Common.{◌≡◌, ℕ, ◌+◌, ◌∙◌, ap, arith}
use lib.ListN.{length-replicate}
use Rattle.sets.specs.Sets.{meet, size, upto}
use Rattle.trees.specs.Combinations.{C}
use Rattle.tables.proofs.Bytes.{entered_proper}
use Rattle.tables.specs.Bytes.{entered}
use Rattle.splitting.proofs.Counting.{count_end, count_few, count_next, count_start, few}
use Rattle.splitting.proofs.Linking.{grown_under, triples_show, under-below}
use Rattle.splitting.proofs.Walks.{turn, walk_end, walk_next, walk_start}
use Rattle.splitting.specs.Rows.{InLevel}
use Rattle.splitting.proofs.links.Goals as goal

pub loop-left-init : goal.loop-left-init
loop-left-init c = (record {
  walked = walk_start (length-replicate {A = ℕ} 64 0);
  counted = count_start c.args.s 2;
})

pub level-looked-requires : goal.level-looked-requires
level-looked-requires c =
    let e : c.meet.result ≡ meet c.args.s (upto c.lowest-c.result) = c.meet.ensures ∙ ap (meet c.args.s) c.all.ensures in
    (under-below c.args.s c.lowest-c.result c.meet.result e, c.lowest-c.ensures.small c.loop-left-test.true, c.loop-left.invariant.walked.grown.size)

pub overflow_add-looked : goal.overflow_add-looked
overflow_add-looked c =
    omega (arith, count_few (omega arith) c.ranges.s.fits c.loop-left.invariant.counted, c.level-looked.ensures.value, few 2 c.meet.result (omega arith) (omega arith))

pub loop-left-smaller : goal.loop-left-smaller
loop-left-smaller c = omega (arith, c.rest-left.ensures.fewer c.loop-left-test.true)

pub loop-left-preserved : goal.loop-left-preserved
loop-left-preserved c =
    let a = c.args in
    let l = c.loop-left in
    let u = turn c.loop-left-test.true c.lowest-c.ensures c.rest-left.ensures in
    let e : c.meet.result ≡ meet a.s (upto c.lowest-c.result) = c.meet.ensures ∙ ap (meet a.s) c.all.ensures in
    record {
      walked = walk_next u (grown_under a.s c.lowest-c.result c.meet.result e (λ z. InLevel (entered a.t.now) z c.lowest-c.result) c.level-looked.ensures.flagged) l.invariant.walked;
      counted = count_next u l.invariant.counted (l.looked + c.level-looked.result)
          (ap (λ (z : ℕ). l.looked + z) (c.level-looked.ensures.value ∙ ap (λ (z : ℕ). C (size z) 2) e));
    }

pub returns-clause-rows_show : goal.returns-clause-rows_show
returns-clause-rows_show c =
    let E = entered c.args.t.now in
    triples_show E (entered_proper c.args.t.now) c.args.s (omega arith) (walk_end c.loop-left-test.false c.loop-left.invariant.walked) c.mirror.ensures

pub returns-clause-looked_value : goal.returns-clause-looked_value
returns-clause-looked_value c = count_end c.loop-left-test.false c.loop-left.invariant.counted
