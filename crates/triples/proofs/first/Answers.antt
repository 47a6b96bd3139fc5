-- The loops go through the triples in index order, by the laws of `proofs/Tries.antt`. Assumes nothing.
use Rattle.std.proofs.Common.{arith}
use Rattle.triples.proofs.Tries.{passes_level, passes_next, passes_row, passes_start, tries_none}
use Rattle.triples.proofs.first.Goals as goal
use Rattle.triples.proofs.first.Goals.{then-loop-c-test+then-loop-b-test+then-loop-a-test+then-holds, else-loop-c-test}

pub loop-c-init : goal.loop-c-init
loop-c-init g c = passes_start _ _ _

pub loop-a-preserved : goal.loop-a-preserved
loop-a-preserved g c = passes_next _ _ _ _ _ _ _ _ c.loop-a-test.true c.loop-b-test.true c.loop-c-test.true c.loop-a.invariant c.if-holds.ensures

pub loop-b-preserved : goal.loop-b-preserved
loop-b-preserved g c = passes_row _ _ _ _ _ _ _ (omega arith) c.loop-a.invariant

pub loop-c-preserved : goal.loop-c-preserved
loop-c-preserved g c = passes_level _ _ _ _ _ _ (omega arith) c.loop-b.invariant

pub returns : goal.returns
returns g c =
    elim c.loop-c-test.branch [
      | then-loop-c-test+then-loop-b-test+then-loop-a-test+then-holds w ↦ rw w.result-is (record {
        low_mid = w.loop-a-test.true;
        mid_high = w.loop-b-test.true;
        high_below = w.loop-c-test.true;
        before = w.loop-a.holds;
        after = w.holds.new.self;
        passed = w.loop-a.invariant;
        held = w.if-holds.ensures;
      })
      | else-loop-c-test w ↦ rw w.result-is (tries_none _ _ _ _ _ (omega (arith, w.loop-c-test.false)) c.loop-c.invariant)
    ]
