-- The test was asked of every triple before the one reached, and held of none. Assumes nothing.
use Rattle.triples.specs.Index.{index}
use Rattle.triples.specs.Tries.{Passes}
use Rattle.triples.proofs.first.Given as goal

abbrev pub invariant-loop-a : goal.invariant-loop-a
invariant-loop-a g l = Passes l.n (goal.F-step g) (index l.a l.b l.c) l.fn.holds l.holds

abbrev pub invariant-loop-b : goal.invariant-loop-b
invariant-loop-b g l = Passes l.n (goal.F-step g) (index 0 l.b l.c) l.fn.holds l.holds

abbrev pub invariant-loop-c : goal.invariant-loop-c
invariant-loop-c g l = Passes l.n (goal.F-step g) (index 0 0 l.c) l.fn.holds l.holds
