-- The loop's invariant: the triples with the first a species are noted. Assumes nothing.
use Rattle.masks.specs.Filling.{Noted, in_row}
use Rattle.masks.proofs.row.Given as goal

abbrev pub invariant-loop-a : goal.invariant-loop-a
invariant-loop-a l = Noted l.t l.d.whole l.d.meets.now (λ E. in_row E l.a l.b l.c) l.initial.masks l.masks
