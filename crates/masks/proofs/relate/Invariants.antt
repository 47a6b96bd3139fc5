-- The loop's invariant: the triples of the first c species are noted. Assumes nothing.
use Rattle.std.proofs.Common.{replicate}
use Rattle.groups.specs.Groups.{cells}
use Rattle.masks.specs.Filling.{Noted, in_triples}
use Rattle.masks.proofs.relate.Given as goal

abbrev pub invariant-loop-c : goal.invariant-loop-c
invariant-loop-c l = Noted l.t l.d.whole l.d.meets.now (λ E. in_triples E l.c) (replicate cells 0) l.masks
