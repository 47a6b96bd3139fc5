-- The loop's invariant: the rows of the first b species are noted. Assumes nothing.
use Rattle.masks.specs.Filling.{Noted, in_level}
use Rattle.masks.proofs.level.Given as goal

abbrev pub invariant-loop-b : goal.invariant-loop-b
invariant-loop-b l = Noted l.t l.d.whole l.d.meets.now (λ E. in_level E l.b l.c) l.initial.masks l.masks
