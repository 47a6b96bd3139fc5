-- The loop's invariant: the rows of the first b species are done. Assumes nothing.
use Rattle.std.proofs.Common.{◌+◌}
use Rattle.triples.specs.Index.{C}
use Rattle.listing.specs.Stretch.{Stretch}
use Rattle.listing.proofs.level.Given as goal

abbrev pub invariant-loop-b : goal.invariant-loop-b
invariant-loop-b l = Stretch l.d.whole l.d.meets.now (C l.c 3) (C l.c 3 + C l.b 2) l.initial.t l.t
