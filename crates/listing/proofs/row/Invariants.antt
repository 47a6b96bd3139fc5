-- The loop's invariant: of the places of this row, those of the first a species are done. Assumes nothing.
use Rattle.std.proofs.Common.{◌+◌}
use Rattle.triples.specs.Index.{C}
use Rattle.listing.specs.Stretch.{Stretch}
use Rattle.listing.proofs.row.Given as goal

abbrev pub invariant-loop-a : goal.invariant-loop-a
invariant-loop-a l = Stretch l.d.whole l.d.meets.now (C l.c 3 + C l.b 2) (C l.c 3 + C l.b 2 + l.a) l.initial.t l.t
