-- The loop's invariant: the triples of the first c species are done. Assumes nothing.
use Rattle.std.proofs.Common.{◌≡◌, length}
use Rattle.bodies.specs.Draws.{tree_of}
use Rattle.tables.specs.Adds.{Adds}
use Rattle.tables.specs.Filled.{tree_byte}
use Rattle.triples.specs.Index.{C}
use Rattle.listing.proofs.tree.Given as goal

abbrev pub invariant-loop-c : goal.invariant-loop-c
invariant-loop-c l = (length l.t ≡ C l.n 3) × Adds (tree_byte (tree_of l.body)) 0 (C l.c 3) l.initial.t l.t
