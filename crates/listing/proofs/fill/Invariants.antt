-- The loop's invariant: the table says what the first k trees say. Assumes nothing.
use Rattle.std.proofs.Common.{◌≡◌, length}
use Rattle.bodies.specs.Nodes.{most_nodes}
use Rattle.groups.specs.Groups.{cells}
use Rattle.tables.specs.Adds.{Adds}
use Rattle.tables.specs.Filled.{byte_for}
use Rattle.triples.specs.Index.{C}
use Rattle.listing.specs.Lists.{said_up_to}
use Rattle.listing.proofs.fill.Given as goal

abbrev pub invariant-loop-k : goal.invariant-loop-k
invariant-loop-k l =
    (length l.t ≡ C l.n 3) × Adds (byte_for (said_up_to l.b l.k)) 0 (C l.n 3) l.initial.t l.t × (length l.groups ≡ most_nodes) × (length l.meets ≡ cells)
