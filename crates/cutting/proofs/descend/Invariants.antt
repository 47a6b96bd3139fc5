-- No child passed has all the species.
use Rattle.std.proofs.Common.{◌<◌}
use Rattle.sets.specs.Sets.{has}
use Rattle.bodies.specs.Nodes.{nodes}
use Rattle.cutting.specs.Descends.{Descends}
use Rattle.cutting.proofs.descend.Given as goal

abbrev pub invariant-loop-j : goal.invariant-loop-j
invariant-loop-j l = (l.i < l.j) × Descends (nodes l.tree.body.now) (has l.set) l.i l.top l.j
