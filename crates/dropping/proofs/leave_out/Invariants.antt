-- The nodes before i are those of the body without node k.
use Rattle.bodies.specs.Nodes.{nodes}
use Rattle.dropping.proofs.LeftOut.{LeftOut}
use Rattle.dropping.proofs.leave_out.Given as goal

abbrev pub invariant-loop-i : goal.invariant-loop-i
invariant-loop-i l = LeftOut (nodes l.body) l.k l.out l.i
