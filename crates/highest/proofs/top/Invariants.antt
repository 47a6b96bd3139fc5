-- `n` is the bound of the first `i` nodes. Assumes nothing.
use Rattle.std.proofs.Common.{◌≡◌}
use Rattle.bodies.specs.Nodes.{nodes}
use Rattle.highest.specs.Bound.{top_among}
use Rattle.highest.proofs.top.Given as goal

abbrev pub invariant-loop-i : goal.invariant-loop-i
invariant-loop-i l = l.n ≡ top_among (nodes l.body) l.i
