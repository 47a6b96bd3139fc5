-- `groups::groups` meets its contract. The loop's invariant: the nodes from i on are done, and each has given its group to its parent. Assumes nothing.
use Rattle.bodies.specs.Nodes.{nodes}
use Rattle.groups.proofs.Passes.{Pass}
use Rattle.groups.proofs.groups.Given as goal

abbrev pub invariant-loop-i : goal.invariant-loop-i
invariant-loop-i l = Pass (nodes l.body) l.i l.i l.out
