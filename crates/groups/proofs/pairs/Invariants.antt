-- `groups::pairs` meets its contract. The loop's invariant: each entry is of the last node so far whose group has both species. Assumes nothing.
use Rattle.bodies.specs.Nodes.{nodes}
use Rattle.groups.proofs.Latest.{NodesTo}
use Rattle.groups.proofs.pairs.Given as goal

abbrev pub invariant-loop-group : goal.invariant-loop-group
invariant-loop-group l = NodesTo (nodes l.tree.body.now) l.group-index l.out
