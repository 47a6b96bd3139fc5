-- The first fault from node 0 on is the first one from the node reached.
use Rattle.std.proofs.Common.{◌≡◌, ◌-◌}
use Rattle.bodies.specs.Nodes.{nodes}
use Rattle.rules.specs.Faults.{first_break, parent_fault, node_fault, fault}
use Rattle.rules.proofs.first_fault.Given as goal

abbrev pub invariant-loop-i : goal.invariant-loop-i
invariant-loop-i l = first_break (parent_fault l.k (nodes l.body)) (nodes l.body).count 0 ≡ first_break (parent_fault l.k (nodes l.body)) ((nodes l.body).count - l.i) l.i

abbrev pub invariant-loop-i-2 : goal.invariant-loop-i-2
invariant-loop-i-2 l = fault l.k (nodes l.body) l.n ≡ first_break (node_fault l.k (nodes l.body) l.n) ((nodes l.body).count - l.i) l.i
