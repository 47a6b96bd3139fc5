-- The children found and those still to come are all of them. Assumes nothing.
use Rattle.std.proofs.Common.{◌≡◌, ◌+◌, ◌-◌, ◌<◌, length}
use Rattle.bodies.specs.Nodes.{nodes, children_among, children}
use Rattle.rules.proofs.kids.Given as goal

abbrev pub invariant-loop-j : goal.invariant-loop-j
invariant-loop-j l = record {
  few : l.k < l.j;
  all : l.k + length (children_among (nodes l.body) l.i ((nodes l.body).count - l.j) l.j) ≡ length (children (nodes l.body) l.i);
}
