-- The first leaf from 0 on is the first one from j on. Assumes nothing.
use Rattle.std.proofs.Common.{◌-◌, ◌≡◌}
use Rattle.bodies.specs.Nodes.{nodes}
use Rattle.rules.specs.Faults.{earlier, seen}
use Rattle.rules.proofs.earlier.Given as goal

abbrev pub invariant-loop-j : goal.invariant-loop-j
invariant-loop-j l = earlier (nodes l.body) l.s l.m l.i ≡ seen (nodes l.body) l.s (l.i - l.j) l.j
