-- The search goes on from place `i`. Assumes nothing.
use Rattle.std.proofs.Common.{◌≡◌, ◌+◌, drop}
use Rattle.tables.specs.Bytes.{over}
use Rattle.tables.proofs.over.Given as goal

abbrev pub invariant-loop-i : goal.invariant-loop-i
invariant-loop-i l = l.i + over (drop l.i l.t) ≡ over l.t
