-- Up to i the digits make v, which is at most 254. Assumes nothing.
use mathlib.Core.List.{List}
use Prim.Native.Nat.{ℕ, ◌≤◌, ◌<◌}
use Rattle.bodies.specs.Nodes.{most_nodes}
use Rattle.newick.specs.Scan.{number, start, state}
use Rattle.numerals.specs.Goes.{Goes}
use Rattle.numerals.proofs.number.Given as goal

abbrev pub invariant-loop-i : goal.invariant-loop-i
invariant-loop-i l = record {
  fits : l.v ≤ 254;
  goes : (ps : List ℕ) (n : ℕ) (d : List ℕ) → n < most_nodes → Goes l.text (state start ps n d) l.at (state (number l.v) ps n d) l.i;
}
