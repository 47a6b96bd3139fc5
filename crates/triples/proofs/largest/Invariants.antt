-- The largest number below m is the one that is looked for. Assumes nothing.
use Rattle.std.proofs.Common.{◌≡◌, ◌≤◌, ◌-◌}
use Rattle.triples.specs.Index.{largest}
use Rattle.triples.proofs.largest.Given as goal

abbrev pub invariant-loop-m : goal.invariant-loop-m
invariant-loop-m l = (1 ≤ l.m) × (l.m ≤ 65) × (largest l.k (l.m - 1) l.i ≡ largest l.k 64 l.i)
