-- The loop's invariant: some texts were read, and their bodies stand in the store (`SoFar`). Assumes nothing.
use Rattle.std.proofs.Common.{◌-◌, length}
use Rattle.papers.proofs.Turns.{SoFar}
use Rattle.papers.proofs.read.Given as goal

abbrev pub invariant-loop-n : goal.invariant-loop-n
invariant-loop-n l = SoFar l.input l.n l.trees l.at l.p l.store

abbrev pub decreases-loop-n : goal.decreases-loop-n
decreases-loop-n l = length l.input - l.at
