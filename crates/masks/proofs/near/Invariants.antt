-- The loop's invariant: r has the linked species of those that are not left. Assumes nothing.
use Rattle.masks.proofs.Links.{Gathered}
use Rattle.masks.specs.Filling.{touch}
use Rattle.masks.proofs.near.Given as goal

abbrev pub invariant-loop-j : goal.invariant-loop-j
invariant-loop-j l = Gathered (touch l.masks l.s l.i) l.fresh l.j-iterator.left l.r
