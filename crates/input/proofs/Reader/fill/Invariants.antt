-- What of the reader was read stands in the front of `to`, and the reader lies over the same lent bytes.
use Rattle.std.proofs.Common.{take}
use Rattle.input.specs.Inputs.{SameBuffer, Took}
use Rattle.input.proofs.Reader.fill.Given as goal

abbrev pub invariant-loop-slot : goal.invariant-loop-slot
invariant-loop-slot l = Took l.fn.self (take l.slot-index l.to) l.self × SameBuffer l.fn.self l.self
