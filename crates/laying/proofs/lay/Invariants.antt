-- The values before place i are laid down.
use Rattle.std.proofs.Common.{◌≡◌, take}
use Rattle.laying.specs.Codes.{laid}
use Rattle.laying.proofs.lay.Given as goal

abbrev pub invariant-loop-i : goal.invariant-loop-i
invariant-loop-i l = l.values ≡ laid (take l.i l.held) l.initial.values
