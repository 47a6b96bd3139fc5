-- The text keeps its room. Assumes nothing.
use Rattle.std.proofs.Common.{◌≡◌}
use Rattle.trial.proofs.answer.Given as goal

abbrev pub invariant-loop : goal.invariant-loop
invariant-loop l = l.out.room ≡ l.initial.out.room
