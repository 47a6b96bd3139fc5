-- The room is as long as it is said to be. Assumes nothing.
use Rattle.std.proofs.Common.{ℕ}
use Rattle.std.proofs.lemmas.List.{length-replicate}
use Rattle.trial.proofs.no_text.Goals as goal

pub returns : goal.returns
returns c = length-replicate {A = ℕ} 3145728 0
