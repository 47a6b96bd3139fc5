-- `s & t == s` says that s lies in t.
use Rattle.std.proofs.Common.{eq-eqb, eqb-true}
use Rattle.sets.proofs.Digits.{meet_of_subset, subset_of_meet}
use Rattle.sets.proofs.subset.Goals as goal

pub returns : goal.returns
returns c = (λ e. subset_of_meet _ _ (eqb-true _ _ e), λ h. eq-eqb _ _ (meet_of_subset _ _ h))
