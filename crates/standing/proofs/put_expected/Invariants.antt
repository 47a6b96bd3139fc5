-- What was written, and the names of the signs that were not tried, come to the whole.
use Rattle.std.proofs.Common.{◌≡◌}
use Rattle.writing.specs.Pages.{wrote_on}
use Rattle.standing.specs.Expected.{expected}
use Rattle.standing.proofs.Names.{names_left}
use Rattle.standing.proofs.put_expected.Given as goal

abbrev pub invariant-loop-sign : goal.invariant-loop-sign
invariant-loop-sign l = wrote_on l.out (names_left l.text l.q l.sign-index l.some) ≡ wrote_on l.initial.out (expected l.text l.q)
