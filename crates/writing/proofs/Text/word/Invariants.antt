-- What was written is the front of the word.
use Rattle.std.proofs.Common.{◌≡◌, take}
use Rattle.writing.specs.Pages.{wrote_on}
use Rattle.writing.proofs.Text.word.Given as goal

abbrev pub invariant-loop-b : goal.invariant-loop-b
invariant-loop-b l = l.self ≡ wrote_on l.fn.self (take l.b-index l.w)
