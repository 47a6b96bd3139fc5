-- What was written are the first of the numbers.
use Rattle.std.proofs.Common.{◌≡◌, map, take}
use Rattle.writing.specs.Pages.{wrote_on}
use Rattle.writing.specs.Texts.{spaced}
use Rattle.writing.proofs.Text.numbers.Given as goal

abbrev pub invariant-loop-x : goal.invariant-loop-x
invariant-loop-x g l = l.self ≡ wrote_on l.fn.self (spaced (map g.T.Number.value (take l.x-index l.l)))
