-- What was written are the lines of the first sets.
use Rattle.std.proofs.Common.{◌≡◌, take}
use Rattle.writing.specs.Pages.{wrote_on}
use Rattle.sending.specs.Pulls.{species_lines}
use Rattle.sending.specs.Words.{dropped_word}
use Rattle.sending.proofs.put_dropped.Given as goal

abbrev pub invariant-loop-s : goal.invariant-loop-s
invariant-loop-s l = l.out ≡ wrote_on l.initial.out (species_lines dropped_word (take l.s-index l.l))
