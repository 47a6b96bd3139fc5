-- What was written are the lines of the first k papers.
use Rattle.std.proofs.Common.{◌≡◌}
use Rattle.writing.specs.Pages.{wrote_on}
use Rattle.papers_text.specs.Lines.{sides_text}
use Rattle.papers_text.proofs.put_sides.Given as goal

abbrev pub invariant-loop-k : goal.invariant-loop-k
invariant-loop-k l = l.out ≡ wrote_on l.initial.out (sides_text l.set l.c l.k)
