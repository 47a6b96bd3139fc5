-- What was written and the species that are left make the whole.
use Rattle.std.proofs.Common.{◌≡◌}
use Rattle.sets.specs.Walks.{in_order}
use Rattle.writing.specs.Pages.{wrote_on}
use Rattle.writing.specs.Texts.{spaced}
use Rattle.species_text.proofs.put_species.Given as goal

abbrev pub invariant-loop-x : goal.invariant-loop-x
invariant-loop-x l = wrote_on l.out (spaced (in_order l.x-iterator.left)) ≡ wrote_on l.initial.out (spaced (in_order l.s))
