-- A part has fewer species than its set; and the loop over the places of the parts.
use Rattle.sets.specs.Sets.{size}
use Rattle.tables.specs.Bytes.{entered}
use Rattle.growing.proofs.Steps.{Grew}
use Rattle.growing.specs.Grows.{vetoes}
use Rattle.growing.proofs.+grow.Given as goal

abbrev pub decreases-grow : goal.decreases-grow
decreases-grow l = size l.s

abbrev pub invariant-loop-k : goal.invariant-loop-k
invariant-loop-k l = Grew (vetoes l.fn.build) (entered l.t) l.s l.at l.initial.room l.gap l.initial.waiting l.k l.next l.room l.waiting l.looked
