-- The loop's invariant: the rows have what the triples of the species that are not left tell, and these were counted.
use Rattle.sets.specs.Sets.{size}
use Rattle.tables.specs.Bytes.{entered}
use Rattle.splitting.proofs.Counting.{Counted}
use Rattle.splitting.proofs.Walks.{Walked}
use Rattle.splitting.specs.Rows.{Ties}
use Rattle.splitting.proofs.row.Given as goal

abbrev pub invariant-loop-left : goal.invariant-loop-left
invariant-loop-left l = record {
  walked : Walked l.low (λ a. Ties (entered l.t) a l.b l.c) l.fn.g l.g l.left;
  counted : Counted l.low 1 l.left l.looked;
}

abbrev pub decreases-loop-left : goal.decreases-loop-left
decreases-loop-left l = size l.left
