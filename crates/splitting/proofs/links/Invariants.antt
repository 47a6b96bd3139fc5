-- The loop's invariant: the rows have what the triples tell whose highest species is not left, and these were counted.
use Rattle.sets.specs.Sets.{meet, size, upto}
use Rattle.tables.specs.Bytes.{entered}
use Rattle.splitting.proofs.Counting.{Counted}
use Rattle.splitting.proofs.Walks.{Walked}
use Rattle.splitting.specs.Rows.{InLevel}
use Rattle.splitting.proofs.links.Given as goal

abbrev pub invariant-loop-left : goal.invariant-loop-left
invariant-loop-left l = record {
  walked : Walked l.s (λ c. InLevel (entered l.t) (meet l.s (upto c)) c) l.initial.g l.g l.left;
  counted : Counted l.s 3 l.left l.looked;
}

abbrev pub decreases-loop-left : goal.decreases-loop-left
decreases-loop-left l = size l.left
