-- The loop's invariant: the rows have what the triples with c tell whose middle species is not left, and these were counted.
use Rattle.sets.specs.Sets.{meet, size, upto}
use Rattle.tables.specs.Bytes.{entered}
use Rattle.splitting.proofs.Counting.{Counted}
use Rattle.splitting.proofs.Walks.{Walked}
use Rattle.splitting.specs.Rows.{InRow}
use Rattle.splitting.proofs.level.Given as goal

abbrev pub invariant-loop-left : goal.invariant-loop-left
invariant-loop-left l = record {
  walked : Walked l.low (λ b. InRow (entered l.t) (meet l.low (upto b)) b l.c) l.fn.g l.g l.left;
  counted : Counted l.low 2 l.left l.looked;
}

abbrev pub decreases-loop-left : goal.decreases-loop-left
decreases-loop-left l = size l.left
