-- The loop's invariant: k parts are listed, and those of the species that are left are still to come.
use Rattle.sets.specs.Sets.{size}
use Rattle.tables.specs.Bytes.{entered}
use Rattle.splitting.proofs.Coming.{Listed}
use Rattle.splitting.proofs.split.Given as goal

abbrev pub invariant-loop-rest : goal.invariant-loop-rest
invariant-loop-rest l = Listed (entered l.t) l.s l.fn.parts l.parts l.rest l.k

abbrev pub decreases-loop-rest : goal.decreases-loop-rest
decreases-loop-rest l = size l.rest
