-- The lowest of what is left is the first of the list, and the rest has the others.
use Rattle.std.proofs.Common.{arith}
use Rattle.sets.proofs.Ordered.{in_order-none, in_order-first}
use Rattle.sets.proofs.WalkIterator.next.Goals as goal

pub returns-then-self-eq0-clause-steps : goal.returns-then-self-eq0-clause-steps
returns-then-self-eq0-clause-steps c =
    let z = c.if-self-eq0.true in
    let e = in_order-none z in
    ((e, e), z)

pub returns-clause-steps : goal.returns-clause-steps
returns-clause-steps c =
    let n = c.if-self-eq0.false in
    let lo = c.lowest-i.ensures in
    let re = c.rest-self.ensures in
    (in_order-first (omega arith) n lo re, record { some = n; below = lo.small n; member = lo.member n; lowest = lo; rest = re })
