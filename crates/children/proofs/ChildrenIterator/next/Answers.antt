-- `next` of `children::Children` meets its contract: the child that comes takes its species along. Assumes nothing.
use Rattle.std.proofs.Common.{arith}
use Rattle.sets.proofs.Tests.{true_has}
use Rattle.children.proofs.Left.{off_less}
use Rattle.children.proofs.ChildrenIterator.next.Goals as goal

pub returns-clause-goes : goal.returns-clause-goes
returns-clause-goes c =
    let s = c.args.self.now in
    let w = c.in_ok-c.ensures in
    let less = off_less s.rest _ c.lowest-x.result (true_has s.rest c.lowest-x.result (c.lowest-x.ensures.member c.if-self-eq0.false)) w.member in
    record { on = λ _. (tt, tt, omega (arith, less, c.minus-self.ensures)); keeps = tt; rests = λ _. tt }
