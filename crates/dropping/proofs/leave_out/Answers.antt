-- `dropping::leave_out` meets its contract: each turn writes the next node that is left.
use Rattle.std.proofs.Common.{ℕ, ◌≡◌, ◌≤◌, ◌-◌, ◌∙◌, ap, ap₂, arith}
use Rattle.bodies.specs.Nodes.{node_at', nodes}
use Rattle.bodies.specs.declared.Node.{Node}
use Rattle.dropping.proofs.LeftOut.{left_end, left_more}
use Rattle.dropping.specs.Without.{new_parent, old_number}
use Rattle.dropping.proofs.leave_out.Goals as goal

pub loop-i-preserved : goal.loop-i-preserved
loop-i-preserved c =
    let v = nodes c.args.body.now in
    let k = c.args.k in
    let i = c.loop-i.i in
    let u : c.node_at-v.result ≡ node_at' v (old_number k i) = c.node_at-v.ensures ∙ ap (node_at' v) c.old_number.ensures in
    left_more v k c.loop-i.out c.put_under-in-loop-i.new.room i c.new_parent.result c.node_at-v.result c.loop-i.invariant
    (omega (arith, c.loop-i-test.true, c.requires.2, c.node_count-count.ensures))
    (c.new_parent.ensures ∙ ap₂ (λ (x : ℕ) (y : Node). new_parent k x y.parent) c.parent-above.ensures u)
    u c.put_under-in-loop-i.ensures

pub returns-clause-without : goal.returns-clause-without
returns-clause-without c =
    let v = nodes c.args.body.now in
    let some : 1 ≤ c.node_count-count.result - 1 = omega (arith, c.requires.0, c.requires.1, c.node_count-count.ensures) in
    left_end v c.args.k c.loop-i.out c.loop-i.i c.loop-i.invariant (omega (arith, c.loop-i.auto.i-end some, c.loop-i-test.false, c.node_count-count.ensures)) c.requires.2
