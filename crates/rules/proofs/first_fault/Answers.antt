-- `rules::first_fault` meets its contract: each turn is one step of the walk.
use Rattle.std.proofs.Common.{rules, ◌≡◌, refl, sym, ◌∙◌, ◌-◌, arith}
use Rattle.bodies.specs.Nodes.{nodes}
use Rattle.rules.specs.Faults.{fault, parent_fault}
use Rattle.rules.proofs.Rules.{first_stop, first_on, first_end}
use Rattle.rules.proofs.first_fault.Goals as goal

pub returns-in_err-parent_fault : goal.returns-in_err-parent_fault
unfolding fault
returns-in_err-parent_fault c =
    let e = c.loop-i.invariant ∙ first_stop _ _ _ _ (omega arith) (sym c.parent_fault.ensures ∙ c.in_err-parent_fault.was) in
    rw e (search rules)

pub loop-i-preserved : goal.loop-i-preserved
loop-i-preserved c = c.loop-i.invariant ∙ first_on _ _ _ (omega arith) (sym c.parent_fault.ensures ∙ c.in_ok-parent_fault.was)

pub loop-i-2-init : goal.loop-i-2-init
unfolding fault
loop-i-2-init c =
    let b = nodes c.args.body.now in
    let z : b.count - 0 ≡ b.count = omega arith in
    rw (z, c.loop-i.invariant ∙ first_end (parent_fault c.args.k b) b.count c.loop-i.i (omega arith)) refl

pub returns-in_err-node_fault : goal.returns-in_err-node_fault
returns-in_err-node_fault c =
    let e = c.loop-i-2.invariant ∙ first_stop _ _ _ _ (omega arith) (sym c.node_fault.ensures ∙ c.in_err-node_fault.was) in
    rw e (search rules)

pub loop-i-2-preserved : goal.loop-i-2-preserved
loop-i-2-preserved c = c.loop-i-2.invariant ∙ first_on _ _ _ (omega arith) (sym c.node_fault.ensures ∙ c.in_ok-node_fault.was)

pub returns : goal.returns
returns c = sym (c.loop-i-2.invariant ∙ first_end _ _ _ (omega arith))
