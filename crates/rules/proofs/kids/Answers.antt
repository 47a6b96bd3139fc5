-- The children found and those still to come are all of them. Assumes nothing.
use Rattle.std.proofs.Common.{rules, arith, sym, ◌∙◌}
use Rattle.bodies.specs.Nodes.{nodes, children}
use Rattle.rules.proofs.Rules.{among_hit, among_miss}
use Rattle.rules.proofs.kids.Goals.{then-from-i, else-from-i}
use Rattle.rules.proofs.kids.Goals as goal

pub loop-j-init : goal.loop-j-init
unfolding children
loop-j-init c = record { few = omega arith; all = search rules }

pub loop-j-preserved : goal.loop-j-preserved
loop-j-preserved c =
    let l = c.loop-j in
    let v = nodes c.args.body.now in
    elim c.if-from-i.branch [
      | then-from-i w ↦ record { few = omega arith; all = omega (arith, among_hit v c.args.i v.count l.j (omega arith) (sym c.parent.ensures ∙ sym c.from.ensures ∙ w.if-from-i.true)) }
      | else-from-i w ↦ record { few = omega arith; all = omega (arith, among_miss v c.args.i v.count l.j (omega arith) (λ e. w.if-from-i.false (c.from.ensures ∙ c.parent.ensures ∙ e))) }
    ]
