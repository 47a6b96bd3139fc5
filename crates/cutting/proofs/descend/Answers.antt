-- `cutting::descend` meets its contract: no child passed has all the species. Assumes nothing.
use Rattle.std.proofs.Common.{ℕ, ◌+◌, ◌<◌, sym, subst, ◌∙◌, arith}
use Rattle.std.proofs.lemmas.Bool.{false≢true}
use Rattle.sets.specs.Sets.{has}
use Rattle.bodies.specs.Nodes.{nodes}
use Rattle.cutting.specs.Descends.{Descends}
use Rattle.cutting.proofs.Descending.{descends_end, descends_on, descends_past, descends_start, subset_all}
use Rattle.cutting.proofs.descend.Goals.{then-parent-top+then-subset, else-parent-top, else-parent-top-via-then-parent-top+else-subset, else-parent-top-via-else-parent-top}
use Rattle.cutting.proofs.descend.Goals as goal

pub loop-j-init : goal.loop-j-init
loop-j-init c = (omega arith, descends_start (nodes c.args.tree.body.now) c.args.tree.good (has c.args.set) c.args.i c.requires)

pub loop-j-preserved : goal.loop-j-preserved
loop-j-preserved c =
    let v = nodes c.args.tree.body.now in
    let U = has c.args.set in
    let d = c.loop-j.invariant.1 in
    let h : c.loop-j.j < v.count = omega (arith, c.loop-j-test.true, c.node_count-j-end.ensures) in
    let all = subset_all v c.args.tree.good c.args.tree.groups.now c.args.tree.groups_are c.args.set c.args.i c.loop-j.j _ c.requires h c.meet-own.ensures in (
      omega (arith, c.loop-j.invariant.0),
      elim c.if-parent-top.branch [
        | then-parent-top+then-subset w ↦ subst (λ (z : ℕ). Descends v U c.args.i z (c.loop-j.j + 1)) (sym w.top-is)
            (descends_on v c.args.tree.good U d h (sym c.parent.ensures ∙ w.if-parent-top.true) (all.0 (w.subset.ensures.0 w.if-subset.true)) (omega (arith, c.loop-j.invariant.0)))
        | else-parent-top w ↦ subst (λ (z : ℕ). Descends v U c.args.i z (c.loop-j.j + 1)) (sym w.top-is)
            (descends_past v c.args.tree.good U d h (λ e a. elim w.else-parent-top.branch [
              | else-parent-top-via-then-parent-top+else-subset m ↦ false≢true (sym m.if-subset.false ∙ m.subset.ensures.1 (all.1 a))
              | else-parent-top-via-else-parent-top m ↦ m.if-parent-top.false (c.parent.ensures ∙ e)
            ]))
      ],
    )

pub returns : goal.returns
returns c =
    descends_end (nodes c.args.tree.body.now) c.args.tree.good (has c.args.set) c.loop-j.invariant.1 (omega (arith, c.loop-j-test.false, c.node_count-j-end.ensures))
