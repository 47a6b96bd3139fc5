-- `earned::beside_all` meets its contract. Assumes nothing.
use mathlib.Core.Bool.{false≢true}
use mathlib.Core.Path.{◌∙◌, sym}
use native.Mathlib.Omega.{arith}
use borrow.Author.Count.{below_more}
use borrow.Author.Rules.{rules}
use Rattle.bodies.specs.Nodes.{nodes}
use Rattle.earned.specs.Siblings.{Beside}
use Rattle.earned.proofs.Earning.{group_some, group_told}
use Rattle.earned.proofs.beside_all.Goals.{else-j-i-via-then-j-i+then-parent-above+else-not-beside, else-j-i-via-then-j-i+else-parent-above, else-j-i-via-else-j-i}
use Rattle.earned.proofs.beside_all.Goals as goal

pub beside-requires : goal.beside-requires
beside-requires c = group_some _ c.args.tree.good _ c.args.tree.groups_are _ c.requires

pub returns-then-not-beside : goal.returns-then-not-beside
returns-then-not-beside c = λ E pr m. record {
  joined = λ e. absurd (false≢true e);
  apart = λ _. record {
    sibling = c.loop-j.j;
    later = omega arith;
    within = omega (arith, c.loop-j-test.true, c.node_count-j-end.ensures);
    other = λ e. omega (arith, e, c.if-j-i.true);
    parent = sym c.parent.ensures ∙ c.if-parent-above.true ∙ c.parent-above.ensures;
    split = λ k.
        let e = (group_told _ c.args.tree.good _ c.args.tree.groups_are E c.beside.result _ _ c.requires
        (omega (arith, c.loop-j-test.true, c.node_count-j-end.ensures)) (c.beside.ensures E pr m)).1 k in
        false≢true (sym c.if-not-beside.true ∙ e);
  };
}

pub loop-j-preserved : goal.loop-j-preserved
loop-j-preserved c = λ E pr m. below_more (Beside E (nodes c.args.tree.body.now) c.args.i) c.loop-j.j (c.loop-j.invariant E pr m) (elim c.else-j-i.branch [
  | else-j-i-via-then-j-i+then-parent-above+else-not-beside w ↦ (λ _ _ _ _.
      (group_told _ c.args.tree.good _ c.args.tree.groups_are E w.beside.result _ _ c.requires (omega (arith, c.loop-j-test.true, c.node_count-j-end.ensures)) (w.beside.ensures E pr m)).0
      (search rules))
  | else-j-i-via-then-j-i+else-parent-above w ↦ (λ _ _ _ e. absurd (w.if-parent-above.false (w.parent.ensures ∙ e ∙ sym c.parent-above.ensures)))
  | else-j-i-via-else-j-i w ↦ (λ _ _ ne _. absurd (ne w.if-j-i.false))
])

pub returns : goal.returns
returns c = λ E pr m. record {
  joined = λ _ j p q. c.loop-j.invariant E pr m j (omega (arith, c.loop-j-test.false, c.node_count-j-end.ensures)) p q;
  apart = λ e. absurd (false≢true (sym e));
}
