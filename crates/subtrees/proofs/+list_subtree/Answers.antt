-- The two readers by their laws: each way out of the list, and each way out of the subtree. Assumes nothing.
use Rattle.std.proofs.Common.{ℕ, ◌<◌, length, sym, ap, ◌∙◌, inl, inr, rules, arith}
use lib.Seq.{length-sets}
use Rattle.bodies.specs.Nodes.{most_nodes}
use Rattle.subtrees.proofs.Subtrees.{list_again, list_out, list_shut, list_stray, subtree_bracket, subtree_many, subtree_no_list, subtree_no_number, subtree-number, subtree_out, subtree-over, subtree_stray, told-subtree}
use Rattle.subtrees.proofs.+list_subtree.Goals.{subtree-After-put_inner, subtree-then-depth-eq-DEEPEST-via-then-depth-eq-DEEPEST, subtree-then-depth-eq-DEEPEST-via-else-depth-eq-DEEPEST+then-count-eq-MOST_NODES, subtree-then-not-digit-via-then-not-digit, subtree-then-not-digit-via-else-not-digit+then-count-eq-MOST_NODES-2}
use Rattle.subtrees.proofs.+list_subtree.Goals as goal

-- ---- the list

pub list-returns-in-Some-eq41 : goal.list-returns-in-Some-eq41
list-returns-in-Some-eq41 t c = list_shut _ _ _ _ _ _ _ _ _ _ c.loop-g.invariant _ c.in_ok-g.ensures (search rules) (search rules)

pub list-returns-in_default : goal.list-returns-in_default
list-returns-in_default t c = list_stray _ _ _ _ _ _ _ _ _ _ c.loop-g.invariant _ c.in_ok-g.ensures (search rules) (search rules) (search rules)

pub list-returns-in_default-2 : goal.list-returns-in_default-2
list-returns-in_default-2 t c = list_out _ _ _ _ _ _ _ _ _ _ c.loop-g.invariant _ c.in_ok-g.ensures (search rules)

pub list-loop-g-preserved : goal.list-loop-g-preserved
list-loop-g-preserved t c = list_again _ _ _ _ _ _ _ _ _ _ c.loop-g.invariant _ c.in_ok-g.ensures (search rules) (search rules)

-- ---- the subtree

pub subtree-returns-then-i-text : goal.subtree-returns-then-i-text
subtree-returns-then-i-text t c = subtree_out _ _ _ _ _ _ _ c.skip-i.ensures c.requires.3 c.if-i-text.true

pub subtree-returns-then-depth-eq-DEEPEST : goal.subtree-returns-then-depth-eq-DEEPEST
subtree-returns-then-depth-eq-DEEPEST t c =
    subtree-over _ _ _ _ _ _ _ c.skip-i.ensures c.requires.3 c.if-i-text.false c.if-text-i-eq40.true
    (elim c.then-depth-eq-DEEPEST.branch [
      | subtree-then-depth-eq-DEEPEST-via-then-depth-eq-DEEPEST w ↦ inl w.if-depth-eq-DEEPEST.true
      | subtree-then-depth-eq-DEEPEST-via-else-depth-eq-DEEPEST+then-count-eq-MOST_NODES w ↦ inr w.if-count-eq-MOST_NODES.true
    ])

-- what is known once the node of a bracket is in the draft
module _ {t : ℕ} (c : subtree-After-put_inner t) where
  few : c.args.count < most_nodes
  few = omega (arith, c.requires.2, c.if-count-eq-MOST_NODES.false)

  shallow : c.args.depth < 63
  shallow = omega (arith, c.requires.1, c.if-depth-eq-DEEPEST.false)

pub subtree-returns-then-text-i-eq40 : goal.subtree-returns-then-text-i-eq40
subtree-returns-then-text-i-eq40 t c =
    let p = (goal.at.subtree-returns-then-text-i-eq40 t c).After-put_inner in
    subtree_bracket _ _ _ _ _ _ _ c.skip-i.ensures c.requires.3 (few p) (shallow p) c.if-i-text.false c.if-text-i-eq40.true _ _ c.put_inner.ensures _ _ c.in_ok-g.ensures c.branch-text.ensures

pub subtree-returns-in_err-g : goal.subtree-returns-in_err-g
subtree-returns-in_err-g t c =
    let p = (goal.at.subtree-returns-in_err-g t c).After-put_inner in
    told-subtree (search rules) (subtree_no_list _ _ _ _ _ _ _ c.skip-i.ensures c.requires.3 (few p) (shallow p) c.if-i-text.false c.if-text-i-eq40.true _ _ c.put_inner.ensures _ c.in_err-g.ensures)

pub subtree-returns-then-not-digit : goal.subtree-returns-then-not-digit
subtree-returns-then-not-digit t c =
    elim c.then-not-digit.branch [
      | subtree-then-not-digit-via-then-not-digit w ↦ subtree_stray _ _ _ _ _ _ _ c.skip-i.ensures c.requires.3 c.if-i-text.false c.if-text-i-eq40.false (sym c.digit.ensures ∙ w.if-not-digit.true)
      | subtree-then-not-digit-via-else-not-digit+then-count-eq-MOST_NODES-2 w ↦
          subtree_many _ _ _ _ _ _ _ c.skip-i.ensures c.requires.3 c.if-i-text.false (sym c.digit.ensures ∙ w.if-not-digit.false) w.if-count-eq-MOST_NODES-2.true
    ]

pub subtree-returns : goal.subtree-returns
subtree-returns t c =
    subtree-number _ _ _ _ _ _ _ c.skip-i.ensures c.requires.3 (omega (arith, c.requires.2, c.if-count-eq-MOST_NODES-2.false)) _ _ _
    c.in_ok-x.ensures c.put_leaf.ensures
    (ap length c.put_leaf.ensures ∙ simp length-sets c.requires.3) c.branch-text-2.ensures

pub subtree-returns-in_err-x : goal.subtree-returns-in_err-x
subtree-returns-in_err-x t c =
    let few : c.args.count < most_nodes = omega (arith, c.requires.2, c.if-count-eq-MOST_NODES-2.false) in
    told-subtree (search rules) (subtree_no_number _ _ _ _ _ _ _ c.skip-i.ensures c.requires.3 few _ c.in_err-x.ensures)
