-- `rendering::put` meets its contract: what is written and what is still to do make the whole text. A child's number is higher than its node's. Assumes
-- nothing.
use Rattle.std.proofs.Common.{ℕ, sym, ap, ◌∙◌, arith}
use Rattle.bodies.specs.Nodes.{nodes}
use Rattle.children.proofs.Walk.{over_gives, over_on}
use Rattle.writing.specs.Pages.{wrote_on}
use Rattle.writing.specs.Texts.{decimal}
use Rattle.rendering.proofs.InTurn.{Next, leaf_text, todo_end, todo_next, todo_start}
use Rattle.rendering.proofs.+put.Goals.{In-Some}
use Rattle.rendering.proofs.+put.Goals as goal

-- the child that comes
next_child : {t : ℕ} (c : In-Some t) → Next c.loop-c.invariant.1 c.in-Some.c c.next.new.self.rest
next_child c =
    todo_next (nodes c.args.tree.body.now) c.args.tree.good c.args.tree.groups.now c.args.tree.groups_are c.loop-c.invariant.1
    c.in-Some.c _ (over_gives c.loop-c.invariant.0 c.in-Some.ensures.steps)

pub returns-then-s : goal.returns-then-s
returns-then-s t c =
    let e = leaf_text (nodes c.args.tree.body.now) c.args.tree.good c.args.i c.requires.i_bound (λ z. c.if-s.true (c.species-s.ensures ∙ z)) in
    c.decimal.ensures ∙ ap (λ (x : ℕ). wrote_on c.args.draft.now (decimal x)) (c.from.ensures ∙ c.species-s.ensures) ∙ ap (wrote_on c.args.draft.now) e

pub loop-c-init : goal.loop-c-init
loop-c-init t c =
    let a = c.args in (
      record { tree = cc; node = cc },
      todo_start (nodes a.tree.body.now) a.tree.good a.i c.requires.i_bound a.tree.groups.now a.tree.groups_are
          (sym c.species-s.ensures ∙ c.if-s.false) a.draft.now _ (cc),
    )

pub put-requires : goal.put-requires
put-requires t c =
    let n = next_child (goal.at.put-requires t c).In-Some in
    (omega (arith, c.decreases, n.later, n.within), n.within)

pub loop-c-preserved : goal.loop-c-preserved
loop-c-preserved t c = (
  over_on c.loop-c.invariant.0 c.in-Some.ensures.steps,
  (next_child (goal.at.loop-c-preserved t c).In-Some).again _ _ c.push.ensures c.put.ensures,
)

pub returns : goal.returns
returns t c =
    todo_end (nodes c.args.tree.body.now) c.args.tree.good c.args.tree.groups.now c.args.tree.groups_are c.loop-c.invariant.1
    c.next.new.self.rest (over_gives c.loop-c.invariant.0 c.in-None.ensures.steps) _ c.push-2.ensures
