-- `cutting::put` meets its contract: what is written and what is still to do make the whole text. A child's number is higher than its node's. Assumes
-- nothing.
use Rattle.std.proofs.Common.{ℕ, ◌≡◌, ◌<◌, sym, ap, ◌∙◌, arith}
use Rattle.sets.specs.Sets.{has}
use Rattle.trees.specs.Cut.{Touches}
use Rattle.bodies.proofs.Drawn.{subtree-below}
use Rattle.bodies.specs.Draws.{subtree}
use Rattle.bodies.specs.Nodes.{nodes}
use Rattle.children.proofs.Walk.{over_gives, over_on}
use Rattle.writing.specs.Pages.{wrote_on}
use Rattle.writing.specs.Texts.{decimal}
use Rattle.cutting.proofs.InTurn.{Next, leaf_text, same_text, todo_end, todo_next, todo_start}
use Rattle.cutting.proofs.Touching.{meet_empty, meet_touches}
use Rattle.cutting.proofs.+put.Goals.{In-Some, After-meet}
use Rattle.cutting.proofs.+put.Goals as goal

-- ---- what is known at a turn of the loop

module _ {t : ℕ} where
  -- the child that comes
  next_child : (c : In-Some t) → Next c.loop-c.invariant.1 c.in-Some.c c.next.new.self.rest
  next_child c =
      todo_next (nodes c.args.tree.body.now) c.args.tree.good (has c.args.set) c.args.tree.groups.now c.args.tree.groups_are c.loop-c.invariant.1
      c.in-Some.c _ (over_gives c.loop-c.invariant.0 c.in-Some.ensures.steps)

  -- is it touched?
  module _ (c : After-meet t) (within : c.in-Some.c < (nodes c.args.tree.body.now).count) where
    child_touched : (c.meet.result ≡ 0 → ⊥) → Touches (has c.args.set) (subtree (nodes c.args.tree.body.now) c.in-Some.c)
    child_touched n =
        meet_touches (subtree (nodes c.args.tree.body.now) c.in-Some.c)
        (subtree-below 64 (nodes c.args.tree.body.now) c.args.tree.good c.in-Some.c within) _
        (c.args.tree.groups_are.group c.in-Some.c within) c.args.set (λ z. n (c.meet.ensures ∙ z))

    child_apart : c.meet.result ≡ 0 → Touches (has c.args.set) (subtree (nodes c.args.tree.body.now) c.in-Some.c) → ⊥
    child_apart e =
        meet_empty (subtree (nodes c.args.tree.body.now) c.in-Some.c)
        (subtree-below 64 (nodes c.args.tree.body.now) c.args.tree.good c.in-Some.c within) _
        (c.args.tree.groups_are.group c.in-Some.c within) c.args.set (sym c.meet.ensures ∙ e)

-- ---- the answers

-- a leaf's text is its species number
pub returns-then-s : goal.returns-then-s
returns-then-s t c =
    let e = leaf_text (nodes c.args.tree.body.now) c.args.tree.good (has c.args.set) c.descend-top.ensures c.requires.touches (λ z. c.if-s.true (c.species-s.ensures ∙ z)) in
    c.decimal.ensures ∙ ap (λ (x : ℕ). wrote_on c.args.out.now (decimal x)) (c.from.ensures ∙ c.species-s.ensures) ∙ ap (wrote_on c.args.out.now) e

pub loop-c-init : goal.loop-c-init
loop-c-init t c =
    let a = c.args in (
      record { tree = cc; node = cc },
      todo_start (nodes a.tree.body.now) a.tree.good (has a.set) c.descend-top.ensures c.requires.touches a.tree.groups.now a.tree.groups_are
          (sym c.species-s.ensures ∙ c.if-s.false) a.out.now _ (cc),
    )

pub put-requires : goal.put-requires
put-requires t c =
    let n = next_child (goal.at.put-requires t c).In-Some in (
      omega (arith, c.decreases, n.later, n.within, c.descend-top.ensures.later),
      (n.within, child_touched (goal.at.put-requires t c).After-meet n.within c.if-meet-ne0.true),
    )

pub loop-c-preserved-then-meet-ne0 : goal.loop-c-preserved-then-meet-ne0
loop-c-preserved-then-meet-ne0 t c =
    let n = next_child (goal.at.loop-c-preserved-then-meet-ne0 t c).In-Some in (
      over_on c.loop-c.invariant.0 c.in-Some.ensures.steps,
      n.touched (child_touched (goal.at.loop-c-preserved-then-meet-ne0 t c).After-meet n.within c.if-meet-ne0.true) _ _ c.push.ensures c.put.ensures,
    )

pub loop-c-preserved : goal.loop-c-preserved
loop-c-preserved t c =
    let n = next_child (goal.at.loop-c-preserved t c).In-Some in (
      over_on c.loop-c.invariant.0 c.in-Some.ensures.steps,
      n.passed (child_apart (goal.at.loop-c-preserved t c).After-meet n.within c.if-meet-ne0.false),
    )

pub returns : goal.returns
returns t c =
    let v = nodes c.args.tree.body.now in
    todo_end v c.args.tree.good (has c.args.set) c.args.tree.groups.now c.args.tree.groups_are c.loop-c.invariant.1
    c.next.new.self.rest (over_gives c.loop-c.invariant.0 c.in-None.ensures.steps) _ c.push-2.ensures
    ∙ ap (wrote_on c.args.out.now) (same_text v c.args.tree.good (has c.args.set) c.descend-top.ensures c.requires.touches)
