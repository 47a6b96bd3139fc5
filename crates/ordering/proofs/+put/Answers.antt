-- What is written and what is still to do make the whole. A child's number is higher than its node's. Assumes nothing.
use Rattle.std.proofs.Common.{ℕ, ◌≡◌, ◌+◌, List, refl, ap, ◌∙◌, arith}
use Rattle.bodies.proofs.Laid.{count_pos}
use Rattle.bodies.specs.Draws.{node_count, subtree}
use Rattle.bodies.specs.Nodes.{nodes}
use Rattle.children.proofs.Walk.{over_gives, over_on}
use Rattle.ordering.proofs.InTurn.{Next, todo_end, todo_next, todo_start, todo_whole, with_kids}
use Rattle.ordering.proofs.+put.Goals.{In-None, In-Some}
use Rattle.ordering.proofs.+put.Goals as goal

-- the child that comes
next_child : {t : ℕ} (c : In-Some t) → Next c.loop-c.invariant.1 c.in-Some.c c.next.new.self.rest
next_child c =
    todo_next (nodes c.args.tree.body.now) c.args.tree.good c.args.tree.groups.now c.args.tree.groups_are c.loop-c.invariant.1
    c.in-Some.c _ (over_gives c.loop-c.invariant.0 c.in-Some.ensures.steps)

pub put_under-requires : goal.put_under-requires
put_under-requires t c = omega (arith, c.requires.i_in_bounds, count_pos (subtree (nodes c.args.tree.body.now) c.args.i))

pub loop-c-init : goal.loop-c-init
loop-c-init t c =
    let a = c.args in (
      record { tree = cc; node = cc },
      todo_start (nodes a.tree.body.now) a.tree.good a.i c.requires.i_bound a.tree.groups.now a.tree.groups_are a.at _ _ _ refl (cc),
    )

pub put-next-requires : goal.put-next-requires
put-next-requires t c =
    let n = next_child (goal.at.put-next-requires t c).In-Some in (
      omega (arith, c.decreases, n.later, n.within),
      (n.within, (omega (arith, n.fits, c.requires.i_bound_2), omega (arith, n.fits, c.requires.i_in_bounds, c.loop-c.auto.room, c.put_under.auto.room))),
    )

pub loop-c-preserved : goal.loop-c-preserved
loop-c-preserved t c = (
  over_on c.loop-c.invariant.0 c.in-Some.ensures.steps,
  (next_child (goal.at.loop-c-preserved t c).In-Some).again _ _ c.put-next.ensures.room_after c.put-next.ensures.value,
)

-- no child is left
done : {t : ℕ} (c : In-None t) → (c.loop-c.next ≡ c.args.at + node_count (subtree (nodes c.args.tree.body.now) c.args.i))
    × (c.loop-c.room ≡ with_kids (nodes c.args.tree.body.now) c.args.i c.put_under.new.room c.args.at)
done c =
    todo_end (nodes c.args.tree.body.now) c.args.tree.good c.args.tree.groups.now c.args.tree.groups_are c.loop-c.invariant.1
    c.next.new.self.rest (over_gives c.loop-c.invariant.0 c.in-None.ensures.steps)

pub returns-clause-value : goal.returns-clause-value
returns-clause-value t c = (done c).0

pub returns-clause-room_after : goal.returns-clause-room_after
returns-clause-room_after t c =
    let a = c.args in
    let v = nodes a.tree.body.now in
    (done c).1 ∙ ap (λ (o : List ℕ). with_kids v a.i o a.at) c.put_under.ensures
    ∙ todo_whole v a.tree.good a.i c.requires.i_bound a.room.now a.p a.at c.node_at.result c.node_at.ensures
