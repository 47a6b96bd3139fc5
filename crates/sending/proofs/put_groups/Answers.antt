-- Node by node: a line for the group of each inner node behind the root. Assumes nothing.
use Rattle.std.proofs.Common.{◌≡◌, ◌<◌, ◌≤◌, sym, ◌∙◌}
use native.Mathlib.Omega.{arith}
use Rattle.bodies.specs.Nodes.{most_nodes, nodes, none}
use Rattle.sending.proofs.Pulled.{preorder_few, preorder_good, todo_end, todo_leaf, todo_next, todo_none, todo_start}
use Rattle.sending.proofs.put_groups.Goals.{After-loop-i, In-loop-i, then-species, else-species}
use Rattle.sending.proofs.put_groups.Goals as goal

-- the node of this turn is one of the body's
within : (n : In-loop-i) → n.loop-i.i < (nodes n.args.body.now).count
within n = omega (arith, n.loop-i-test.true, n.node_count-count.ensures)

few : (n : In-loop-i) → n.loop-i.i < most_nodes
few n = omega (arith, within n, preorder_few n.args.body.now n.requires)

-- no node is left
left : (l : After-loop-i) → (nodes l.args.body.now).count ≤ l.loop-i.i
left l = omega (arith, l.loop-i-test.false, l.node_count-count.ensures)

pub groups-requires-clause-good : goal.groups-requires-clause-good
groups-requires-clause-good c = preorder_good c.args.body.now c.requires

pub groups-requires-clause-body_bound : goal.groups-requires-clause-body_bound
groups-requires-clause-body_bound c = preorder_few c.args.body.now c.requires

pub loop-i-init : goal.loop-i-init
loop-i-init c = todo_start c.args.body.now c.requires c.args.out.now

pub offset_bounds-groups-i : goal.offset_bounds-groups-i
offset_bounds-groups-i c = omega (arith, few (goal.at.offset_bounds-groups-i c).In-loop-i)

pub bounds-groups-i : goal.bounds-groups-i
bounds-groups-i c = few (goal.at.bounds-groups-i c).In-loop-i

pub loop-i-preserved : goal.loop-i-preserved
loop-i-preserved c =
    let n = (goal.at.loop-i-preserved c).In-loop-i in
    let v = c.loop-i.invariant in
    elim c.if-species.branch [
      | then-species w ↦
          let inner : (nodes c.args.body.now).species c.loop-i.i ≡ none = sym c.species.ensures ∙ w.if-species.true in
          rw (w.out-is, w.some-is) (todo_next v (within n) inner _ (c.groups.ensures.group c.loop-i.i (within n)) _ w.put_species.ensures)
      | else-species w ↦ rw (w.out-is, w.some-is) (todo_leaf v (within n) (λ e. w.if-species.false (c.species.ensures ∙ e)))
    ]

pub returns-else-not-some : goal.returns-else-not-some
returns-else-not-some c = todo_end c.loop-i.invariant (left (goal.at.returns-else-not-some c).After-loop-i) c.if-not-some.false

pub returns-then-not-some : goal.returns-then-not-some
returns-then-not-some c = todo_none c.loop-i.invariant (left (goal.at.returns-then-not-some c).After-loop-i) c.if-not-some.true _ c.word.ensures
