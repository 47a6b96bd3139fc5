-- `ordering::put` meets its contract: what is written and what is still to do make the whole. Assumes nothing.
use Rattle.std.proofs.Common.{◌-◌, ◌+◌}
use Rattle.bodies.specs.Draws.{node_count, subtree}
use Rattle.bodies.specs.Nodes.{nodes}
use Rattle.children.proofs.Walk.{Over}
use Rattle.ordering.proofs.InTurn.{Todo, with_kids}
use Rattle.ordering.proofs.+put.Given as goal

-- a child's number is higher than its node's
abbrev pub decreases-put : goal.decreases-put
decreases-put l = (nodes l.tree.body.now).count - l.i

abbrev pub invariant-loop-c : goal.invariant-loop-c
invariant-loop-c l =
    let v = nodes l.tree.body.now in
    Over l.tree l.i l.c-iterator × Todo v l.i l.at (with_kids v l.i l.initial.room l.at) (l.at + node_count (subtree v l.i)) l.room l.next l.c-iterator.rest
