-- `groups::pairs` meets its contract. Assumes nothing.
use Rattle.std.proofs.Common.{◌<◌, ◌∙◌, arith}
use Rattle.std.proofs.lemmas.List.{get_or-take}
use Rattle.bodies.specs.Nodes.{nodes}
use Rattle.groups.proofs.Latest.{nodes_end, nodes-start, nodes-step}
use Rattle.groups.proofs.pairs.Goals as goal

pub loop-group-init : goal.loop-group-init
loop-group-init c = nodes-start _

pub loop-group-preserved : goal.loop-group-preserved
loop-group-preserved c =
    let h : c.loop-group.group-index < c.node_count.result = omega arith in
    nodes-step (nodes c.args.tree.body.now) c.loop-group.group-index _ c.loop-group.out _
    (get_or-take c.node_count.result c.args.tree.groups.now c.loop-group.group-index 0 h ∙ c.args.tree.groups_are.group c.loop-group.group-index (omega arith)) c.loop-group.invariant
    c.stamp.ensures

pub returns : goal.returns
returns c = nodes_end 64 (nodes c.args.tree.body.now) c.args.tree.good c.requires.count_nonzero c.loop-group.group-index c.loop-group.out (omega arith) c.loop-group.invariant
