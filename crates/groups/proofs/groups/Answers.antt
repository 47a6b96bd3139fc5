-- `groups::groups` meets its contract. Assumes nothing.
use Rattle.std.proofs.Common.{◌∙◌, arith}
use Rattle.bodies.specs.Nodes.{nodes}
use Rattle.groups.proofs.Passes.{pass_root, pass_start, pass_turn, pass_up}
use Rattle.groups.proofs.groups.Goals as goal

pub loop-i-init : goal.loop-i-init
loop-i-init c = pass_start _ _ c.node_count-i.ensures

pub loop-i-preserved-then-i-gt0 : goal.loop-i-preserved-then-i-gt0
loop-i-preserved-then-i-gt0 c =
    let t = pass_turn (nodes c.args.body.now) c.requires.good c.loop-i.i (omega arith) (omega arith) c.requires.body_bound c.loop-i.out c.own-group.result (cc) c.loop-i.invariant in
    pass_up _ c.requires.good _ (omega arith) c.requires.body_bound _ c.from-above.result c.own-group.result c.union.result (omega arith) (c.from-above.ensures ∙ c.parent.ensures) t.0
    c.union.ensures t.1

pub loop-i-preserved : goal.loop-i-preserved
loop-i-preserved c =
    let t = pass_turn (nodes c.args.body.now) c.requires.good c.loop-i.i (omega arith) (omega arith) c.requires.body_bound c.loop-i.out c.own-group.result (cc) c.loop-i.invariant in
    pass_root _ c.requires.good _ (omega arith) c.requires.body_bound _ (omega arith) t.1
