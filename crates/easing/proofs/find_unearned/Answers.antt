-- `easing::find_unearned` meets its contract: R is that of the body's tree, and the first node not earned names the first unearned group. Assumes nothing.
use Rattle.easing.proofs.Found.{none_unearned, one_unearned}
use Rattle.easing.proofs.find_unearned.Goals as goal

pub returns-in_err-node-clause-finds_unearned : goal.returns-in_err-node-clause-finds_unearned
returns-in_err-node-clause-finds_unearned c =
    let d = c.draw-whole.ensures.drawn in
    let f = c.in_err-node.ensures.first_unearned_node in
    λ T w bd e. rw c.from_residual.ensures
    (none_unearned c.args.t.now c.args.n c.args.body.now c.requires.0 c.requires.1 c.requires.2 d c.relate.ensures.masks f T w bd e)

pub returns-clause-finds_unearned : goal.returns-clause-finds_unearned
returns-clause-finds_unearned c =
    let d = c.draw-whole.ensures.drawn in
    let f = c.in_ok-node.ensures.first_unearned_node in
    one_unearned c.args.t.now c.args.n c.args.body.now c.requires.0 c.requires.1 c.requires.2 d c.relate.ensures.masks c.in_ok-node.node f c.draw-whole.ensures.groups
