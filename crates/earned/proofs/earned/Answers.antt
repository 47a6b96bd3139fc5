-- `earned::earned` meets its contract: there is no first node whose group is not earned. Assumes nothing.
use Rattle.bodies.specs.Nodes.{nodes}
use Rattle.earned.proofs.Earning.{first_earned}
use Rattle.earned.proofs.earned.Goals as goal

pub returns : goal.returns
returns c = λ E pr m. first_earned (nodes c.args.tree.body.now) c.args.tree.good E c.requires c.first_unearned.result c.is_none.result c.is_none.ensures
    (c.first_unearned.ensures.first_unearned_node E pr m)
