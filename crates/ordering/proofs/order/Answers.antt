-- `ordering::order` meets its contract: once the looks have passed, the body is a good one.
use Rattle.std.proofs.Common.{◌∙◌, sym}
use Rattle.answers.proofs.Good.{body_pass, count_pass}
use Rattle.children.proofs.Ready.{is_ready}
use Rattle.ordering.proofs.order.Goals as goal

pub arrange-nodes-requires-clause-good : goal.arrange-nodes-requires-clause-good
arrange-nodes-requires-clause-good c =
    let n = (count_pass c.args.n).0 (sym c.look_count.ensures ∙ c.in_ok-look_count.was) in
    let h = (body_pass 0 c.args.n c.args.body.now).0 (sym c.look_body.ensures ∙ c.in_ok-look_body.was) in
    (is_ready c.args.n c.args.body.now n.most h.good h.long).good
