-- `checking::check` meets its contract: once the looks have passed, the body is a good one.
use Rattle.std.proofs.Common.{◌∙◌, sym}
use Rattle.checking.proofs.Judged.{candidate_pass}
use Rattle.checking.proofs.check.Goals as goal

pub judge-requires : goal.judge-requires
judge-requires c =
    let p = candidate_pass c.args.n c.args.t.now c.args.body.now (sym c.look_candidate.ensures ∙ c.in_ok-look_candidate.was) in
    (p.0.most, p.1.good, p.1.long)
