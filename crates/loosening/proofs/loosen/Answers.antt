-- `loosening::loosen` meets its contract: once the looks have passed, the body is a good one. Assumes nothing.
use Rattle.std.proofs.Common.{◌∙◌, sym}
use Rattle.checking.proofs.Judged.{candidate_pass}
use Rattle.loosening.proofs.loosen.Goals as goal

pub settle-requires : goal.settle-requires
settle-requires c =
    let p = candidate_pass c.args.n c.args.t.now c.args.body.now (sym c.look_candidate.ensures ∙ c.in_ok-look_candidate.was) in
    (p.0.most, p.1.good, p.1.long)
