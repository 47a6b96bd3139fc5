-- A state that blanks leave as it is stays over all of them. Assumes nothing.
use Rattle.std.proofs.Common.{sym, arith}
use Rattle.numerals.proofs.Steps.{blank_on, goes_past}
use Rattle.numerals.proofs.skip.Goals as goal

pub returns : goal.returns
returns c =
    let p = c.past.ensures in
    let w = c.args.text.now in
    record {
      ahead = p.ahead;
      within = p.within;
      goes = λ s q. goes_past w s c.args.at c.past.result p.ahead (λ k a b. blank_on w k (omega arith) (sym (p.passed k a b)) s q);
      solid = λ h. sym (p.stopped h);
    }
