-- `position` finds the first record whose three species are bad. Assumes nothing.
use Rattle.std.proofs.Common.{◌∙◌, rules, tests}
use Rattle.std.proofs.lemmas.Iterator.{YieldsList-from_slice}
use Rattle.std.proofs.lemmas.Iterator.Search.{position_from_yields_List}
use Rattle.records.specs.Records.{bad_record}
use Rattle.records.proofs.Records.{bad_at_is}
use Rattle.records.proofs.first_bad.Goals as goal

pub returns : goal.returns
returns g c =
    let s = g.R.Record.spelled in
    position_from_yields_List (λ r. bad_record c.args.n (s r)) _ _ _ c.position.ensures.ran (YieldsList-from_slice c.args.records.now cc) (λ x b q k. search (rules, tests))
    ∙ bad_at_is c.args.n s c.args.records.now
