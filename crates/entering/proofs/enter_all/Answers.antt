-- Where nothing is refused the table is cleared and filled. Assumes nothing.
use Rattle.std.proofs.Common.{◌∙◌, map, sym}
use Rattle.entering.proofs.Entering.{entered}
use Rattle.entering.proofs.enter_all.Goals as goal

pub returns : goal.returns
returns g c =
    let rs = map g.R.Record.spelled c.args.records.now in
    entered c.args.n rs c.args.table.now _ _ _ (sym c.look_count.ensures ∙ c.in_ok-look_count.was) (sym c.fits.ensures ∙ c.if-not-fits.false) (sym c.first_bad.ensures ∙ c.in_default.is)
    c.clear.ensures c.fill-set.ensures.0 c.fill-set.ensures.1
