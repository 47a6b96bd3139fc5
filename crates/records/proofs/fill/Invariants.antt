-- The records from the one at hand on, entered into the table as it is, make it what all make of the table passed; and so with the set. Assumes nothing.
use Rattle.std.proofs.Common.{◌≡◌, drop, map}
use Rattle.records.proofs.Gathering.{gathered_set}
use Rattle.records.specs.Records.{fill}
use Rattle.records.proofs.fill.Given as goal

abbrev pub invariant-loop-r : goal.invariant-loop-r
invariant-loop-r g l =
    let rs = map g.R.Record.spelled l.records in
    (fill (drop l.r-index rs) l.table ≡ fill rs l.fn.table) × (gathered_set l.set (drop l.r-index rs) ≡ gathered_set l.fn.s rs)
