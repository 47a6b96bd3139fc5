-- Where the looks at what is handed in refuse nothing, the set is built.
use Rattle.std.proofs.Common.{◌∙◌, length, sym}
use Rattle.admitting.proofs.Chosen.{input_asks}
use Rattle.growing.specs.Grows.{vetoes}
use Rattle.building.proofs.Whole.{raises}
use Rattle.building.proofs.build_as.Goals as goal

pub raise-requires : goal.raise-requires
raise-requires c = let a = c.args in input_asks a.n a.set a.t.now (length a.room.now) c.look_input.ensures c.in-Ok.is

pub returns-in-Ok : goal.returns-in-Ok
returns-in-Ok c =
    let a = c.args in
    raises a.n a.set a.t.now (vetoes a.build) a.room.now c.raise.result c.raise.new.room (sym c.look_input.ensures ∙ c.in-Ok.is) c.raise.ensures
