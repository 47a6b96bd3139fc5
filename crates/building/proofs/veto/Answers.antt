-- The veto build always has a tree.
use Rattle.building.proofs.Whole.{vetoes}
use Rattle.building.proofs.veto.Goals as goal

pub returns : goal.returns
returns c = let a = c.args in vetoes a.n a.set a.t.now a.room.now c.build_as.result c.build_as.new.room c.build_as.ensures
