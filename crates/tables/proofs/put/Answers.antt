-- What the byte says once its bit is set. Assumes nothing.
use Rattle.std.proofs.Common.{refl, ◌∙◌}
use Rattle.tables.specs.Bytes.{enter}
use Rattle.tables.proofs.Bytes.{enter-says}
use Rattle.tables.proofs.put.Goals as goal

pub returns : goal.returns
unfolding enter
returns c =
    let a = c.args in
    let e = c.spot-s.ensures in
    enter-says a.t.now a.a a.b a.c c.requires.4 c.requires.0 _ (c.hold.ensures ∙ rw (c.held.ensures, e.0, e.1) refl)
