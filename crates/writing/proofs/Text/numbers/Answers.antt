-- One number more. Assumes nothing.
use Rattle.std.proofs.Common.{map, take, ◌∷◌}
use Rattle.writing.specs.Texts.{decimal, spaced}
use Rattle.writing.proofs.Spaced.{spaced_more}
use Rattle.writing.proofs.Writing.{wrote_on_both}
use Rattle.writing.proofs.Text.numbers.Goals as goal

pub loop-x-preserved : goal.loop-x-preserved
loop-x-preserved g c =
    let f = g.T.Number.value in
    let i = c.loop-x.x-index in
    let one = spaced_more f c.args.l.now i c.x-item.result c.loop-x-test.true c.x-item.is in
    let both = wrote_on_both c.args.self.now (spaced (map f (take i c.args.l.now))) (32 ∷ decimal (f c.x-item.result)) in
    cc
