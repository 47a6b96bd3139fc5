-- One byte more of the word. Assumes nothing.
use Rattle.std.proofs.Common.{get_or, take, ◌∷◌, []}
use Rattle.std.proofs.lemmas.List.{take_more}
use Rattle.writing.proofs.Writing.{wrote_on_both}
use Rattle.writing.proofs.Text.word.Goals as goal

pub loop-b-preserved : goal.loop-b-preserved
loop-b-preserved c =
    let w = c.args.w.now in
    let i = c.loop-b.b-index in
    let one = take_more w i 0 c.loop-b-test.true in
    let both = wrote_on_both c.args.self.now (take i w) (get_or w i 0 ∷ []) in
    cc
