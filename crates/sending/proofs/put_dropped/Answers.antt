-- One line more. Assumes nothing.
use Rattle.std.proofs.Common.{get_or, take}
use Rattle.std.proofs.lemmas.List.{take_more}
use Rattle.writing.proofs.Writing.{writes}
use Rattle.sending.proofs.Lines.{lines_more}
use Rattle.sending.specs.Words.{dropped_word}
use Rattle.sending.proofs.put_dropped.Goals as goal

pub loop-s-preserved : goal.loop-s-preserved
loop-s-preserved c =
    let l = c.args.l.now in
    let i = c.loop-s.s-index in
    let one = take_more l i 0 c.loop-s-test.true in
    let more = lines_more dropped_word (take i l) (get_or l i 0) in
    simp (c.put_species.ensures, c.loop-s.invariant, one, more, writes)
