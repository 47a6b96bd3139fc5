-- The text of the tree behind the word, and the end of the line. Assumes nothing.
use Rattle.std.proofs.Common.{arith}
use Rattle.writing.proofs.Writing.{writes}
use Rattle.species_text.proofs.Rendered.{not_refused, text_is}
use Rattle.species_text.proofs.put_tree.Goals as goal

pub returns-in-Ok : goal.returns-in-Ok
returns-in-Ok c =
    let is = text_is c.requires.0 c.requires.1 (omega arith) c.render.ensures c.in-Ok.x c.in-Ok.is in
    simp (c.push.ensures, c.word-in-Ok.ensures, c.word.ensures, is, writes)

pub returns-in-Err : goal.returns-in-Err
returns-in-Err c = absurd (not_refused c.requires.0 c.requires.1 (omega arith) c.render.ensures c.in-Err.field-0 c.in-Err.is)
