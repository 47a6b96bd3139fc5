-- `masks::note` meets its contract. Assumes nothing.
use Rattle.std.proofs.Common.{◌∙◌, sym}
use Rattle.tables.specs.Bytes.{entered}
use Rattle.masks.proofs.Triples.{note_off, note_on}
use Rattle.masks.proofs.note.Goals as goal

pub returns-then-not-resolved : goal.returns-then-not-resolved
returns-then-not-resolved c =
    let a = c.args in
    record {
      size = c.requires.3;
      grown = λ T m w. note_off T a.a a.b a.c (entered a.t.now) (sym (c.resolved.ensures T m w) ∙ c.if-not-resolved.true);
    }

pub returns : goal.returns
returns c =
    let a = c.args in
    let e = c.bits_of-s.ensures in
    record {
      size = c.put-3.ensures.0;
      grown = λ T m w. note_on T a.a a.b a.c (entered a.t.now) (sym (c.resolved.ensures T m w) ∙ c.if-not-resolved.false)
          e.0 e.1 e.2 c.put.ensures.1 c.put-2.ensures.1 c.put-3.ensures.1;
    }
