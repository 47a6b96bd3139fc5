-- Where the set has all three species the byte is not read. Assumes nothing.
use Rattle.outside.proofs.Reaching.{reaches_by, reaches-not}
use Rattle.outside.proofs.reaches.Goals as goal

pub returns-then-has : goal.returns-then-has
returns-then-has c =
    let a = c.args in
    reaches-not a.t.now a.s a.a a.b a.c c.requires.0 c.requires.1 c.has.ensures c.has-2.ensures c.has-3.ensures c.if-has.true

pub returns : goal.returns
returns c =
    let a = c.args in
    reaches_by a.t.now a.s a.a a.b a.c c.requires.0 c.requires.1 c.has.ensures c.has-2.ensures c.has-3.ensures c.if-has.false c.byte.result c.byte.ensures.is
