-- What the tree says of the three species, against what is entered. Assumes nothing.
use Rattle.tables.specs.Bytes.{entered}
use Rattle.pc.proofs.Contradicted.{contrary-differs}
use Rattle.pc.proofs.fn.first_contradiction.differs.Goals as goal

pub returns : goal.returns
returns c n T d = contrary-differs (entered c.captures.t.now) T c.args.a c.args.b c.args.c d.drawn.formed _ _ _ _ _ c.against.ensures (c.ask.ensures T d.drawn.meet d.drawn.all) c.bits_of.ensures
