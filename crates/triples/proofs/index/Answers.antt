-- By the closed forms of C(c,3) and C(b,2) up to 64. Assumes nothing.
use Rattle.std.proofs.Common.{arith}
use Rattle.triples.proofs.Indices.{halves, sixths}
use Rattle.triples.specs.Index.{index}
use Rattle.triples.proofs.index.Goals as goal

pub returns : goal.returns
unfolding index
returns c = omega (arith, sixths c.args.c (omega arith), halves c.args.b (omega arith))
