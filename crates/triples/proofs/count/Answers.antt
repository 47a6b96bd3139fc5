-- By the closed form of C(n,3) up to 64. Assumes nothing.
use Rattle.std.proofs.Common.{sym, arith}
use Rattle.triples.proofs.Indices.{C-few, sixths}
use Rattle.triples.proofs.count.Goals as goal

pub returns-then-n-lt3 : goal.returns-then-n-lt3
returns-then-n-lt3 c = sym (C-few c.args.n c.if-n-lt3.true)

pub returns : goal.returns
returns c = sixths c.args.n (omega arith)
