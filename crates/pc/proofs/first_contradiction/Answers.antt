-- A call of the test tells whether an entered triplet differs on its triple, whichever tree whole and meets are of. Assumes nothing.
use Rattle.std.proofs.Common.{rules}
use Rattle.trees.specs.Check.{differs}
use Rattle.tables.specs.Bytes.{entered}
use Rattle.triples.proofs.Tries.{tries_same}
use Rattle.pc.proofs.first_contradiction.Goals as goal

pub returns : goal.returns
returns c T d = tries_same c.args.n _ (differs (entered c.args.t.now) T) _ _ c.first.ensures (λ x y z r g p q l k. (search rules, k.met.0 _ T d))
