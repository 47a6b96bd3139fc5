-- Bit i of s is its digit i.
use Rattle.sets.proofs.Forms.{test_at}
use Rattle.sets.proofs.has.Goals as goal

pub returns : goal.returns
returns c = rw test_at
