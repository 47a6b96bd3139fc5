-- `s & !t` is the difference.
use Rattle.sets.proofs.Forms.{and-not}
use Rattle.sets.proofs.minus.Goals as goal

pub returns : goal.returns
returns c = and-not _ _ c.ranges.s.fits c.ranges.t.fits
