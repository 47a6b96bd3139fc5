-- The count of zeros below the first one is the lowest species.
use Rattle.sets.proofs.Least.{lowest_of}
use Rattle.sets.proofs.lowest.Goals as goal

pub returns : goal.returns
returns c = lowest_of c.args.s c.ranges.s.fits
