-- A wrapped s - 1 takes the lowest species away, and leaves the empty set empty.
use Rattle.std.proofs.Common.{sym, subst, arith}
use Rattle.sets.specs.Sets.{Rest}
use Rattle.sets.proofs.Forms.{and_less}
use Rattle.sets.proofs.Least.{rest_of}
use Rattle.sets.proofs.rest.Goals as goal

pub returns : goal.returns
returns c =
    let s = c.args.s in
    subst (Rest s) (sym (and_less s _ c.ranges.s.fits (omega arith) (omega arith))) (rest_of s c.ranges.s.fits)
