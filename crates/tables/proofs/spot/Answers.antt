-- The place is the index of the three species in order, and the bit goes by the third one. Assumes nothing.
use Rattle.std.proofs.Common.{ap, arith, sym}
use Rattle.sets.specs.Sets.{single}
use Rattle.tables.specs.Bytes.{place_of}
use Rattle.tables.proofs.Places.{bit_high, bit_low, bit_mid}
use Rattle.tables.proofs.spot.Goals as goal

pub returns-then-max-c : goal.returns-then-max-c
unfolding place_of
returns-then-max-c c = let a = c.args in (cc, sym (ap single (bit_high a.a a.b a.c (omega arith))))

pub returns-then-min-c : goal.returns-then-min-c
unfolding place_of
returns-then-min-c c = let a = c.args in (cc, sym (ap single (bit_mid a.a a.b a.c (omega arith) (omega arith))))

pub returns : goal.returns
unfolding place_of
returns c = let a = c.args in (cc, sym (ap single (bit_low a.a a.b a.c (omega arith) (omega arith))))
