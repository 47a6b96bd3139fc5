-- `checking::look_pc` meets its contract: the triple that was found is the first that contradicts the tree.
use Rattle.std.proofs.Common.{arith}
use Rattle.checking.proofs.Judged.{is_agreed, is_contradicted}
use Rattle.checking.proofs.look_pc.Goals as goal

pub index-requires : goal.index-requires
index-requires c = let h = c.in-Some.ensures c.requires.1.0 c.requires.1.1 in (h.low_mid, h.mid_high, omega (arith, h.high_below, c.requires.0))

pub byte-requires : goal.byte-requires
byte-requires c = let h = c.in-Some.ensures c.requires.1.0 c.requires.1.1 in (h.low_mid, h.mid_high, omega (arith, h.high_below, c.requires.0))

pub returns-in-Some : goal.returns-in-Some
returns-in-Some c T m = is_contradicted c.args.n c.args.t.now T m.drawn.formed m.below c.in-Some.x (c.in-Some.ensures T m) _ _ c.index.ensures c.byte.ensures.is

pub returns : goal.returns
returns c T m = is_agreed c.args.n c.args.t.now T m.drawn.formed m.below (c.in_default.ensures T m)
