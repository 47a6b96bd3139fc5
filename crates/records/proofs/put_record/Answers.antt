-- A record that is not bad has its place in the table, and its species are below 64. Assumes nothing.
use Rattle.std.proofs.Common.{arith}
use Rattle.records.proofs.Filling.{good_place}
use Rattle.records.proofs.Records.{good_e}
use Rattle.records.specs.Records.{left, outer, right}
use Rattle.records.proofs.put_record.Goals as goal

pub put-requires : goal.put-requires
put-requires c =
    let a = c.args in
    let g = good_e a.n (left a.r) (right a.r) (outer a.r) c.requires.2 in
    (g.apart, omega (arith, g.first), omega (arith, g.second), omega (arith, g.third), omega (arith, good_place a.n (left a.r) (right a.r) (outer a.r) g))

pub gather-requires : goal.gather-requires
gather-requires c =
    let a = c.args in
    let g = good_e a.n (left a.r) (right a.r) (outer a.r) c.requires.2 in
    (omega (arith, g.first), omega (arith, g.second), omega (arith, g.third))
