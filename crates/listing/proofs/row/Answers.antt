-- `listing::row` meets its contract. Assumes nothing.
use Rattle.std.proofs.Common.{◌≡◌, ◌+◌, arith, subst, suc, ℕ}
use Rattle.triples.proofs.Indices.{C-two, index-lt}
use Rattle.triples.specs.Index.{C, index}
use Rattle.listing.proofs.Growth.{grows_join, grows_triple}
use Rattle.listing.specs.Stretch.{Stretch}
use Rattle.listing.proofs.row.Goals as goal

pub add-requires : goal.add-requires
add-requires c =
    let a = c.args in
    let h = index-lt c.loop-a.a a.b a.c (suc a.c) c.loop-a-test.true c.requires.0 (omega arith) in
    (c.loop-a-test.true, c.requires.0, c.requires.1, omega (arith, h, c.loop-a.invariant.long))

pub loop-a-preserved : goal.loop-a-preserved
unfolding index
loop-a-preserved c =
    let a = c.args in
    let l = c.loop-a in
    let lo = C a.c 3 + C a.b 2 in
    let h = index-lt l.a a.b a.c (suc a.c) c.loop-a-test.true c.requires.0 (omega arith) in
    let g = grows_triple a.d.whole a.d.meets.now l.t l.a a.b a.c c.ask.result c.loop-a-test.true c.requires.0 (omega (arith, h, l.invariant.long)) (λ T d. c.ask.ensures T d.meet d.all) in
    let z : lo + (l.a + 1) ≡ suc (lo + l.a) = omega arith in
    rw z (grows_join a.d.whole a.d.meets.now lo (lo + l.a) (suc (lo + l.a)) a.t.now l.t _ (omega arith) (omega arith) l.invariant (rw (c.add.ensures, c.bits.ensures) g))

pub returns : goal.returns
returns c =
    let a = c.args in
    let e : C a.c 3 + C a.b 2 + c.loop-a.a ≡ C a.c 3 + C (suc a.b) 2 = omega (arith, C-two a.b) in
    subst (λ (x : ℕ). Stretch a.d.whole a.d.meets.now (C a.c 3 + C a.b 2) x a.t.now c.loop-a.t) e c.loop-a.invariant
