-- `listing::level` meets its contract. Assumes nothing.
use Rattle.std.proofs.Common.{◌≡◌, ◌+◌, add-one, ap, arith, subst, suc, ℕ}
use Rattle.trees.proofs.Combinations.{C-more, C-none}
use Rattle.triples.proofs.Indices.{C-three}
use Rattle.triples.specs.Index.{C}
use Rattle.listing.proofs.Growth.{grows_join, grows_none}
use Rattle.listing.specs.Stretch.{Stretch}
use Rattle.listing.proofs.level.Goals as goal

pub loop-b-init : goal.loop-b-init
loop-b-init c =
    let a = c.args in
    let z : C a.c 3 + C 0 2 ≡ C a.c 3 = omega (arith, C-none 1) in
    rw z (grows_none a.d.whole a.d.meets.now (C a.c 3) a.t.now)

pub loop-b-preserved : goal.loop-b-preserved
loop-b-preserved c =
    let a = c.args in
    let l = c.loop-b in
    let lo = C a.c 3 in
    let u = C-more 2 l.b (suc l.b) (omega arith) in
    rw (add-one l.b) (grows_join a.d.whole a.d.meets.now lo (lo + C l.b 2) (lo + C (suc l.b) 2) a.t.now l.t _ (omega arith) (omega (arith, u)) l.invariant c.row.ensures)

pub returns : goal.returns
returns c =
    let a = c.args in
    let b : c.loop-b.b ≡ a.c = omega arith in
    let e : C a.c 3 + C c.loop-b.b 2 ≡ C (suc a.c) 3 = omega (arith, C-three a.c, ap (λ (x : ℕ). C x 2) b) in
    subst (λ (x : ℕ). Stretch a.d.whole a.d.meets.now (C a.c 3) x a.t.now c.loop-b.t) e c.loop-b.invariant
