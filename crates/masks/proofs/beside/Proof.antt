-- `masks::beside` meets its contract. Assumes nothing.
use mathlib.Core.Bool.{So}
use mathlib.Core.Logic.{◌≢◌}
use native.Mathlib.Omega.{arith}
use borrow.Author.Rules.{rules}
use Rattle.sets.proofs.Facts.{union_l}
use Rattle.sets.proofs.Tests.{true_has}
use Rattle.sets.specs.Sets.{has}
use Rattle.masks.proofs.Links.{beside_joins}
use Rattle.masks.proofs.beside.Statement.{statement}
use Rattle.masks.proofs.beside.Tie as tie

union-requires : tie.Need-union-requires
union-requires c κs = search rules

lowest_requires : tie.Need-lowest-requires
lowest_requires c κs = search rules

-- g has a species
some : (c : tie.After-lowest) → c.before.before.args.g ≢ 0
some c e = omega arith

part-requires : tie.Need-part-p-requires
part-requires c κs = c.lowest.ensures.small (some c)

subset-requires : tie.Need-subset-requires
subset-requires c κs = search rules

returns : tie.Need-returns
returns c =
    let p = c.before in
    let l = p.before in
    let v = l.before in
    let a = v.before.args in
    let u = l.lowest.result in
    let h : So (has a.g u) = true_has a.g u (l.lowest.ensures.member (some l)) in
    λ E pr k. beside_joins E pr a.g a.h v.union.result p.part-p.result u c.subset.result (omega arith) v.union.ensures h
    (p.part-p.ensures E pr k (union_l v.union.result a.g a.h u v.union.ensures h)) c.subset.ensures

pub beside_spec : {M : Type 1} → statement M
beside_spec =
    tie.close (tie.spec union-requires lowest_requires part-requires subset-requires returns)
