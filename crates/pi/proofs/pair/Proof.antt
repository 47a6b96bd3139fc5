-- `pi::pair` meets its contract. Assumes nothing.
use mathlib.Core.Path.{◌∙◌, ap}
use native.Mathlib.Omega.{arith}
use borrow.Author.Rules.{rules}
use Rattle.sets.specs.Sets.{has, meet}
use Rattle.pi.proofs.Cores.{pair_inside, pair-number}
use Rattle.pi.proofs.pair.Statement.{statement}
use Rattle.pi.proofs.pair.Tie as tie

part-requires : tie.Need-part-requires
part-requires c κs = search rules

part-requires-2 : tie.Need-part-requires-2
part-requires-2 c κs = search rules

union-requires : tie.Need-union-requires
union-requires c κs = search rules

meet-requires : tie.Need-meet-requires
meet-requires c κs = search rules

returns : tie.Need-returns
returns c =
    let u = c.before in
    let q = u.before in
    let p = q.before in
    let s = p.before in
    let e = c.meet.ensures ∙ ap (meet s.args.s) u.union.ensures in (
      pair_inside s.args.s u.union.result c.meet.result c.meet.ensures,
      λ E pr m ha hc. ap has e ∙ pair-number E pr s.args.s s.args.a s.args.c _ _ (omega arith) ha hc (p.part.ensures E pr m ha) (q.part-2.ensures E pr m hc),
    )

pub pair_spec : {M : Type 1} → statement M
pair_spec = tie.close (tie.spec part-requires part-requires-2 union-requires meet-requires returns)
