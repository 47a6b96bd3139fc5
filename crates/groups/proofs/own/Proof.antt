-- `groups::own` meets its contract. Assumes nothing.
use mathlib.Core.Path.{refl}
use native.Mathlib.Omega.{arith}
use borrow.Author.Rules.{rules}
use borrow.Author.Tests.{lt-ltb, le-ltb}
use Rattle.groups.proofs.own.Statement.{statement}
use Rattle.groups.proofs.own.Tie as tie

single-requires : tie.Need-single-requires
single-requires c κs = search rules

returns : tie.Need-returns-then-s-lt64
returns c = rw (lt-ltb c.before.before.args.s 64 (omega (arith, c.before.if-s-lt64.true))) c.single.ensures

returns_2 : tie.Need-returns
returns_2 c = rw (le-ltb c.before.args.s 64 (omega (arith, c.if-s-lt64.false))) refl

pub own_spec : {M : Type 1} → statement M
own_spec = tie.close (tie.spec single-requires returns returns_2)
