-- `masks::put` meets its contract. Assumes nothing.
use mathlib.Core.Bool.{Bool, ◌&&◌}
use mathlib.Core.Path.{ap}
use borrow.Author.Rules.{rules}
use Rattle.trees.specs.Triplets.{only}
use Rattle.masks.proofs.Growth.{grown_none, put_grown}
use Rattle.masks.proofs.put.Statement.{statement}
use Rattle.masks.proofs.put.Tie as tie

add-requires : tie.Need-add-requires
add-requires c κs = search rules

add-requires-2 : tie.Need-add-requires-then-on
add-requires-2 c κs = search rules

returns : tie.Need-returns-then-on
returns c =
    let d = c.before.before in
    let a = d.before.before.before.args in
    (c.add-then-on.ensures.0, put_grown a.a a.b a.c d.before.before.if-on.true d.add.ensures.1 c.add-then-on.ensures.1)

returns_2 : tie.Need-returns-else-on
returns_2 c =
    let a = c.before.args in
    (c.before.requires.3, grown_none (λ x y z. ap (λ (w : Bool). w && only a.a a.b a.c x y z) c.if-on.false))

pub put_spec : {M : Type 1} → statement M
put_spec = tie.close (tie.spec add-requires add-requires-2 returns returns_2)
