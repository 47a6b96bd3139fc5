-- One link, or nothing.
use Rattle.splitting.proofs.Stores.{join_on}
use Rattle.splitting.proofs.join.Goals as goal

pub returns-then-on : goal.returns-then-on
returns-then-on c =
    let a = c.args in
    join_on a.on a.a a.b a.g.now c.told-g c.requires.0 c.if-on.true c.with.result c.with.ensures
