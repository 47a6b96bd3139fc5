-- A call of the test tells whether its triple reaches outside. Assumes nothing.
use Rattle.std.proofs.Common.{rules}
use Rattle.outside.specs.Reaches.{reaches}
use Rattle.outside.proofs.Reaching.{reaches-any}
use Rattle.triples.proofs.Tries.{tries_same}
use Rattle.outside.proofs.first_outside.Goals as goal

pub returns : goal.returns
returns c =
    let v = c.args in
    tries_same v.n _ (reaches v.t.now v.s) _ _ c.first.ensures (λ x y z r g p q l k. rw (reaches-any v.t.now v.s x y z p q) (search rules))
