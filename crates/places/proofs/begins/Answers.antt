-- A node begins with an opening bracket or a digit, where the spot is fresh. Assumes nothing.
use Rattle.std.proofs.Common.{◌∙◌, eq-eqb}
use Rattle.places.proofs.Bytes.{opening_begins, other_begins}
use Rattle.places.proofs.begins.Goals as goal

pub returns-then-b-eq40 : goal.returns-then-b-eq40
returns-then-b-eq40 c = λ p e. rw (eq-eqb c.args.b 40 c.if-b-eq40.true) (opening_begins c.args.b c.if-b-eq40.true p (e ∙ c.if-fresh.true))

pub returns-else-b-eq40 : goal.returns-else-b-eq40
returns-else-b-eq40 c = λ p e. rw (c.digit.ensures) (other_begins c.args.b c.if-b-eq40.false p (e ∙ c.if-fresh.true))
