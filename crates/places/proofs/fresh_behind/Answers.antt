-- A subtree may begin behind an opening bracket and a comma, and behind a blank where it might before. Assumes nothing.
use Rattle.std.proofs.Common.{◌∙◌, refl, rules}
use Rattle.places.proofs.Bytes.{fresh_led, fresh_other}
use Rattle.places.proofs.fresh_behind.Goals as goal

pub returns-in-40 : goal.returns-in-40
returns-in-40 c = λ p q. fresh_led c.args.b c.in-40.is p

pub returns-then-fresh : goal.returns-then-fresh
returns-then-fresh c = λ p q. fresh_other c.args.b (search rules) (search rules) p ∙ rw (q, c.if-fresh.true, c.blank.ensures) refl

pub returns-else-fresh : goal.returns-else-fresh
returns-else-fresh c = λ p q. fresh_other c.args.b (search rules) (search rules) p ∙ rw (q, c.if-fresh.false) refl
