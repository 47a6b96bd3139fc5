-- The loop's invariant: what is reached has all that is linked to what is done, and the rest is to do.
use Rattle.std.proofs.Common.{◌≡◌, ◌-◌}
use Rattle.sets.proofs.Floods.{Spread}
use Rattle.sets.specs.Sets.{minus, size}
use Rattle.splitting.specs.Rows.{flag}
use Rattle.splitting.proofs.part.Given as goal

abbrev pub invariant-loop-todo : goal.invariant-loop-todo
invariant-loop-todo l = record { spread : Spread (flag l.g) l.a l.reached l.done; left : l.todo ≡ minus l.reached l.done }

abbrev pub decreases-loop-todo : goal.decreases-loop-todo
decreases-loop-todo l = 64 - size l.done
