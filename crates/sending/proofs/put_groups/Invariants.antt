-- The lines of the groups of the nodes before i were written.
use Rattle.sending.proofs.Pulled.{Todo}
use Rattle.sending.proofs.put_groups.Given as goal

abbrev pub invariant-loop-i : goal.invariant-loop-i
invariant-loop-i l = Todo l.body l.initial.out l.out l.some l.i
