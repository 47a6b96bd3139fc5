-- A child's number is higher than its node's; what is written and what is still to do make the whole text.
use Rattle.std.proofs.Common.{◌-◌}
use Rattle.sets.specs.Sets.{has}
use Rattle.bodies.specs.Nodes.{nodes}
use Rattle.children.proofs.Walk.{Over}
use Rattle.cutting.proofs.InTurn.{Todo}
use Rattle.cutting.proofs.+put.Given as goal

abbrev pub decreases-put : goal.decreases-put
decreases-put l = (nodes l.tree.body.now).count - l.i

abbrev pub invariant-loop-c : goal.invariant-loop-c
invariant-loop-c l = Over l.tree l.top l.c-iterator × Todo (nodes l.tree.body.now) (has l.set) l.top l.initial.out l.out l.mark l.c-iterator.rest
