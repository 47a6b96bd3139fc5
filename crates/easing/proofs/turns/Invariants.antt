-- The loop's invariant: what is still to be dropped from the tree in the draft gives what the whole gives. The measure is the node count.
use Rattle.tables.proofs.Bytes.{entered_proper}
use Rattle.tables.specs.Bytes.{entered}
use Rattle.trees.specs.Loosen.{loosen_in}
use Rattle.dropping.specs.Drafts.{draft_tree}
use Rattle.easing.proofs.Going.{Going}
use Rattle.easing.proofs.turns.Given as goal

abbrev pub invariant-loop-x : goal.invariant-loop-x
invariant-loop-x l = Going (entered l.t) (entered_proper l.t) l.n (loosen_in (entered l.t) l.n l.n (draft_tree l.m l.fn.draft)) l.m l.fn.list l.draft l.nodes l.list l.dropped

abbrev pub decreases-loop-x : goal.decreases-loop-x
decreases-loop-x l = l.nodes
