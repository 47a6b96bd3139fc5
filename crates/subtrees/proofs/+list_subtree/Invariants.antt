use Rattle.std.proofs.Common.{length, ◌+◌, ◌-◌, ◌*◌}
use Rattle.subtrees.proofs.Subtrees.{Listing}
use Rattle.subtrees.proofs.+list_subtree.Given as goal

-- a list calls the reader of a subtree at its own place, and a subtree that of a list behind its bracket
abbrev pub decreases-list : goal.decreases-list
decreases-list l = 2 * (length l.text.now - l.at) + 1

abbrev pub decreases-subtree : goal.decreases-subtree
decreases-subtree l = 2 * (length l.text.now - l.at)

abbrev pub invariant-list-loop-g : goal.invariant-list-loop-g
invariant-list-loop-g l = Listing l.text l.at l.parent l.depth l.count l.initial.draft l.i l.n l.draft

abbrev pub decreases-list-loop-g : goal.decreases-list-loop-g
decreases-list-loop-g l = length l.text - l.i
