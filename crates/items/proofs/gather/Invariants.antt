-- The sets up to i are laid out.
use Rattle.std.proofs.Common.{◌≡◌, take}
use Rattle.items.specs.Items.{items_up_to, set_at}
use Rattle.items.proofs.gather.Given as goal

abbrev pub invariant-loop-i : goal.invariant-loop-i
invariant-loop-i l = take l.i l.list ≡ items_up_to (set_at l.b) l.i
