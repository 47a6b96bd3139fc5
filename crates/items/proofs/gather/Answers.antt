-- One set more. Assumes nothing.
use Rattle.std.proofs.Common.{◌∙◌, ◌+◌, arith, ap, refl, take}
use Rattle.std.proofs.Math.ListN.{set}
use Rattle.items.specs.Items.{items_up_to, set_at}
use Rattle.items.proofs.Items.{items_more}
use Rattle.items.proofs.gather.Goals as goal

pub loop-i-init : goal.loop-i-init
unfolding items_up_to
loop-i-init c = refl

pub loop-i-preserved : goal.loop-i-preserved
loop-i-preserved c =
    let x = c.loop-i in
    ap (λ r. take (x.i + 1) (set x.list x.i r)) c.eight.ensures ∙ items_more (set_at c.args.b.now) x.list x.i (omega arith) x.invariant
