-- `easing::ease` meets its contract: the body's tree is loosened in the draft, and what is left is laid over the room. Assumes nothing.
use mathlib.Core.Path.{refl}
use lib.ListN.{replicate}
use Rattle.bodies.specs.Nodes.{longest}
use Rattle.easing.proofs.Eased.{all_laid, drafted}
use Rattle.easing.proofs.ease.Goals as goal

pub turns-r-requires : goal.turns-r-requires
turns-r-requires c =
    let (small, good, long) = c.requires.n_bound in
    let d = drafted c.args.n small c.args.body.now good long (replicate longest 0) refl c.arrange-m.result c.arrange-m.ensures.value c.arrange-m.new.room c.arrange-m.ensures.room_after in
    (small, d.house, d.size, c.requires.body_in_bounds.1)

pub returns : goal.returns
returns c =
    let (small, good, long) = c.requires.n_bound in
    let d = drafted c.args.n small c.args.body.now good long (replicate longest 0) refl c.arrange-m.result c.arrange-m.ensures.value c.arrange-m.new.room c.arrange-m.ensures.room_after in
    let (w, l) = all_laid _ _ (d.comes c.args.t.now) c.turns-r.result c.args.room.now c.args.list.now c.turns-r.new.draft c.copy.new.room c.turns-r.new.list c.turns-r.ensures.turned c.copy.ensures in
    record { value = w; list_after = l }
