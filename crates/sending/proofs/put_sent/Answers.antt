-- What loosening left: a refusal writes nothing. Assumes nothing.
use Rattle.std.proofs.Common.{ℕ, ◌≡◌, ◌≤◌, length, sym}
use mathlib.Core.Path.{subst}
use native.Mathlib.Omega.{arith}
use lib.ListN.{take}
use lib.Seq.{length-take-le}
use Rattle.bodies.specs.Nodes.{body_length}
use Rattle.answers.specs.Inputs.{Body}
use Rattle.easing.specs.Eases.{lent}
use Rattle.sending.proofs.Left.{LeftGood, left_good}
use Rattle.sending.specs.Pulls.{InPreorder}
use Rattle.sending.proofs.put_sent.Goals.{In-Ok}
use Rattle.sending.proofs.put_sent.Goals as goal

-- what was left, once the tree was loosened
good : (k : In-Ok) → LeftGood k.args.n (lent k.loosen.new.room k.loosen.new.list) k.in-Ok.w
good k =
    let l = k.loosen.ensures in
    left_good k.args.n k.args.t.now k.args.body.now _ l.is (lent k.loosen.new.room k.loosen.new.list) l.holds k.in-Ok.w k.in-Ok.is k.requires.0 k.requires.1

list_fits : (k : In-Ok) → k.in-Ok.w.dropped ≤ length k.loosen.new.list
list_fits k = omega (arith, (good k).few_dropped, k.loosen.auto.list)

room_fits : (k : In-Ok) (r : ℕ) → r ≡ body_length k.in-Ok.w.nodes → r ≤ length k.loosen.new.room
room_fits k r e = omega (arith, (good k).few, e, k.loosen.auto.room)

pub body_length-end-requires : goal.body_length-end-requires
body_length-end-requires c = (good c).few

pub slice_bounds-room-end : goal.slice_bounds-room-end
slice_bounds-room-end c = room_fits (goal.at.slice_bounds-room-end c).In-Ok _ c.body_length-end.ensures

pub slice_bounds-put_lines-end : goal.slice_bounds-put_lines-end
slice_bounds-put_lines-end c = sym (length-take-le _ _ (room_fits (goal.at.slice_bounds-put_lines-end c).In-Ok _ c.body_length-end.ensures))

pub slice_bounds-list-end : goal.slice_bounds-list-end
slice_bounds-list-end c = list_fits (goal.at.slice_bounds-list-end c).In-Ok

pub slice_bounds-put_lines-end-in-Ok : goal.slice_bounds-put_lines-end-in-Ok
slice_bounds-put_lines-end-in-Ok c = sym (length-take-le _ _ (list_fits (goal.at.slice_bounds-put_lines-end-in-Ok c).In-Ok))

pub put_lines-requires : goal.put_lines-requires
put_lines-requires c =
    let k = (goal.at.put_lines-requires c).In-Ok in
    let q = sym c.body_length-end.ensures in
    let room = c.loosen.new.room in
    (c.requires.0, subst (λ (j : ℕ). Body c.args.n (take j room)) q (good k).body, subst (λ (j : ℕ). InPreorder (take j room)) q (good k).preorder)
