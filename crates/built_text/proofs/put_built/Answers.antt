-- What the plain build left, or over what the papers quarrel. Assumes nothing.
use Rattle.std.proofs.Common.{ℕ, ◌≡◌, ◌≤◌, length, sym}
use native.Mathlib.Omega.{arith}
use lib.Seq.{length-take-le}
use Rattle.bodies.specs.Nodes.{body_length, longest}
use Rattle.built_text.proofs.Told.{plain_body, plain_fits}
use Rattle.built_text.proofs.put_built.Goals.{In-Ok}
use Rattle.built_text.proofs.put_built.Goals as goal

-- a tree was built
fits : (k : In-Ok) → body_length k.in-Ok.w.nodes ≤ longest
fits k =
    let s = k.args in
    let x = k.build.ensures in
    plain_fits s.c.now s.n s.set s.t.now _ _ x.is x.holds k.in-Ok.w k.in-Ok.is

-- and the length of its body is known
room_fits : (k : In-Ok) (r : ℕ) → r ≡ body_length k.in-Ok.w.nodes → r ≤ length k.build.new.room
room_fits k r e = omega (arith, fits k, e, k.build.auto.room)

pub body_length-end-requires : goal.body_length-end-requires
body_length-end-requires c = omega (arith, fits c)

pub slice_bounds-room-end : goal.slice_bounds-room-end
slice_bounds-room-end c = room_fits (goal.at.slice_bounds-room-end c).In-Ok _ c.body_length-end.ensures

pub slice_bounds-put_tree-end-in-Ok : goal.slice_bounds-put_tree-end-in-Ok
slice_bounds-put_tree-end-in-Ok c = sym (length-take-le _ _ (room_fits (goal.at.slice_bounds-put_tree-end-in-Ok c).In-Ok _ c.body_length-end.ensures))

pub put_tree-requires : goal.put_tree-requires
put_tree-requires c =
    let s = c.args in
    let x = c.build.ensures in
    plain_body s.c.now s.n s.set s.t.now _ _ x.is x.holds c.in-Ok.w c.in-Ok.is _ c.body_length-end.ensures
