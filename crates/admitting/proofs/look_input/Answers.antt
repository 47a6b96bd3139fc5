-- `admitting::look_input` meets its contract: behind the looks at the table, 15, 16 and 9 one after the other.
use Rattle.std.proofs.Common.{◌≡◌, ◌∙◌, refl, sym, ap, arith, Ok}
use borrow.Author.Tests.{le-ltb, lt-ltb}
use Rattle.sets.proofs.Sizes.{size-le}
use Rattle.sets.specs.Sets.{size}
use Rattle.bodies.specs.Nodes.{room_for}
use Rattle.admitting.specs.GoodSet.{look_set}
use Rattle.admitting.proofs.Chosen.{late, outside_none, outside_some, set_pass}
use Rattle.admitting.proofs.look_input.Goals as goal

pub returns-in-Some : goal.returns-in-Some
returns-in-Some c =
    let e = late c.args.n c.args.set c.args.t.now c.args.l (sym c.look_table.ensures ∙ c.in_ok-look_table.was) in
    sym (e ∙ rw (sym c.bad_set.ensures ∙ c.if-bad_set.false, outside_some c.args.n c.args.set c.args.t.now c.in-Some.x c.in-Some.ensures c.index.result c.index.ensures) refl)

pub room-requires : goal.room-requires
room-requires c =
    let p : look_set c.args.n c.args.set ≡ Ok tt = rw (sym c.bad_set.ensures ∙ c.if-bad_set.false) refl in
    let g = (set_pass c.args.n c.args.set).0 p in
    (omega (arith, g.some, c.size.ensures), omega (arith, size-le 64 c.args.set (omega arith), c.size.ensures))

-- where nothing reaches outside the set, 9 is left
pub returns-then-l-room : goal.returns-then-l-room
returns-then-l-room c =
    let e = late c.args.n c.args.set c.args.t.now c.args.l (sym c.look_table.ensures ∙ c.in_ok-look_table.was) in
    let o = outside_none c.args.n c.args.set c.args.t.now c.in_default.ensures in
    sym (e ∙ rw (sym c.bad_set.ensures ∙ c.if-bad_set.false, o, lt-ltb c.args.l (room_for (size c.args.set)) (omega (arith, c.if-l-room.true, c.room.ensures, ap room_for c.size.ensures))) refl)

pub returns : goal.returns
returns c =
    let e = late c.args.n c.args.set c.args.t.now c.args.l (sym c.look_table.ensures ∙ c.in_ok-look_table.was) in
    let o = outside_none c.args.n c.args.set c.args.t.now c.in_default.ensures in
    sym (e ∙ rw (sym c.bad_set.ensures ∙ c.if-bad_set.false, o, le-ltb c.args.l (room_for (size c.args.set)) (omega (arith, c.if-l-room.false, c.room.ensures, ap room_for c.size.ensures))) refl)
