-- The line stands behind what waits. Assumes nothing.
use Rattle.std.proofs.Common.{arith}
use Rattle.making.proofs.Made.{made_fits, waits_cut, waits_none, waits_whole}
use Rattle.making.proofs.make.Goals.{in-Ok, in-Err-Cut, in-Err-End}
use Rattle.making.proofs.make.Goals as goal

pub overflow_add-j-in-Ok : goal.overflow_add-j-in-Ok
overflow_add-j-in-Ok c = let i = rw c.in-Ok.is at c.requires.inside in omega (arith, i.1, i.2, i.3, c.requires.room, c.room-room.ensures, c.room-room.type_inv)

pub overflow_mul-j : goal.overflow_mul-j
overflow_mul-j c = let i = rw c.in-Ok.is at c.requires.inside in omega (arith, i.1, i.2, i.3, c.requires.room, c.room-room.ensures, c.room-room.type_inv)

pub overflow_add-j-in-Ok-2 : goal.overflow_add-j-in-Ok-2
overflow_add-j-in-Ok-2 c = let i = rw c.in-Ok.is at c.requires.inside in omega (arith, i.1, i.2, i.3, c.requires.room, c.room-room.ensures, c.room-room.type_inv)

pub returns : goal.returns
returns c = elim c.match-call.branch [
  | in-Ok w ↦ rw (w.in-Ok.is, w.out-is) (waits_whole w.make_room.ensures.waits w.line.ensures (made_fits w.in-Ok.call _ _ _ _ _ _ w.make_room.ensures.room))
  | in-Err-Cut w ↦
      let q = rw w.in-Err-Cut.is at w.in-Err-Cut.field-0-is in
      rw (w.in-Err-Cut.is, q, w.out-is)
      (waits_cut w.make_room-in-Err-Cut.ensures.waits w.word.ensures w.make_room-in-Err-Cut.ensures.room)
  | in-Err-End w ↦ let q = rw w.in-Err-End.is at w.in-Err-End.field-0-is in rw (w.in-Err-End.is, q, w.out-is) (waits_none c.args.out.now)
]
