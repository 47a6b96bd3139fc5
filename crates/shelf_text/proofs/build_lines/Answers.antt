-- The build's line, and the body behind it, which lies in the room. Assumes nothing.
use Rattle.std.proofs.Common.{ℕ, ◌∙◌, ◌≡◌, ◌≤◌, ap, ap₂, refl, sym, arith, length}
use lib.Seq.{length-take-le}
use Rattle.bodies.specs.Nodes.{body_length, longest}
use Rattle.building.proofs.Fits.{done_fits}
use Rattle.building.specs.declared.Counted.{Counted}
use Rattle.writing.specs.Pages.{wrote_on}
use Rattle.shelf_text.specs.Shelf.{build_numbers, shown_numbers}
use Rattle.shelf_text.proofs.Told.{done_told, two}
use Rattle.shelf_text.proofs.build_lines.Goals as goal
use Rattle.shelf_text.proofs.build_lines.Goals.{After-put_shown, In-Ok}

-- the numbers of the line are those of the answer
numbers : (l : After-put_shown) → shown_numbers l.answer.result.number (l.answer.result.values) ≡ build_numbers l.build-a.result.answer
numbers l = ap₂ shown_numbers l.answer.ensures.number l.answer.ensures.values

-- the body lies in the room
inside : (c : In-Ok) → body_length c.in-Ok.w.nodes ≤ longest
inside c = done_fits c.args.n c.args.set c.args.t.now longest c.in-Ok.w (sym (ap (λ (z : Counted). z.answer) c.build-a.ensures.is) ∙ c.in-Ok.is)

-- the room is as long as it was
long : (c : In-Ok) (k : ℕ) → k ≡ body_length c.in-Ok.w.nodes → k ≤ length c.build-a.new.room
long c k e = omega (arith, inside c, e)

pub body_length-end-requires : goal.body_length-end-requires
body_length-end-requires c = omega (arith, inside c)

pub slice_bounds-room-end : goal.slice_bounds-room-end
slice_bounds-room-end c = long (goal.at.slice_bounds-room-end c).In-Ok _ c.body_length-end.ensures

pub slice_bounds-body_lines-end : goal.slice_bounds-body_lines-end
slice_bounds-body_lines-end c = sym (length-take-le _ _ (long (goal.at.slice_bounds-body_lines-end c).In-Ok _ c.body_length-end.ensures))

pub returns-in-Ok : goal.returns-in-Ok
returns-in-Ok c =
    let l = (goal.at.returns-in-Ok c).After-put_shown in
    let x = c.build-a.ensures in
    let e = done_told c.args.n c.args.set c.args.t.now _ _ _ (numbers l) (ap (λ (z : Counted). z.answer) x.is) x.holds c.in-Ok.w c.body_length-end.result c.in-Ok.is c.body_length-end.ensures in
    two c.args.out.now _ _ _ _ _ c.put_shown.ensures c.body_lines.ensures refl ∙ ap (wrote_on c.args.out.now) e
