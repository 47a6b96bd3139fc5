-- The numbers, and then the fields. Assumes nothing.
use Rattle.std.proofs.Common.{◌∙◌, ◌≡◌, Some, arith, sym}
use Rattle.shapes.specs.Shapes.{shape}
use Rattle.calls.proofs.Written.{fields_all, rest_both}
use Rattle.calls.proofs.read_rest.Goals as goal

pub returns-clause-took : goal.returns-clause-took
returns-clause-took c =
    let s = c.in_ok-shape.shape in
    let known : Some s ≡ shape c.args.byte = sym c.in_ok-shape.was ∙ c.shape_of.ensures.shape in
    rest_both c.args.byte s known c.in_ok-numbers.ensures.took (fields_all _ _ _ _ s.items (omega arith) c.in_ok-first.ensures.took.0 c.in_ok-second.ensures.took.0 c.in_ok-third.ensures.took.0 c.in_ok-fourth.ensures.took.0)
