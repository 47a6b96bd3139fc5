-- So many items of so many bytes. Assumes nothing.
use Rattle.std.proofs.Common.{◌≡◌, ℕ, ◌*◌, arith, length}
use Rattle.std.proofs.Math.Seq.{length-take-le, take_at}
use Rattle.calls.proofs.Written.{field_both, fits}
use Rattle.calls.proofs.read_field.Goals as goal

pub returns-clause-took : goal.returns-clause-took
returns-clause-took c =
    let h = fits _ c.args.item c.in_ok-n.field-0 c.in_ok-n.ensures.took.1 in
    let l : length c.fill.new.to ≡ c.args.item * c.in_ok-n.field-0 = omega (arith, length-take-le {A = ℕ}) in
    (rw (take_at c.fill.new.to _ _ l) (field_both c.args.item c.in_ok-n.field-0 c.fill.new.to c.if-item-eq0.false l c.in_ok-n.ensures.took.0 c.in_ok-fill.ensures.took), h)
