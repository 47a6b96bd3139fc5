-- The byte stands in the buffer, or in the next one. Assumes nothing.
use Rattle.std.proofs.Common.{arith, ◌<◌, ap, inl, inr, refl, sym, ◌∙◌}
use Rattle.input.proofs.Reading.{none_left, took_from, took_next}
use Rattle.input.specs.Inputs.{whole}
use Rattle.input.proofs.Reader.byte.Goals as goal
use Rattle.input.proofs.Reader.byte.Goals.{then-self+in_ok-refill, else-self}

pub returns-in_err-refill-clause-took : goal.returns-in_err-refill-clause-took
returns-in_err-refill-clause-took c = rw c.from_residual.ensures (none_left _ c.if-self.true, c.in_err-refill.ensures.refilled)

pub returns-clause-took : goal.returns-clause-took
returns-clause-took c =
    let q = c.if-self.self in
    let h : q.at < q.end = elim c.if-self.branch [ then-self+in_ok-refill w ↦ omega arith | else-self w ↦ let b = q.in_buffer.0 in omega arith ] in
    took_from (elim c.if-self.branch [
      | then-self+in_ok-refill w ↦ inr (w.if-self.true, ap whole w.self-is ∙ w.in_ok-refill.ensures.refilled.3 ∙ sym w.in_ok-refill.ensures.refilled.2)
      | else-self w ↦ inl w.self-is
    ]) (took_next q _ h refl refl refl refl)
