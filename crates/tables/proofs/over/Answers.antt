-- The first byte over the top is the one at place `i`, or the search goes on behind it. Assumes nothing.
use Rattle.std.proofs.Common.{◌≡◌, arith, length, refl, sym}
use borrow.Author.Tests.{lt-ltb}
use Rattle.tables.specs.Bytes.{over}
use Rattle.tables.proofs.Limits.{over_here, over-next}
use Rattle.tables.proofs.over.Goals as goal

pub returns-then-held-gt-TOP : goal.returns-then-held-gt-TOP
returns-then-held-gt-TOP c =
    let t = c.args.t.now in
    let i = c.loop-i.i in
    let e : over t ≡ i = omega (arith, c.loop-i.invariant, over_here t i (omega arith) (omega (arith, c.held.ensures))) in
    sym (rw (e, lt-ltb i (length t) (omega arith)) refl)

pub loop-i-preserved : goal.loop-i-preserved
loop-i-preserved c =
    let t = c.args.t.now in
    let i = c.loop-i.i in
    omega (arith, c.loop-i.invariant, over-next t i (omega arith) (omega (arith, c.held.ensures)))
