-- A sign that was tried: its name is written where it may stand. Assumes nothing.
use Rattle.std.proofs.Common.{◌∙◌, sym}
use Rattle.writing.proofs.Writing.{writes}
use Rattle.standing.proofs.Names.{names_with, names_without}
use Rattle.standing.proofs.put_expected.Goals.{then-may_stand, else-may_stand}
use Rattle.standing.proofs.put_expected.Goals as goal

pub loop-sign-preserved : goal.loop-sign-preserved
loop-sign-preserved c =
    let k = c.loop-sign.sign-index in
    let t = c.args.text.now in
    let q = c.args.q in
    let e = sym c.may_stand.ensures in
    elim c.if-may_stand.branch [
      | then-may_stand w ↦
          let n = names_with t q k c.loop-sign.some c.loop-sign-test.true (e ∙ w.if-may_stand.true) in
          rw (w.out-is, w.some-is) (simp (w.put_name.ensures, writes) (simp (n, writes) at c.loop-sign.invariant))
      | else-may_stand w ↦
          let n = names_without t q k c.loop-sign.some c.loop-sign-test.true (e ∙ w.if-may_stand.false) in
          rw (w.out-is, w.some-is) (simp n at c.loop-sign.invariant)
    ]
