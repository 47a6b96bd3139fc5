-- What was written are the lines of the first k papers. Assumes nothing.
use Rattle.std.proofs.Common.{ℕ, List, ◌++◌, ◌<◌, ◌≡◌, ◌∙◌, ap, arith, sym}
use Rattle.collections.specs.Layout.{trees}
use Rattle.writing.proofs.Writing.{wrote_on_both, wrote_on_nothing}
use Rattle.writing.specs.Pages.{Page, wrote_on}
use Rattle.papers_text.proofs.Bodies.{body_64, one_of_16}
use Rattle.papers_text.proofs.Lines.{sides-next, sides-none}
use Rattle.papers_text.proofs.put_sides.Goals as goal

grown : (o o₁ o₂ : Page) (w v u : List ℕ) → o₁ ≡ wrote_on o w → o₂ ≡ wrote_on o₁ v → u ≡ w ++ v → o₂ ≡ wrote_on o u
grown o o₁ o₂ w v u e f h = simp (f, e, h, wrote_on_both)

pub loop-k-init : goal.loop-k-init
loop-k-init c = sym (ap (wrote_on c.args.out.now) (sides-none c.args.c.now c.args.set) ∙ wrote_on_nothing c.args.out.now)

pub put_side-requires : goal.put_side-requires
put_side-requires c =
    let h : c.loop-k.k < trees c.args.c.now = omega (arith, c.loop-k-test.true, c.requires.1) in
    (one_of_16 c.args.c.now c.requires.0 c.loop-k.k h, body_64 c.args.c.now c.requires.0 c.loop-k.k h _ c.body.ensures)

pub loop-k-preserved : goal.loop-k-preserved
loop-k-preserved c =
    let more = sides-next c.args.c.now c.loop-k.k _ c.body.ensures c.args.set in
    grown _ _ _ _ _ _ c.loop-k.invariant c.put_side.ensures more
