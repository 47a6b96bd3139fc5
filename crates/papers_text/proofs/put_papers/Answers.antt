-- What was written are the lines of the first k papers. Assumes nothing.
use Rattle.std.proofs.Common.{◌∙◌, ap, arith, sym}
use Rattle.writing.proofs.Writing.{writes, wrote_on_nothing}
use Rattle.writing.specs.Pages.{wrote_on}
use Rattle.papers_text.proofs.Bodies.{body_good}
use Rattle.papers_text.proofs.Lines.{papers-next, papers-none}
use Rattle.papers_text.proofs.put_papers.Goals as goal

pub loop-k-init : goal.loop-k-init
loop-k-init c = sym (ap (wrote_on c.args.out.now) (papers-none c.args.c.now) ∙ wrote_on_nothing c.args.out.now)

pub put_tree-requires : goal.put_tree-requires
put_tree-requires c = body_good c.args.c.now c.requires.0 _ (omega (arith, c.loop-k-test.true, c.requires.2)) _ c.body.ensures c.args.n c.requires.1

pub loop-k-preserved : goal.loop-k-preserved
loop-k-preserved c =
    let more = papers-next c.args.c.now c.loop-k.k _ c.body.ensures in
    simp (c.put_tree.ensures, c.put_number.ensures, c.loop-k.invariant, more, writes)
