-- A paper that says something shares three species. Assumes nothing.
use Rattle.std.proofs.Common.{arith, rules}
use Rattle.papers_text.proofs.Shared.{counted, shares}
use Rattle.papers_text.proofs.put_side.Goals as goal

pub put_cut-requires : goal.put_cut-requires
put_cut-requires c =
    let b = c.args.body.now in
    let few = counted b c.requires.1 _ _ _ _ c.groups.ensures c.meet.ensures c.size.ensures in
    record {
      good = c.requires.1.good;
      count_nonzero = search rules;
      touches = shares b c.requires.1 c.args.set (omega (arith, few, c.if-size-lt3.false));
    }
