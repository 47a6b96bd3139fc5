-- `listing::tree` meets its contract. Assumes nothing.
use Rattle.std.proofs.Common.{◌∙◌, add-one, arith, suc}
use Rattle.bodies.specs.Draws.{tree_of}
use Rattle.tables.proofs.Adding.{adds_join, adds_none}
use Rattle.tables.specs.Filled.{tree_byte}
use Rattle.trees.proofs.Combinations.{C-more, C-none}
use Rattle.triples.specs.Index.{C}
use Rattle.listing.proofs.tree.Goals as goal

pub loop-c-init : goal.loop-c-init
loop-c-init c = (c.requires.groups_len.2, rw (C-none 2) (adds_none (tree_byte (tree_of c.args.body.now)) 0 c.args.t.now))

pub level-requires : goal.level-requires
level-requires c =
    let l = c.loop-c in
    let m = C-more 3 (suc l.c) c.args.n (omega (arith, c.loop-c-test.true)) in
    (omega (arith, c.loop-c-test.true, c.requires.n_bound.0), omega (arith, m, l.invariant.0))

pub loop-c-preserved : goal.loop-c-preserved
loop-c-preserved c =
    let l = c.loop-c in
    let T = tree_of c.args.body.now in
    let u = C-more 3 l.c (suc l.c) (omega arith) in (
      c.level.ensures.long ∙ l.invariant.0,
      rw (add-one l.c) (adds_join (tree_byte T) 0 (C l.c 3) (C (suc l.c) 3) c.args.t.now l.t _ (omega arith) u l.invariant.1 (c.level.ensures.bytes T c.draw-whole.ensures.drawn)),
    )
