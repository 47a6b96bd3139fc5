-- `checking::judge` meets its contract: PC first; then each group beside its siblings; and the first triple only where one is not earned.
use Rattle.std.proofs.Common.{◌∙◌, sym, arith, rules}
use Rattle.trees.proofs.Agreement.{R-proper}
use Rattle.trees.specs.Check.{R}
use Rattle.tables.proofs.Bytes.{entered_proper}
use Rattle.tables.specs.Bytes.{entered}
use Rattle.bodies.specs.Draws.{tree_of}
use Rattle.checking.proofs.Judged.{candidate, formed, is_earned, is_sure, is_unforced, unopposed, within}
use Rattle.checking.proofs.judge.Goals as goal

pub look_pc-requires : goal.look_pc-requires
look_pc-requires c = let b = c.args.body.now in (c.requires.0, (tree_of b, candidate c.args.n b c.requires.0 c.requires.1 c.requires.2 c.draw-whole.ensures.drawn))

pub returns-in_err-look_pc : goal.returns-in_err-look_pc
returns-in_err-look_pc c =
    let b = c.args.body.now in
    let m = candidate c.args.n b c.requires.0 c.requires.1 c.requires.2 c.draw-whole.ensures.drawn in
    rw (sym (c.look_pc.ensures (tree_of b) m) ∙ c.in_err-look_pc.was) (search rules)

pub returns-then-earned : goal.returns-then-earned
returns-then-earned c =
    let n = c.args.n in
    let t = c.args.t.now in
    let b = c.args.body.now in
    let m = candidate n b c.requires.0 c.requires.1 c.requires.2 c.draw-whole.ensures.drawn in
    let none = sym (c.look_pc.ensures (tree_of b) m) ∙ c.in_ok-look_pc.was in
    let e = c.earned.ensures (R (entered t) (tree_of b)) (R-proper (entered t) (entered_proper t) (tree_of b)) (c.relate.ensures.masks (tree_of b) m) in
    is_earned n t (tree_of b) (formed n b c.requires.0 c.requires.1 c.requires.2) (within n b c.requires.0 c.requires.1 c.requires.2) none (e.0 c.if-earned.true)

pub index-requires : goal.index-requires
index-requires c =
    let t = c.args.t.now in
    let b = c.args.body.now in
    let m = candidate c.args.n b c.requires.0 c.requires.1 c.requires.2 c.draw-whole.ensures.drawn in
    let none = sym (c.look_pc.ensures (tree_of b) m) ∙ c.in_ok-look_pc.was in
    let h = c.in-Some.ensures (entered t) (tree_of b) (unopposed c.args.n b c.requires.0 c.requires.1 c.requires.2 t c.draw-whole.ensures.drawn none (c.relate.ensures.masks (tree_of b) m)) in
    (h.low_mid, h.mid_high, omega (arith, h.high_below, c.requires.0))

pub returns-in-Some : goal.returns-in-Some
returns-in-Some c =
    let n = c.args.n in
    let t = c.args.t.now in
    let b = c.args.body.now in
    let m = candidate n b c.requires.0 c.requires.1 c.requires.2 c.draw-whole.ensures.drawn in
    let none = sym (c.look_pc.ensures (tree_of b) m) ∙ c.in_ok-look_pc.was in
    let h = c.in-Some.ensures (entered t) (tree_of b) (unopposed n b c.requires.0 c.requires.1 c.requires.2 t c.draw-whole.ensures.drawn none (c.relate.ensures.masks (tree_of b) m)) in
    is_unforced n t (tree_of b) (formed n b c.requires.0 c.requires.1 c.requires.2) (within n b c.requires.0 c.requires.1 c.requires.2) none c.in-Some.x h _ c.index.ensures

pub returns : goal.returns
returns c =
    let n = c.args.n in
    let t = c.args.t.now in
    let b = c.args.body.now in
    let m = candidate n b c.requires.0 c.requires.1 c.requires.2 c.draw-whole.ensures.drawn in
    let none = sym (c.look_pc.ensures (tree_of b) m) ∙ c.in_ok-look_pc.was in
    let h = c.in_default.ensures (entered t) (tree_of b) (unopposed n b c.requires.0 c.requires.1 c.requires.2 t c.draw-whole.ensures.drawn none (c.relate.ensures.masks (tree_of b) m)) in
    is_sure n t (tree_of b) (formed n b c.requires.0 c.requires.1 c.requires.2) (within n b c.requires.0 c.requires.1 c.requires.2) none h
