-- The first leaf from 0 on is the first one from j on. Assumes nothing.
use Rattle.std.proofs.Common.{arith, sym, ◌∙◌, ◌≡◌, ◌<◌}
use Rattle.rules.proofs.Rules.{seen_end, seen_here, seen_inner, seen_other}
use Rattle.rules.proofs.earlier.Goals as goal

pub returns-then-kids-eq0 : goal.returns-then-kids-eq0
returns-then-kids-eq0 c =
    let h : c.loop-j.j < c.args.i = omega arith in
    (sym (c.loop-j.invariant ∙ seen_here _ _ _ _ h (sym c.species.ensures ∙ c.if-species-s.true) (sym c.kids.ensures ∙ c.if-kids-eq0.true)), h)

pub loop-j-preserved : goal.loop-j-preserved
loop-j-preserved c = grind (arith, seen_other, seen_inner, c.loop-j.invariant)

pub returns : goal.returns
returns c =
    let z : c.loop-j.j ≡ c.args.i = omega arith in
    c.loop-j.invariant ∙ seen_end _ _ _ _ (omega arith) ∙ z
