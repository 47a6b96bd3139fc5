-- `numerals::branch` meets its contract: a colon leads into a length, any other byte closes the subtree. Assumes nothing.
use Rattle.std.proofs.Common.{true, refl, sym, ◌∙◌, arith, rules}
use Rattle.newick.specs.Scan.{behind, due, state}
use Rattle.numerals.proofs.Lengths.{behind_closes, behind_due, behind_idle, branched, due_goes, due_idle, due_stops}
use Rattle.numerals.proofs.branch.Goals as goal

pub returns-then-digit : goal.returns-then-digit
returns-then-digit c =
    let w = c.args.text.now in
    let i = c.skip-i.ensures in
    let j = c.skip-j.ensures in
    let g = c.digits.ensures in
    branched w c.args.at c.digits.result c.args.nodes c.fraction.result
    (omega (arith, i.ahead, j.ahead, g.ahead))
    (λ ps n d. i.goes (state (behind true) ps n d) (behind_idle ps n d true)
    ∙ behind_due w ps n d c.skip-i.result c.if-i-text.true c.if-text-i-eq58.true
    ∙ j.goes (state due ps n d) (due_idle ps n d)
    ∙ due_goes w ps n d c.skip-j.result c.digits.result c.if-j-text.true (sym c.digit.ensures ∙ c.if-digit.true) g.goes)
    c.fraction.ensures

pub returns-then-text-i-eq58 : goal.returns-then-text-i-eq58
returns-then-text-i-eq58 c =
    let w = c.args.text.now in
    let i = c.skip-i.ensures in
    let j = c.skip-j.ensures in (
      j.within,
      λ ps n d. i.goes (state (behind true) ps n d) (behind_idle ps n d true)
          ∙ behind_due w ps n d c.skip-i.result c.if-i-text.true c.if-text-i-eq58.true
          ∙ j.goes (state due ps n d) (due_idle ps n d)
          ∙ due_stops w ps n d c.skip-j.result j.within j.solid
          (λ h. search rules),
    )

pub returns : goal.returns
returns c =
    let w = c.args.text.now in
    let i = c.skip-i.ensures in (
      i.ahead,
      i.within,
      refl,
      i.solid,
      λ ps n d. i.goes (state (behind true) ps n d) (behind_idle ps n d true)
          ∙ behind_closes w ps n d c.skip-i.result i.within i.solid
          (λ h. search rules),
    )
