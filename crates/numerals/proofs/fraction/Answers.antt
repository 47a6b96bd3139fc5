-- `numerals::fraction` meets its contract: behind the digits of a length come a point with digits, or what closes the subtree. Assumes nothing.
use Rattle.std.proofs.Common.{false, refl, sym, ◌∙◌, arith, rules}
use Rattle.newick.specs.Scan.{behind, state}
use Rattle.numerals.proofs.Lengths.{behind_idle, pointed_goes, pointed_stops, whole_ends, whole_points}
use Rattle.numerals.proofs.fraction.Goals as goal

pub returns-then-digit : goal.returns-then-digit
returns-then-digit c =
    let w = c.args.text.now in
    let at = c.args.at in
    let g = c.digits.ensures in
    let s = c.skip-end.ensures in (
      omega (arith, s.ahead, g.ahead),
      s.within,
      refl,
      s.solid,
      λ ps n d. whole_points w ps n d at c.if-at-text.true c.if-text-at-eq46.true
          ∙ pointed_goes w ps n d _ c.digits.result c.if-next-text.true (sym c.digit.ensures ∙ c.if-digit.true) g.within g.goes g.clear
          ∙ s.goes (state (behind false) ps n d) (behind_idle ps n d false),
    )

pub returns-then-text-at-eq46 : goal.returns-then-text-at-eq46
returns-then-text-at-eq46 c =
    let w = c.args.text.now in
    let at = c.args.at in (
      omega arith,
      λ ps n d. whole_points w ps n d at c.if-at-text.true c.if-text-at-eq46.true
          ∙ pointed_stops w ps n d _ (omega arith) (λ h. search rules),
    )

pub returns : goal.returns
returns c =
    let w = c.args.text.now in
    let at = c.args.at in
    let s = c.skip-end-2.ensures in (
      s.ahead,
      s.within,
      refl,
      s.solid,
      λ ps n d. whole_ends w ps n d at c.requires.at_in_bounds c.requires.at_value (λ h. search rules)
          ∙ s.goes (state (behind false) ps n d) (behind_idle ps n d false),
    )
