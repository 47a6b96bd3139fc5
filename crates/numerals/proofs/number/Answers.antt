-- `numerals::number` meets its contract: up to i the digits make v, which is at most 254. Assumes nothing.
use mathlib.Core.Bool.{So, true}
use mathlib.Core.Logic.{inl, inr, ⊎_elim}
use mathlib.Core.Path.{◌∙◌, ap, sym}
use Prim.Native.Nat.{ℕ, ◌+◌, ◌*◌, ◌≤◌}
use native.Mathlib.Omega.{arith}
use borrow.Author.Tests.{leb-true}
use lib.Dec.{leb}
use lib.ListN.{drop, get_or}
use Rattle.sets.proofs.Bools.{and_r}
use Rattle.newick.specs.Form.{digit}
use Rattle.newick.specs.Scan.{number, scan_from, state}
use Rattle.numerals.proofs.Lengths.{number_begins, number_ends, number_goes, number_stops}
use Rattle.numerals.proofs.Steps.{goes_past}
use Rattle.numerals.proofs.number.Goals as goal

-- the value of a digit is at most 9
low : (b : ℕ) → So (digit b) → b ≤ 57
low b h = leb-true b 57 (and_r (leb 48 b) (leb b 57) h)

pub loop-i-init : goal.loop-i-init
loop-i-init c =
    let w = c.args.text.now in
    let v = c.value-v.ensures in
    record {
      fits = omega (arith, v, low (get_or w c.args.at 0) c.requires.1);
      goes = λ ps n d k. number_begins w ps n d c.args.at c.requires.0 c.requires.1 k ∙ ap (λ (x : ℕ). scan_from true (state (number x) ps n d) (drop (c.args.at + 1) w)) (sym v);
    }

pub returns-then-not-digit : goal.returns-then-not-digit
returns-then-not-digit c =
    let l = c.loop-i in
    let w = c.args.text.now in (
      omega arith,
      omega arith,
      λ ps n d k. l.invariant.goes ps n d k ∙ number_ends w ps n d l.i l.v (omega arith) (λ h. sym c.digit.ensures ∙ c.if-not-digit.true),
    )

pub returns-then-v-eq0 : goal.returns-then-v-eq0
returns-then-v-eq0 c =
    let l = c.loop-i in
    let w = c.args.text.now in
    let h = sym c.digit.ensures ∙ c.if-not-digit.false in
    let v = c.value.ensures in (
      omega arith,
      λ ps n d k. l.invariant.goes ps n d k ∙ number_stops w ps n d l.i l.v (omega arith) h
          (⊎_elim (λ x. inl x) (λ x. inr (omega (arith, v, x))) c.then-v-eq0.either),
    )

pub loop-i-preserved : goal.loop-i-preserved
loop-i-preserved c =
    let l = c.loop-i in
    let w = c.args.text.now in
    let h = sym c.digit.ensures ∙ c.if-not-digit.false in
    let v = c.value.ensures in
    let x = c.if-x-gt-LARGEST.false in
    record {
      fits = x;
      goes = λ ps n d k. l.invariant.goes ps n d k ∙ number_goes w ps n d l.i l.v (omega arith) h (omega arith) (omega (arith, v, x))
          ∙ ap (λ (z : ℕ). scan_from true (state (number (10 * l.v + z)) ps n d) (drop (l.i + 1) w)) (sym v);
    }

pub returns : goal.returns
returns c =
    let l = c.loop-i in
    let w = c.args.text.now in (
      omega arith,
      omega arith,
      λ ps n d k. l.invariant.goes ps n d k ∙ number_ends w ps n d l.i l.v (omega arith) (λ h. absurd (omega arith)) ∙ goes_past w _ l.i _ (omega arith) (λ j a b. absurd (omega arith)),
    )
