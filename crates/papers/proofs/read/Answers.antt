-- Each turn of the loop reads one text more, and the answer is what the texts come to. Assumes nothing.
use Rattle.std.proofs.Common.{Result, arith, rules, false, drop, length-set, slice_set, subst, sym, take, ◌-◌, ◌∙◌, ◌≡◌}
use Rattle.texts.specs.Texts.{all_blank}
use Rattle.papers.specs.OneText.{Laid, next_of}
use Rattle.papers.proofs.Turns.{so_far_none, turn_bad, turn_done, turn_held, turn_less, turn_long, turn_many, turn_next, turn_none}
use Rattle.papers.proofs.read.Goals.{After-text_end-end, After-one_text}
use Rattle.refusals.specs.declared.Refusal.{Refusal}
use Rattle.papers.proofs.read.Goals as goal
use Rattle.papers.specs.declared.Behind.{Behind}

-- once a text is left
more : (c : After-text_end-end) → all_blank (drop c.loop-n.at c.args.input.now) ≡ false
more c = sym c.blanks_only.ensures ∙ c.loop-n-test.true

-- once it was read, or refused
next_is : (c : After-one_text) → (r : Result Behind Refusal) → c.one_text.result ≡ r → next_of (take (c.text_end-end.result - c.loop-n.at) (drop c.loop-n.at c.args.input.now)) c.loop-n.p ≡ r
next_is c r e = sym c.one_text.ensures.value.0 ∙ e

pub returns-then-input-gt-MOST_BYTES-clause-value : goal.returns-then-input-gt-MOST_BYTES-clause-value
returns-then-input-gt-MOST_BYTES-clause-value c = turn_long c.args.input.now c.if-input-gt-MOST_BYTES.true

pub loop-n-init : goal.loop-n-init
loop-n-init c = so_far_none c.args.input.now c.args.store.now c.requires

pub returns-then-trees-eq0-clause-value : goal.returns-then-trees-eq0-clause-value
returns-then-trees-eq0-clause-value c =
    turn_none c.args.input.now _ _ _ _ _ c.loop-n.invariant c.if-input-gt-MOST_BYTES.false (sym c.blanks_only.ensures ∙ c.loop-n-test.false) c.if-trees-eq0.true

pub returns-then-trees-eq0-clause-stored : goal.returns-then-trees-eq0-clause-stored
returns-then-trees-eq0-clause-stored c = (tt, c.loop-n.invariant.long)

pub returns-clause-value : goal.returns-clause-value
returns-clause-value c =
    turn_done c.args.input.now _ _ _ _ _ c.loop-n.invariant c.if-input-gt-MOST_BYTES.false (sym c.blanks_only.ensures ∙ c.loop-n-test.false) c.if-trees-eq0.false

pub returns-clause-stored : goal.returns-clause-stored
returns-clause-stored c =
    let l = c.loop-n in (
      turn_held c.args.input.now _ _ _ _ _ l.invariant c.if-input-gt-MOST_BYTES.false (sym c.blanks_only.ensures ∙ c.loop-n-test.false),
      length-set (slice_set (slice_set l.store 0 1) 1 l.n) 2 l.trees ∙ length-set (slice_set l.store 0 1) 1 l.n ∙ length-set l.store 0 1 ∙ l.invariant.long,
    )

pub returns-then-trees-eq-MOST-clause-value : goal.returns-then-trees-eq-MOST-clause-value
returns-then-trees-eq-MOST-clause-value c =
    turn_many c.args.input.now _ _ _ _ _ c.loop-n.invariant c.if-input-gt-MOST_BYTES.false (sym c.blanks_only.ensures ∙ c.loop-n-test.true) c.if-trees-eq-MOST.true

pub returns-then-trees-eq-MOST-clause-stored : goal.returns-then-trees-eq-MOST-clause-stored
returns-then-trees-eq-MOST-clause-stored c = (tt, c.loop-n.invariant.long)

pub returns-in-Err-clause-value : goal.returns-in-Err-clause-value
returns-in-Err-clause-value c =
    let x = (goal.at.returns-in-Err-clause-value c).After-one_text in
    let e = (goal.at.returns-in-Err-clause-value c).After-text_end-end in
    turn_bad c.args.input.now _ _ _ _ _ c.loop-n.invariant c.if-input-gt-MOST_BYTES.false (more e) c.if-trees-eq-MOST.false c.text_end-end.result c.text_end-end.ensures.0 _ (next_is x _ c.in-Err.is)

pub loop-n-smaller : goal.loop-n-smaller
loop-n-smaller c =
    let e = (goal.at.loop-n-smaller c).After-text_end-end in
    omega (arith, turn_less c.args.input.now _ _ _ _ _ c.loop-n.invariant c.if-input-gt-MOST_BYTES.false (more e) c.if-trees-eq-MOST.false c.text_end-end.result c.text_end-end.ensures.0, c.text_end-end.ensures.1)

pub loop-n-preserved : goal.loop-n-preserved
loop-n-preserved c =
    let x = (goal.at.loop-n-preserved c).After-one_text in
    let e = (goal.at.loop-n-preserved c).After-text_end-end in
    let l = c.loop-n in
    let w = c.args.input.now in
    let d = subst (λ (r : Result Behind Refusal). Laid (take (c.text_end-end.result - l.at) (drop l.at w)) l.p l.store r c.one_text.new.store) c.in-Ok.is c.one_text.ensures.value.1 in
    turn_next w _ _ _ _ _ l.invariant c.if-input-gt-MOST_BYTES.false (more e) c.if-trees-eq-MOST.false c.text_end-end.result c.text_end-end.ensures.0 _ _ (next_is x _ c.in-Ok.is) _ (search rules) _ d
