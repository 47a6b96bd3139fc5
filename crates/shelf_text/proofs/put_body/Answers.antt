-- The first byte, and the others behind it. Assumes nothing.
use Rattle.std.proofs.Common.{ℕ, ◌-◌, List, ◌++◌, ◌≡◌, ◌∙◌, ap, arith, drop, length, take}
use Rattle.std.proofs.lemmas.List.{map-id}
use Rattle.writing.proofs.Writing.{wrote_on_both}
use Rattle.writing.specs.Pages.{Page, wrote_on}
use Rattle.writing.specs.Texts.{spaced}
use Rattle.shelf_text.proofs.Told.{numbers-none, numbers_some}
use Rattle.shelf_text.proofs.put_body.Goals as goal

three : (o o₁ o₂ o₃ : Page) (a b d : List ℕ) → o₁ ≡ wrote_on o a → o₂ ≡ wrote_on o₁ b → o₃ ≡ wrote_on o₂ d → o₃ ≡ wrote_on o ((a ++ b) ++ d)
three o o₁ o₂ o₃ a b d e f h =
    h ∙ ap (λ (z : Page). wrote_on z d) (f ∙ ap (λ (z : Page). wrote_on z b) e ∙ wrote_on_both o a b) ∙ wrote_on_both o (a ++ b) d

pub returns-then-body-eq0 : goal.returns-then-body-eq0
returns-then-body-eq0 c = c.push.ensures ∙ ap (wrote_on c.args.out.now) (numbers-none c.args.body.now c.if-body-eq0.true)

pub returns : goal.returns
returns c =
    let b = c.args.body.now in
    let rest = take (length b - 1) (drop 1 b) in
    let others = c.numbers.ensures ∙ ap (λ (l : List ℕ). wrote_on c.decimal.new.self (spaced l)) (map-id rest) in
    three c.args.out.now _ _ _ _ _ _ c.decimal.ensures others c.push-2.ensures
    ∙ ap (wrote_on c.args.out.now) (numbers_some b c.from.result (omega (arith, c.if-body-eq0.false)) c.from.ensures)
