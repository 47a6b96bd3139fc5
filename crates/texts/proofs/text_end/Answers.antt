-- The text goes up to the first semicolon, or to the end where there is none. Assumes nothing.
use Rattle.std.proofs.Common.{rules, tests, ◌≡◌, ◌∙◌, sym, drop, length-drop, arith}
use Rattle.std.proofs.lemmas.Iterator.{YieldsList-from_slice}
use Rattle.std.proofs.lemmas.Iterator.Search.{position_from_yields_List}
use Rattle.std.specs.List.{position}
use Rattle.texts.proofs.Texts.{from_place, semicolon, span_closed, span_open}
use Rattle.texts.proofs.text_end.Goals.{After-position}
use Rattle.texts.proofs.text_end.Goals as goal

found : (c : After-position) → c.position.result ≡ position semicolon (drop c.args.at c.args.input.now)
found c = position_from_yields_List semicolon _ _ c.position.result c.position.ensures.ran (YieldsList-from_slice _ (c.iter.ensures.rest ∙ from_place c.args.input.now c.args.at)) (λ x b q k. search (rules, tests))

pub returns-in-Some : goal.returns-in-Some
returns-in-Some c =
    let l = length-drop c.args.at c.args.input.now in
    let s = span_closed (drop c.args.at c.args.input.now) c.in-Some.k (sym (found (goal.at.returns-in-Some c).After-position) ∙ c.in-Some.is) in
    (omega arith, omega arith)

pub returns-in-None : goal.returns-in-None
returns-in-None c =
    let l = length-drop c.args.at c.args.input.now in
    let s = span_open (drop c.args.at c.args.input.now) (sym (found (goal.at.returns-in-None c).After-position) ∙ c.in-None.is) in
    (omega arith, omega arith)
