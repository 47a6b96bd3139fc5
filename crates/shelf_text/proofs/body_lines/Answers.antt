-- The body, and the check's line behind it. Assumes nothing.
use Rattle.std.proofs.Common.{◌∙◌, ap, ap₂}
use Rattle.shelf_text.specs.Shelf.{check_word, check_numbers, shown_numbers}
use Rattle.shelf_text.specs.Texts.{line}
use Rattle.shelf_text.proofs.Told.{two}
use Rattle.shelf_text.proofs.body_lines.Goals as goal

pub returns : goal.returns
returns c =
    let h = c.answer.ensures in
    let e = ap (line check_word) (ap₂ shown_numbers h.number h.values ∙ ap check_numbers c.check-a.ensures) in
    two c.args.out.now _ _ _ _ _ c.put_body.ensures c.put_shown.ensures e
