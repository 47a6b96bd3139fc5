-- `all` of the bytes from `at` on is the definition's test of them. Assumes nothing.
use Rattle.std.proofs.Common.{rules, tests, ◌∙◌}
use Rattle.std.proofs.lemmas.Iterator.{YieldsList-from_slice}
use Rattle.std.proofs.lemmas.Iterator.Search.{all_from_yields_List}
use Rattle.newick.specs.Form.{blank}
use Rattle.texts.proofs.Texts.{blanks_all, from_place}
use Rattle.texts.proofs.blanks_only.Goals as goal

pub returns : goal.returns
returns c =
    all_from_yields_List blank _ _ c.all.result c.all.ensures.ran (YieldsList-from_slice _ (c.iter.ensures.rest ∙ from_place c.args.input.now c.args.at)) (λ x b q k. search (rules, tests))
    ∙ blanks_all _
