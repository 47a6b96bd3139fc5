-- The tree can be asked about the triple. Assumes nothing.
use Rattle.std.proofs.Common.{sym, ◌∙◌}
use Rattle.verdict_text.proofs.Triples.{askable}
use Rattle.verdict_text.proofs.put_triple.Goals as goal

pub ask-requires : goal.ask-requires
ask-requires c = askable _ _ (sym c.triple_at.ensures ∙ c.in-Some.is)
