-- A species at a time. Assumes nothing.
use Rattle.std.proofs.Common.{◌∙◌, ℕ, ap}
use Rattle.sets.specs.Sets.{single, union}
use Rattle.records.proofs.Gathering.{three-gather}
use Rattle.records.proofs.gather.Goals as goal

pub returns : goal.returns
returns c =
    let a = c.args in
    c.with-3.ensures ∙ ap (λ (x : ℕ). union x (single a.c)) (c.with-2.ensures ∙ ap (λ (x : ℕ). union x (single a.b)) c.with.ensures)
    ∙ three-gather a.s a.a a.b a.c c.requires.0 c.requires.1 c.requires.2
