-- A place beyond the table reads 0. Assumes nothing.
use Rattle.std.proofs.Common.{ℕ, ◌≡◌, ◌∙◌, ap, arith, get_or}
use Rattle.std.proofs.lemmas.Grind.{common_steps}
use Rattle.triples.specs.Index.{index}
use Rattle.tables.proofs.Bytes.{byte_says}
use Rattle.tables.proofs.byte.Goals as goal

pub returns-then-i-t : goal.returns-then-i-t
returns-then-i-t c =
    let a = c.args in
    byte_says a.t.now a.a a.b a.c _ (omega arith) (omega arith) (c.held.ensures ∙ ap (λ (i : ℕ). get_or a.t.now i 0) c.index-i.ensures)

pub returns-else-i-t : goal.returns-else-i-t
returns-else-i-t c =
    let a = c.args in
    let e : 0 ≡ get_or a.t.now (index a.a a.b a.c) 0 = grind (arith, common_steps) in
    byte_says a.t.now a.a a.b a.c _ (omega arith) (omega arith) e
