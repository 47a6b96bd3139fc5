-- The species, what each paper says of them, and the veto build: no other refusal writes. Assumes nothing.
use Rattle.std.proofs.Common.{ℕ, List, ◌++◌, ◌≡◌, ◌∙◌, ap}
use Rattle.writing.proofs.Writing.{writes}
use Rattle.writing.specs.Pages.{Page, wrote_on}
use Rattle.built_text.proofs.Told.{quarrel_told}
use Rattle.built_text.proofs.put_quarrel.Goals as goal

three : (o o₁ o₂ o₃ : Page) (a b d : List ℕ) → o₁ ≡ wrote_on o a → o₂ ≡ wrote_on o₁ b → o₃ ≡ wrote_on o₂ d → o₃ ≡ wrote_on o (a ++ (b ++ d))
three o o₁ o₂ o₃ a b d e f h = simp (h, f, e, writes)

pub returns-in-NoTree : goal.returns-in-NoTree
returns-in-NoTree c =
    let s = c.args in
    let told = quarrel_told s.c.now s.n s.set s.t.now _ c.in-NoTree.u s.count c.in-NoTree.is c.requires.1 in
    three s.out.now _ _ _ _ _ _ c.put_species.ensures c.put_sides.ensures c.put_open.ensures ∙ ap (wrote_on s.out.now) told
