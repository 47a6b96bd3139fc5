-- What is told of a collection, answer by answer. Assumes nothing.
use mathlib.Core.List.{List, [], ◌∷◌, ◌++◌}
use mathlib.Core.Path.{◌∙◌, ◌≡◌, ap, ap₂, refl, sym}
use Prim.Native.Nat.{ℕ}
use borrow.Author.Tests.{eq-eqb}
use lib.ListN.{length, length-replicate, replicate}
use Rattle.triples.specs.Index.{C}
use Rattle.answers.proofs.Answered.{first_on}
use Rattle.answers.specs.Looks.{look_table}
use Rattle.collections.proofs.Whole.{read_pass}
use Rattle.collections.specs.Collection.{Collection}
use Rattle.collections.specs.Layout.{species, trees}
use Rattle.collections.specs.Reads.{read_answer, read_looks}
use Rattle.collections.specs.declared.Counts.{Counts}
use Rattle.listing.specs.Lists.{list_after, list_of}
use Rattle.papers_text.specs.Lines.{papers_text}
use Rattle.built_text.specs.Built.{built_text}
use Rattle.pull_text.specs.Pull.{collection_text, good_text, story_text}
use Rattle.std.specs.Prelude.{Ok, Err, Result}
use Rattle.refusals.specs.declared.Refusal.{Refusal}

module _ (c : List ℕ) where
  module _ (g : Collection c) where
    -- what the table held does not matter
    pub list_whole : (t : List ℕ) → length t ≡ C (species c) 3 → list_after c t ≡ list_of c
    list_whole t h = rw (first_on (read_looks c) (look_table (species c) (length t) ∷ []) ((read_pass c).1 g), eq-eqb (length t) (C (species c) 3) h) refl

    -- the table that it is listed into
    pub list_zeros : (n : ℕ) → n ≡ species c → list_after c (replicate (C n 3) 0) ≡ list_of c
    list_zeros n e = list_whole (replicate (C n 3) 0) (length-replicate (C n 3) 0 ∙ ap (λ (k : ℕ). C k 3) e)

    pub story_listed : (n s k : ℕ) (t : List ℕ) → n ≡ species c → k ≡ trees c → t ≡ list_of c → papers_text c k ++ built_text c n s t ≡ story_text c n s
    story_listed n s k t e h q = ap₂ (λ (j : ℕ) (u : List ℕ). papers_text c j ++ built_text c n s u) h (q ∙ sym (list_zeros n e))

  module _ (a : Result Counts Refusal) (p : a ≡ read_answer c) where
    pub read_refused : (x : Refusal) → a ≡ Err x → [] ≡ collection_text c
    read_refused x e = ap (good_text c) (sym e ∙ p)

    pub read_story : (x : Counts) → a ≡ Ok x → story_text c x.n x.set ≡ collection_text c
    read_story x e = ap (good_text c) (sym e ∙ p)
