-- Checking a tree against a table. Document 01, "Numbers handed back".
use Rattle.std.specs.Prelude.{List, [], ◌∷◌, ◌++◌, ℕ, ltb, get_or, length}
use Rattle.trees.specs.Check.{differs, unsure}
use Rattle.trees.specs.Trees.{Tree}
use Rattle.tables.specs.Bytes.{entered}
use Rattle.triples.specs.Find.{first_triple}
use Rattle.triples.specs.Index.{C}
use Rattle.bodies.specs.Draws.{tree_of}
use Rattle.refusals.specs.Told.{Told, told}
use Rattle.answers.specs.Looks.{answered, first_refusal, look_bytes, look_count, look_length, look_rules, look_table, refuse_if}
use Rattle.refusals.specs.Refusals.{told_by}
use Rattle.answers.specs.Looks.{Look}
use Rattle.refusals.specs.declared.Refusal.TheVariants.{Contradicted, Unforced}
use Rattle.std.specs.Prelude.{Ok, Err, Result}
use Rattle.refusals.specs.declared.Refusal.{Refusal}

module _ (n : ℕ) (t : List ℕ) where
  -- the first index with an entered triplet that differs from what T holds; the first with a triplet of T that is not forced: "The first triple in index order"
  unfoldable pub first_differs : Tree → ℕ
  first_differs T = first_triple n (differs (entered t) T)

  unfoldable pub first_unsure : Tree → ℕ
  first_unsure T = first_triple n (unsure (entered t) n T)

  -- 11: "PC fails", with "triple index, table byte"
  abbrev pub look_pc : Tree → Look
  look_pc T = refuse_if (ltb (first_differs T) (C n 3)) (Contradicted (record { index = first_differs T; byte = get_or t (first_differs T) 0 }))

  -- 12: "PI fails", with "triple index"
  abbrev pub look_pi : Tree → Look
  look_pi T = refuse_if (ltb (first_unsure T) (C n 3)) (Unforced (first_unsure T))

  abbrev pub triples_looks : Tree → List Look
  triples_looks T = look_pc T ∷ look_pi T ∷ []

  -- "Check: 2, 7, 8, 5, 6, 11, 12", for the body b; "The tree number is 0 where there is only one body"
  abbrev pub candidate_looks : List ℕ → List Look
  candidate_looks b = look_count n ∷ look_table n (length t) ∷ look_bytes t ∷ look_length 0 (length b) ∷ look_rules 0 n b ∷ []

  abbrev pub check_looks : List ℕ → List Look
  check_looks b = candidate_looks b ++ triples_looks (tree_of b)

abbrev pub answer_of : List Look → Result (Unit {0}) Refusal
answer_of l = answered (λ (a : Result (Unit {0}) Refusal). a) Err (first_refusal l) (Ok tt)

abbrev pub check_answer : ℕ → List ℕ → List ℕ → Result (Unit {0}) Refusal
check_answer n t b = answer_of (check_looks n t b)

abbrev pub check_told : Result (Unit {0}) Refusal → Told
check_told = told_by (λ u. told 0 [])
