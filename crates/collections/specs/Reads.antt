-- Reading a collection. Document 01, "Numbers handed back": "Collection: empty is 3; then 1; under three bytes is 3; 2; then for each tree, under two length
-- bytes 3, 5, body cut 3, 6; lastly 4."
use Rattle.std.specs.Prelude.{List, [], ◌∷◌, ◌++◌, ℕ, zero, suc, ◌-◌, ltb, length}
use Rattle.refusals.specs.Told.{Told, Value, occurring_set, species_count, told, tree_count, value}
use Rattle.answers.specs.Looks.{answered, first_refusal, look_length, look_rules, refuse_if}
use Rattle.refusals.specs.Refusals.{told_by}
use Rattle.answers.specs.Looks.{Look}
use Rattle.refusals.specs.declared.Refusal.TheVariants.{BadCounts, BadVersion, EndsEarly, LeftOver}
use Rattle.collections.specs.declared.Counts.{Counts}
use Rattle.collections.specs.Occurs.{occurring}
use Rattle.collections.specs.Layout.{body_at, length_at, no_byte, short_body, short_header, short_length, species, start, trees, wrong_counts, wrong_version}
use Rattle.std.specs.Prelude.{Ok, Err, Result}
use Rattle.refusals.specs.declared.Refusal.{Refusal}

module _ (b : List ℕ) where
  -- "for each tree, under two length bytes 3, 5, body cut 3, 6"
  abbrev pub tree_looks : ℕ → List Look
  tree_looks k =
      refuse_if (short_length b k) (EndsEarly k)
      ∷ look_length k (length_at b (start b k))
      ∷ refuse_if (short_body b k) (EndsEarly k)
      ∷ look_rules k (species b) (body_at b k)
      ∷ []

  -- j trees from tree k on; "lastly 4"
  unfoldable pub looks_from : ℕ → ℕ → List Look
  looks_from k zero = refuse_if (ltb (start b k) (length b)) (LeftOver (length b - start b k)) ∷ []
  looks_from k (suc j) = tree_looks k ++ looks_from (suc k) j

  unfoldable pub read_looks : List Look
  read_looks =
      refuse_if (no_byte b) (EndsEarly 0)
      ∷ refuse_if (wrong_version b) BadVersion
      ∷ refuse_if (short_header b) (EndsEarly 0)
      ∷ refuse_if (wrong_counts b) BadCounts
      ∷ looks_from 0 (trees b)

  -- "list: n and tree count"; "Reading returns what listing returns"; request T-03: "also .. the set that occurs"
  abbrev pub counts_of : Counts
  counts_of = record { n = species b; trees = trees b; set = occurring b }

  abbrev pub read_answer : Result Counts Refusal
  read_answer = answered Ok Err (first_refusal read_looks) counts_of

  -- the answer of j trees from tree k on; and after tree k alone, where the next one starts
  abbrev pub answer_from : ℕ → ℕ → Result Counts Refusal
  answer_from k j = answered Ok Err (first_refusal (looks_from k j)) counts_of

  abbrev pub next_of : ℕ → Result ℕ Refusal
  next_of k = answered Ok Err (first_refusal (tree_looks k)) (start b (suc k))

abbrev pub count_values : Counts → List Value
count_values c = value species_count c.n ∷ value tree_count c.trees ∷ value occurring_set c.set ∷ []

abbrev pub read_told : Result Counts Refusal → Told
read_told = told_by (λ c. told 0 (count_values c))
