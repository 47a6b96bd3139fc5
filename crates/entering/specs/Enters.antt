-- Entering a list of triplets into a table: its refusals in their order, and what 0 returns and leaves. Document 01, "Numbers handed back".
use Rattle.std.specs.Prelude.{List, [], ◌∷◌, ℕ, ltb, length}
use Rattle.sets.specs.Sets.{number}
use Rattle.tables.specs.Filled.{plain, table_for}
use Rattle.refusals.specs.Told.{Told, Value, occurring_set, species_count, told, value}
use Rattle.answers.specs.Looks.{Settled, after, answered, first_refusal, look_count, look_table, refuse_if}
use Rattle.refusals.specs.Refusals.{told_by}
use Rattle.answers.specs.Looks.{Look}
use Rattle.refusals.specs.declared.Refusal.TheVariants.{BadRecord}
use Rattle.records.specs.Records.{first_bad, in_records, occurs_in}
use Rattle.entering.specs.declared.Entry.{Entry}
use Rattle.std.specs.Prelude.{Ok, Err, Result}
use Rattle.refusals.specs.declared.Refusal.{Refusal}

-- "Entering: 2, 7, 13", for n species, m records of which the first bad one is k, and a table of l bytes
abbrev pub decided_looks : ℕ → ℕ → ℕ → ℕ → List Look
decided_looks n m k l = look_count n ∷ look_table n l ∷ refuse_if (ltb k m) (BadRecord k) ∷ []

-- "entering returns n", and the set that occurs
abbrev pub entry : ℕ → List (List ℕ) → Entry
entry n rs = record { n = n; set = number 64 (occurs_in rs) }

-- the same for the records rs
abbrev pub enter_looks : ℕ → List (List ℕ) → ℕ → List Look
enter_looks n rs l = decided_looks n (length rs) (first_bad n rs) l

-- the table of the records rs: "On 0, listing and entering fill the whole table"; request T-05: "Entering never sets 8"
abbrev pub enter_of : ℕ → List (List ℕ) → List ℕ
enter_of n rs = table_for n (plain (in_records rs))

-- t is the table before, r the answer, t' the table after
abbrev pub Enters : ℕ → List (List ℕ) → List ℕ → Result Entry Refusal → List ℕ → Type 0
Enters n rs t r t' = Settled Ok Err (enter_looks n rs (length t)) (entry n rs) (enter_of n rs) t r t'

abbrev pub enter_answer : ℕ → List (List ℕ) → ℕ → Result Entry Refusal
enter_answer n rs l = answered Ok Err (first_refusal (enter_looks n rs l)) (entry n rs)

abbrev pub enter_after : ℕ → List (List ℕ) → List ℕ → List ℕ
enter_after n rs t = after (first_refusal (enter_looks n rs (length t))) (enter_of n rs) t

abbrev pub entry_values : Entry → List Value
entry_values e = value species_count e.n ∷ value occurring_set e.set ∷ []

abbrev pub enter_told : Result Entry Refusal → Told
enter_told = told_by (λ e. told 0 (entry_values e))
