-- Listing a collection into a table. Document 01: "Listing a collection sets exactly the bits that at least one of its trees holds, over all trees";
-- request T-05: "Listing adds 8 to a table byte where some tree holds all three as a fan."
use Rattle.std.specs.Prelude.{false, List, [], ◌∷◌, ◌++◌, ℕ, zero, suc, length}
use Rattle.tables.specs.Filled.{Said, both_said, plain, said_by, table_for}
use Rattle.bodies.specs.Draws.{tree_of}
use Rattle.answers.specs.Looks.{Settled, after, answered, first_refusal, look_table}
use Rattle.answers.specs.Looks.{Look}
use Rattle.collections.specs.Layout.{species, trees, body_at}
use Rattle.collections.specs.Reads.{counts_of, read_looks}
use Rattle.std.specs.Prelude.{Ok, Err, Result}
use Rattle.refusals.specs.declared.Refusal.{Refusal}
use Rattle.collections.specs.declared.Counts.{Counts}

-- what the first m trees of a collection say
unfoldable pub said_up_to : List ℕ → ℕ → Said
said_up_to b zero = plain (λ x y z. false)
said_up_to b (suc m) = both_said (said_up_to b m) (said_by (tree_of (body_at b m)))

-- the table of a collection
abbrev pub list_of : List ℕ → List ℕ
list_of b = table_for (species b) (said_up_to b (trees b))

-- "Listing: the collection's refusals, then 7", for a table of l bytes
abbrev pub list_looks : List ℕ → ℕ → List Look
list_looks b l = read_looks b ++ (look_table (species b) l ∷ [])

-- "list: n and tree count"; request T-03: "also .. the set that occurs"; "On 0, listing and entering fill the whole table": t is the table before, r the answer, t' the table after
abbrev pub Lists : List ℕ → List ℕ → Result Counts Refusal → List ℕ → Type 0
Lists b t r t' = Settled Ok Err (list_looks b (length t)) (counts_of b) (list_of b) t r t'

abbrev pub list_answer : List ℕ → ℕ → Result Counts Refusal
list_answer b l = answered Ok Err (first_refusal (list_looks b l)) (counts_of b)

abbrev pub list_after : List ℕ → List ℕ → List ℕ
list_after b t = after (first_refusal (list_looks b (length t))) (list_of b) t
