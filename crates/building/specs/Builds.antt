-- Building the tree of a set of species, of a table. Document 01, "Numbers handed back"; requests T-03 and T-09.
use Rattle.std.specs.Prelude.{Bool, cond, false, List, [], ◌∷◌, ◌++◌, ℕ, eqb, length}
use Rattle.sets.specs.Sets.{has, number}
use Rattle.trees.specs.Build.{Outcome, tree, stop, build_by}
use Rattle.trees.specs.Visits.{looked}
use Rattle.tables.specs.Bytes.{entered}
use Rattle.bodies.specs.Draws.{node_count, body_of, written}
use Rattle.refusals.specs.Told.{Told, looked_count, value}
use Rattle.answers.specs.Looks.{Settled, after, answered, first_refusal, written_told}
use Rattle.refusals.specs.Refusals.{refusal_told, told_by}
use Rattle.answers.specs.Looks.{Look}
use Rattle.refusals.specs.declared.Refusal.{Refusal}
use Rattle.refusals.specs.declared.Refusal.TheVariants.{NoTree}
use Rattle.answers.specs.declared.Written.{Written}
use Rattle.admitting.specs.GoodSet.{input_looks}
use Rattle.building.specs.declared.Counted.{Counted}
use Rattle.std.specs.Prelude.{Ok, Err, Result}

-- what the plain build (false) or the veto build (true) comes to. Request T-03: "the build takes such a set"; it is s, of n species, and t the table
unfoldable pub outcome_by : Bool → ℕ → ℕ → List ℕ → Outcome
outcome_by v n s t = build_by v (entered t) n (has s)

abbrev pub outcome : ℕ → ℕ → List ℕ → Outcome
outcome n s t = outcome_by false n s t

-- 10: "no tree exists", with "the stopping set"
abbrev pub look_outcome : Outcome → Look
look_outcome (tree T) = Ok tt
look_outcome (stop U) = Err (NoTree (number 64 U))

-- the tree's nodes and its body, where there is a tree
abbrev pub nodes_in : Outcome → ℕ
nodes_in (tree T) = node_count T
nodes_in (stop U) = 0

abbrev pub body_in : Outcome → List ℕ
body_in (tree T) = body_of T
body_in (stop U) = []

-- on 0: "order and build: node count"; "order and build write the body and change nothing behind it", for the room o
abbrev pub build_done : Outcome → Written
build_done R = record { nodes = nodes_in R }

abbrev pub build_room : Outcome → List ℕ → List ℕ
build_room R o = written o (body_in R)

-- "Build: 2, 7, 8, 9 (room under 4n - 2 bytes), 10", with 15 and 16 after 8
abbrev pub build_looks : ℕ → ℕ → List ℕ → ℕ → List Look
build_looks n s t l = input_looks n s t l ++ (look_outcome (outcome n s t) ∷ [])

-- ---- the triples looked at. Request T-09: "Each build now also returns the number of triples it looked at"

-- that number, for the plain build (false) or the veto build (true)
unfoldable pub looked_by : Bool → ℕ → ℕ → List ℕ → ℕ
looked_by v n s t = looked v (entered t) n (has s)

-- It stands beside the answer, where c triples were looked at: 0 returns it;
abbrev pub counted_done : ℕ → Written → Counted
counted_done c w = record { answer = Ok w; looked = c }

-- "refusal 10 returns it, any other returns 0 for it".
abbrev pub counted_refused : ℕ → Refusal → Counted
counted_refused c x = record { answer = Err x; looked = cond (eqb (refusal_told x).number 10) c 0 }

-- ---- the contract

-- c triples are looked at; the looks l, then 10: o is the room before, r the answer, o' the room after
abbrev pub Raises : ℕ → Outcome → List Look → List ℕ → Counted → List ℕ → Type 0
Raises c R l o r o' = Settled (counted_done c) (counted_refused c) (l ++ (look_outcome R ∷ [])) (build_done R) (build_room R o) o r o'

abbrev pub Builds : ℕ → ℕ → List ℕ → List ℕ → Counted → List ℕ → Type 0
Builds n s t o r o' = Raises (looked_by false n s t) (outcome n s t) (input_looks n s t (length o)) o r o'

abbrev pub build_answer : ℕ → ℕ → List ℕ → ℕ → Counted
build_answer n s t l = answered (counted_done (looked_by false n s t)) (counted_refused (looked_by false n s t)) (first_refusal (build_looks n s t l)) (build_done (outcome n s t))

abbrev pub build_after : ℕ → ℕ → List ℕ → List ℕ → List ℕ
build_after n s t o = after (first_refusal (build_looks n s t (length o))) (build_room (outcome n s t) o) o

-- ---- what is told

-- the answer alone
abbrev pub answer_told : Result Written Refusal → Told
answer_told = told_by written_told

-- and behind its values the number of triples looked at, whatever the answer is
abbrev pub build_told : Counted → Told
build_told r = record { number = (answer_told r.answer).number; values = (answer_told r.answer).values ++ (value looked_count r.looked ∷ []); rule = (answer_told r.answer).rule }
