-- Building a tree even when papers quarrel. Request T-06: "where a set's links join it all, every species of that set becomes a leaf under it"; "Refusals: as the
-- plain build without 10." And T-09: "Both builds promise this", the number of triples looked at.
use Rattle.std.specs.Prelude.{true, List, ℕ, length}
use Rattle.trees.specs.Build.{Outcome}
use Rattle.answers.specs.Looks.{Settled, after, answered, first_refusal}
use Rattle.admitting.specs.GoodSet.{input_looks}
use Rattle.building.specs.Builds.{build_done, build_room, counted_done, counted_refused, looked_by, outcome_by}
use Rattle.building.specs.declared.Counted.{Counted}

-- the veto build of the set s, of n species and the table t
abbrev pub vetoed : ℕ → ℕ → List ℕ → Outcome
vetoed n s t = outcome_by true n s t

-- the number of triples that it looks at
abbrev pub veto_looked : ℕ → ℕ → List ℕ → ℕ
veto_looked n s t = looked_by true n s t

-- 2, 7, 8, 15, 16, 9: o is the room before, r the answer, o' the room after
abbrev pub Vetoes : ℕ → ℕ → List ℕ → List ℕ → Counted → List ℕ → Type 0
Vetoes n s t o r o' = Settled (counted_done (veto_looked n s t)) (counted_refused (veto_looked n s t)) (input_looks n s t (length o)) (build_done (vetoed n s t)) (build_room (vetoed n s t) o) o r o'

abbrev pub veto_answer : ℕ → ℕ → List ℕ → ℕ → Counted
veto_answer n s t l = answered (counted_done (veto_looked n s t)) (counted_refused (veto_looked n s t)) (first_refusal (input_looks n s t l)) (build_done (vetoed n s t))

abbrev pub veto_after : ℕ → ℕ → List ℕ → List ℕ → List ℕ
veto_after n s t o = after (first_refusal (input_looks n s t (length o))) (build_room (vetoed n s t) o) o
