-- Document 01's table, "Numbers handed back": the number and the values of each refusal. A refusal more is a line more.
use Rattle.std.specs.Prelude.{List, [], ◌∷◌, ℕ}
use Rattle.refusals.specs.Told.{Told, byte_place, first_place, first_record, left_over, node_number, stopping_set, table_byte, told, tree_number, triple_index, value}
use Rattle.refusals.specs.declared.Refusal.{Refusal}
use Rattle.refusals.specs.declared.Refusal.TheVariants.{BadByte, BadCounts, BadLength, BadRecord, BadSet, BadTable, BadText, BadTree, BadVersion, Contradicted, EndsEarly, LeftOver, NoTree, Outside, ShortRoom, Unforced}
use Rattle.std.specs.Prelude.{Some, Result, Ok, Err}

abbrev pub refusal_told : Refusal → Told
refusal_told BadVersion = told 1 []
refusal_told BadCounts = told 2 []
refusal_told (EndsEarly k) = told 3 (value tree_number k ∷ [])
refusal_told (LeftOver m) = told 4 (value left_over m ∷ [])
refusal_told (BadLength k) = told 5 (value tree_number k ∷ [])
refusal_told (BadTree x) = record { number = 6; values = value tree_number x.tree ∷ value node_number x.node ∷ []; rule = Some x.fault }
refusal_told BadTable = told 7 []
refusal_told (BadByte i) = told 8 (value first_place i ∷ [])
refusal_told ShortRoom = told 9 []
refusal_told (NoTree u) = told 10 (value stopping_set u ∷ [])
refusal_told (Contradicted x) = told 11 (value triple_index x.index ∷ value table_byte x.byte ∷ [])
refusal_told (Unforced i) = told 12 (value triple_index i ∷ [])
refusal_told (BadRecord i) = told 13 (value first_record i ∷ [])
-- request T-01: "14 with the byte place"
refusal_told (BadText p) = told 14 (value byte_place p ∷ [])
-- request T-03: "15 for an empty set or one with a bit at n or above"
refusal_told BadSet = told 15 []
-- request T-03: "16 with the first triple"
refusal_told (Outside i) = told 16 (value triple_index i ∷ [])

-- what is told of an answer: what `tell` says of what 0 returns, or the refusal
abbrev pub told_by : {A : Type 0} → (A → Told) → Result A Refusal → Told
told_by tell (Ok a) = tell a
told_by tell (Err x) = refusal_told x

-- the numbers of the refusals, each at the place of its case
abbrev pub refusal_numbers : List ℕ
refusal_numbers = 1 ∷ 2 ∷ 3 ∷ 4 ∷ 5 ∷ 6 ∷ 7 ∷ 8 ∷ 9 ∷ 10 ∷ 11 ∷ 12 ∷ 13 ∷ 14 ∷ 15 ∷ 16 ∷ []
