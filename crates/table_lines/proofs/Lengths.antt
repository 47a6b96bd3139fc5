-- How long the lines of calls on collections and tables are at most. Assumes nothing.
use mathlib.Core.List.{List, [], ◌∷◌}
use mathlib.Core.Path.{◌∙◌, ◌≡◌, sym}
use Prim.Native.Nat.{ℕ, ◌+◌, ◌*◌, ◌≤◌}
use native.Mathlib.Omega.{arith}
use lib.ListN.{length, length-append}
use lib.Seq.{length-sets}
use Rattle.tables.proofs.Fillings.{table_length}
use Rattle.tables.specs.Filled.{plain}
use Rattle.answers.proofs.Answered.{first_append, then_pass}
use Rattle.answers.proofs.Good.{length_pass}
use Rattle.refusals.proofs.Numbers.{values_few}
use Rattle.refusals.specs.Told.{looked_count, value}
use Rattle.answers.specs.Looks.{first_refusal, look_count, look_table}
use Rattle.collections.specs.Layout.{species, trees}
use Rattle.collections.specs.Reads.{read_answer, read_looks, read_told}
use Rattle.listing.specs.Lists.{list_answer, list_looks, list_of, said_up_to}
use Rattle.records.specs.Records.{in_records}
use Rattle.entering.specs.Enters.{enter_answer, enter_looks, enter_of, enter_told}
use Rattle.admitting.specs.GoodSet.{input_looks}
use Rattle.building.specs.Builds.{answer_told, body_in, build_answer, build_looks, build_room, build_told, outcome}
use Rattle.building.specs.Vetoes.{veto_answer, vetoed}
use Rattle.building.specs.declared.Counted.{Counted}
use Rattle.reply_text.proofs.Lengths.{after_few, bare_few}
use Rattle.table_lines.specs.Lines.{build_line, enter_line, list_line, read_line, veto_line}
use Rattle.std.specs.Prelude.{Ok, Err, Result}
use Rattle.refusals.specs.declared.Refusal.{Refusal}
use Rattle.collections.specs.declared.Counts.{Counts}
use Rattle.entering.specs.declared.Entry.{Entry}
use Rattle.answers.specs.declared.Written.{Written}

-- ---- three values at most

read_values : (a : Result Counts Refusal) → length (read_told a).values ≤ 3
read_values (Ok c) = omega arith
read_values (Err x) = omega (arith, values_few x)

enter_values : (a : Result Entry Refusal) → length (enter_told a).values ≤ 3
enter_values (Ok e) = omega arith
enter_values (Err x) = omega (arith, values_few x)

answer_values : (a : Result Written Refusal) → length (answer_told a).values ≤ 2
answer_values (Ok w) = omega arith
answer_values (Err x) = values_few x

build_values : (r : Counted) → length (build_told r).values ≤ 3
build_values r = omega (arith, length-append (answer_told r.answer).values (value looked_count r.looked ∷ []), answer_values r.answer)

-- ---- a table that is listed or entered is as long as it was

list_length : (b : List ℕ) (l : ℕ) → first_refusal (list_looks b l) ≡ Ok tt → length (list_of b) ≡ l
list_length b l h =
    let p = ((then_pass (first_refusal (read_looks b)) (first_refusal (look_table (species b) l ∷ []))).0 (sym (first_append (read_looks b) (look_table (species b) l ∷ [])) ∙ h)).1 in
    table_length (species b) (said_up_to b (trees b)) ∙ sym ((length_pass (species b) l).0 ((then_pass (look_table (species b) l) (Ok tt)).0 p).0)

enter-length : (n : ℕ) (rs : List (List ℕ)) (l : ℕ) → first_refusal (enter_looks n rs l) ≡ Ok tt → length (enter_of n rs) ≡ l
enter-length n rs l h =
    let p = ((then_pass (look_count n) _).0 h).1 in
    table_length n (plain (in_records rs)) ∙ sym ((length_pass n l).0 ((then_pass (look_table n l) _).0 p).0)

-- ---- the lines

pub read_few : (b : List ℕ) → length (read_line b) ≤ 150
unfolding read_line
read_few b = bare_few (read_told (read_answer b)) (read_values (read_answer b))

pub list_few : (b t : List ℕ) → length (list_line b t) ≤ 21 * length t + 150
unfolding list_line
list_few b t = after_few (read_told (list_answer b (length t))) (first_refusal (list_looks b (length t))) (list_of b) t (read_values (list_answer b (length t))) (list_length b (length t))

pub enter_few : (n : ℕ) (rs : List (List ℕ)) (t : List ℕ) → length (enter_line n rs t) ≤ 21 * length t + 150
unfolding enter_line
enter_few n rs t = after_few (enter_told (enter_answer n rs (length t))) (first_refusal (enter_looks n rs (length t))) (enter_of n rs) t (enter_values (enter_answer n rs (length t))) (enter-length n rs (length t))

pub build_few : (n s : ℕ) (t o : List ℕ) → length (build_line n s t o) ≤ 21 * length o + 150
unfolding build_line
build_few n s t o = after_few (build_told (build_answer n s t (length o))) (first_refusal (build_looks n s t (length o))) (build_room (outcome n s t) o) o (build_values (build_answer n s t (length o))) (λ _. length-sets o 0 (body_in (outcome n s t)))

pub veto_few : (n s : ℕ) (t o : List ℕ) → length (veto_line n s t o) ≤ 21 * length o + 150
unfolding veto_line
veto_few n s t o = after_few (build_told (veto_answer n s t (length o))) (first_refusal (input_looks n s t (length o))) (build_room (vetoed n s t) o) o (build_values (veto_answer n s t (length o))) (λ _. length-sets o 0 (body_in (vetoed n s t)))
