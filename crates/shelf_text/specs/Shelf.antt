-- What `shelf` prints. Document 01, "Small runs to compare": "Line 1 has the number and the node count; line 2 the body; line 3 the check's number,
-- with the triple index after it (index 0 too) unless the check's number is 0. Refusal 10 prints only `build 10` and the set in decimal. A
-- collection refused prints `read`, the number, tree number and node, with 0 for what that refusal lacks."
use Rattle.std.specs.Prelude.{cond, List, [], ◌∷◌, ◌++◌, ℕ, eqb, get_or, replicate, take}
use Rattle.triples.specs.Index.{C}
use Rattle.bodies.specs.Nodes.{body_length, longest}
use Rattle.refusals.specs.Told.{unnamed}
use Rattle.collections.specs.Reads.{read_answer, read_told}
use Rattle.listing.specs.Lists.{list_after}
use Rattle.building.specs.Builds.{answer_told, build_after, build_answer}
use Rattle.checking.specs.Checks.{check_answer, check_told}
use Rattle.shelf_text.specs.Texts.{line, numbers}
use Rattle.std.specs.Prelude.{Ok, Err, Result}
use Rattle.refusals.specs.declared.Refusal.{Refusal}
use Rattle.collections.specs.declared.Counts.{Counts}
use Rattle.answers.specs.declared.Written.{Written}

-- the words read, build, check
abbrev pub read_word : List ℕ
read_word = 114 ∷ 101 ∷ 97 ∷ 100 ∷ []

abbrev pub build_word : List ℕ
build_word = 98 ∷ 117 ∷ 105 ∷ 108 ∷ 100 ∷ []

abbrev pub check_word : List ℕ
check_word = 99 ∷ 104 ∷ 101 ∷ 99 ∷ 107 ∷ []

-- "the number, tree number and node, with 0 for what that refusal lacks": the first value and the second, but 4 returns the count of bytes left over
abbrev pub tree_in : ℕ → List ℕ → ℕ
tree_in k vs = cond (eqb k 4) 0 (get_or vs 0 0)

abbrev pub node_in : ℕ → List ℕ → ℕ
node_in k vs = cond (eqb k 4) 0 (get_or vs 1 0)

abbrev pub unread_numbers : ℕ → List ℕ → List ℕ
unread_numbers k vs = k ∷ tree_in k vs ∷ node_in k vs ∷ []

-- the number, and the first value where there is one: 0 with the node count, 10 with the set, 11 and 12 with the triple index
abbrev pub shown_numbers : ℕ → List ℕ → List ℕ
shown_numbers k vs = k ∷ take 1 vs

abbrev pub read_numbers : Result Counts Refusal → List ℕ
read_numbers a = unread_numbers (read_told a).number (unnamed (read_told a).values)

abbrev pub build_numbers : Result Written Refusal → List ℕ
build_numbers a = shown_numbers (answer_told a).number (unnamed (answer_told a).values)

abbrev pub check_numbers : Result (Unit {0}) Refusal → List ℕ
check_numbers a = shown_numbers (check_told a).number (unnamed (check_told a).values)

-- the body b, and the line of its check against the table t of n species
abbrev pub body_text : ℕ → List ℕ → List ℕ → List ℕ
body_text n t b = numbers b ++ line check_word (check_numbers (check_answer n t b))

-- behind the build's line, where the build left the room o: the body is as many of its first bytes as its nodes take
abbrev pub behind_text : ℕ → List ℕ → List ℕ → Result Written Refusal → List ℕ
behind_text n t o (Ok w) = body_text n t (take (body_length w.nodes) o)
behind_text n t o (Err x) = []

abbrev pub built_text : ℕ → List ℕ → List ℕ → Result Written Refusal → List ℕ
built_text n t o a = line build_word (build_numbers a) ++ behind_text n t o a

-- from a table of n species, over the set s: a room of zeros that holds the longest body
abbrev pub table_text : ℕ → ℕ → List ℕ → List ℕ
table_text n s t = built_text n t (build_after n s t (replicate longest 0)) (build_answer n s t longest).answer

-- once the collection b was read; its table was zeros before. Request T-03: the build is over the set that occurs, "where no species occurs it prints only `build 15`"
abbrev pub read_text : List ℕ → Result Counts Refusal → List ℕ
read_text b (Ok c) = table_text c.n c.set (list_after b (replicate (C c.n 3) 0))
read_text b (Err x) = line read_word (read_numbers (Err x))

unfoldable pub shelf_text : List ℕ → List ℕ
shelf_text b = read_text b (read_answer b)
