-- The question which triple has a given index, and what is laid down with its answer.
use Rattle.triples.specs.declared.Triple.{Triple}
use Rattle.std.specs.Prelude.{List, [], ◌∷◌, ℕ, Option, Some, None}

-- Is there a triple with a given index? Document 01 names no refusal for an index beyond its triples ("(61,62,63) has 41,663"), so this is a question:
-- 1 for yes, 0 for no
abbrev pub triple_answer : Option Triple → ℕ
triple_answer (Some t) = 1
triple_answer None = 0

-- and what is laid down with it: "three species a < b < c", or nothing
abbrev pub triple_species : Option Triple → List ℕ
triple_species (Some t) = t.low ∷ t.mid ∷ t.high ∷ []
triple_species None = []
