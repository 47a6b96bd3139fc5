-- The line of the check of a built tree. "The check of that built tree, with the table: passes: `every group is the papers' own`; refusal 12 at a triple: `not forced by
-- the papers: A and B closer to each other than to C`, where AB|C is what the built tree says of the three species, A < B."
use Rattle.std.specs.Prelude.{cond, List, [], ◌∷◌, ◌++◌, ℕ, eqb, Option, None, Some}
use Rattle.trees.specs.Trees.{Tree}
use Rattle.triples.specs.Named.{named}
use Rattle.triples.specs.declared.Triple.{Triple}
use Rattle.bodies.specs.Draws.{tree_of}
use Rattle.groups.specs.Groups.{says}
use Rattle.groups.specs.declared.Says.{Says}
use Rattle.groups.specs.declared.Says.TheVariants.{AB, AC, Absent, BC, Fan}
use Rattle.refusals.specs.Told.{Told, Value}
use Rattle.checking.specs.Checks.{check_answer, check_told}
use Rattle.writing.specs.Texts.{decimal, ended}
use Rattle.verdict_text.specs.Words.{and_word, closer_words, own_words, unforced_words}

-- ab|c is not forced
abbrev pub closer_text : ℕ → ℕ → ℕ → List ℕ
closer_text a b c = ended (unforced_words ++ (decimal a ++ (and_word ++ (decimal b ++ (closer_words ++ decimal c)))))

-- what a tree says of a triple, and is not forced; a fan or a triple that is not all here says nothing
abbrev pub said_text : Triple → Says → List ℕ
said_text x AB = closer_text x.low x.mid x.high
said_text x AC = closer_text x.low x.high x.mid
said_text x BC = closer_text x.mid x.high x.low
said_text x Fan = []
said_text x Absent = []

-- the triple that an index stands for, in the tree T
abbrev pub triple_text : Tree → Option Triple → List ℕ
triple_text T (Some x) = said_text x (says T x.low x.mid x.high)
triple_text T None = []

-- the index that 12 returns
abbrev pub index_in : List Value → ℕ
index_in [] = 0
index_in (v ∷ l) = v.number

-- by the number that the check of the body b tells: 0 where it passes; 12 with its index; no text for any other
abbrev pub told_text : List ℕ → Told → List ℕ
told_text b r = cond (eqb r.number 0) (ended own_words) (cond (eqb r.number 12) (triple_text (tree_of b) (named (index_in r.values))) [])

abbrev pub verdict_text : ℕ → List ℕ → List ℕ → List ℕ
verdict_text n t b = told_text b (check_told (check_answer n t b))
