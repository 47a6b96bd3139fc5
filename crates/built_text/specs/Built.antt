-- What `pull` prints of a table that is built over a set of species.
use Rattle.std.specs.Prelude.{cond, List, [], ◌++◌, ℕ, eqb, get_or, replicate, take}
use Rattle.bodies.specs.Nodes.{body_length, longest}
use Rattle.refusals.specs.Told.{Told, unnamed}
use Rattle.refusals.specs.Refusals.{refusal_told}
use Rattle.collections.specs.Layout.{trees}
use Rattle.building.specs.Builds.{build_after, build_answer}
use Rattle.building.specs.Vetoes.{veto_after, veto_answer}
use Rattle.species_text.specs.Lines.{species_line, tree_line}
use Rattle.sending.specs.Sends.{send_text}
use Rattle.papers_text.specs.Lines.{sides_text}
use Rattle.built_text.specs.Words.{built_words, open_words, quarrel_words}
use Rattle.std.specs.Prelude.{Ok, Err, Result}
use Rattle.refusals.specs.declared.Refusal.{Refusal}
use Rattle.answers.specs.declared.Written.{Written}

-- a built tree's body b: its line, and then what is said of it, with the table t of n species
abbrev pub tree_text : List ℕ → ℕ → List ℕ → List ℕ → List ℕ
tree_text w n t b = tree_line w b ++ send_text n t b

-- where the veto build left the room o: "`built, leaving that open: NEWICK`, the tree of the veto build of S"
abbrev pub open_text : ℕ → List ℕ → List ℕ → Result Written Refusal → List ℕ
open_text n t o (Ok w) = tree_text open_words n t (take (body_length w.nodes) o)
open_text n t o (Err x) = []

abbrev pub veto_text : ℕ → ℕ → List ℕ → List ℕ
veto_text n s t = open_text n t (veto_after n s t (replicate longest 0)) (veto_answer n s t longest).answer

-- "`the papers quarrel over X Y Z` [..]; then for each paper one line", and the tree that leaves it open, for the set u
abbrev pub stopped_text : List ℕ → ℕ → ℕ → List ℕ → ℕ → List ℕ
stopped_text c n s t u = species_line quarrel_words u ++ (sides_text u c (trees c) ++ veto_text n s t)

-- the plain build of the set s of the papers c refused: "refusal 10 with the set U"; no other refusal occurs
abbrev pub quarrel_text : List ℕ → ℕ → ℕ → List ℕ → Told → List ℕ
quarrel_text c n s t a = cond (eqb a.number 10) (stopped_text c n s t (get_or (unnamed a.values) 0 0)) []

-- where the plain build left the room o: "a tree: `built: NEWICK`"
abbrev pub plain_text : List ℕ → ℕ → ℕ → List ℕ → List ℕ → Result Written Refusal → List ℕ
plain_text c n s t o (Ok w) = tree_text built_words n t (take (body_length w.nodes) o)
plain_text c n s t o (Err x) = quarrel_text c n s t (refusal_told x)

abbrev pub built_text : List ℕ → ℕ → ℕ → List ℕ → List ℕ
built_text c n s t = plain_text c n s t (build_after n s t (replicate longest 0)) (build_answer n s t longest).answer
