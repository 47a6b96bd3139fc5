-- Runs of the check in the paper's words (request T-08), over a table of n species and a candidate: document 01's small runs on the check, and the worked examples of
-- the papers.
use Rattle.std.specs.Prelude.{List, [], ◌∷◌, ℕ}
use Rattle.sets.specs.Species.{below}
use Rattle.trees.specs.Check.{PI}
use Rattle.trees.specs.Induced.{PaperPC, PaperPI}
use Rattle.trees.specs.Trees.{Tree, cons, leaf, nil, node}
use Rattle.tables.specs.Bytes.{entered}
use Rattle.runs.specs.Runs.{apart, apart_table, cherry, fan3, gap, gap_table, nested4, three, two}

pub data PaperRun : Type 0 where
  -- PC and PI hold
  both_hold : ℕ → List ℕ → Tree → PaperRun
  -- PC holds, and PI does not
  pi_fails : ℕ → List ℕ → Tree → PaperRun
  -- PC does not
  pc_fails : ℕ → List ℕ → Tree → PaperRun

abbrev pub InPaper : List PaperRun → Type 0
InPaper [] = Unit {0}
InPaper (both_hold n t T ∷ l) = (PaperPC (entered t) (below n) T × PaperPI (entered t) (below n) T) × InPaper l
InPaper (pi_fails n t T ∷ l) = (PaperPC (entered t) (below n) T × (PaperPI (entered t) (below n) T → ⊥)) × InPaper l
InPaper (pc_fails n t T ∷ l) = (PaperPC (entered t) (below n) T → ⊥) × InPaper l

-- Document 01's small runs on the check: of ((0,1),2), of the fan, and of (((0,1),2),3), which is also source 000's ((A,B),C) with ((B,C),D); and its
-- example after source 000, ((A,B),W) with ((A,B),(X,(Y,Z))).
abbrev pub small_runs : List PaperRun
small_runs =
    pc_fails 3 (2 ∷ []) cherry
    ∷ pc_fails 3 (3 ∷ []) cherry
    ∷ pi_fails 3 (0 ∷ []) cherry
    ∷ both_hold 3 (1 ∷ []) cherry
    ∷ both_hold 3 (3 ∷ []) fan3
    ∷ both_hold 4 (1 ∷ 0 ∷ 0 ∷ 1 ∷ []) nested4
    ∷ pi_fails 6 gap_table gap
    ∷ []

-- Worked examples of the papers, the letters in order from 0: the table of ((A,B),D) with ((A,C),D)
abbrev pub shared : List ℕ
shared = 0 ∷ 1 ∷ 1 ∷ 0 ∷ []

-- of (((A,C),B),(E,F)) with (((A,D),B),C)
abbrev pub sides : List ℕ
sides = 3 ∷ 2 ∷ 2 ∷ 2 ∷ 1 ∷ 1 ∷ 1 ∷ 0 ∷ 0 ∷ 0 ∷ 1 ∷ 1 ∷ 1 ∷ 0 ∷ 0 ∷ 0 ∷ 4 ∷ 4 ∷ 4 ∷ 0 ∷ []

abbrev pub with_ef : Tree → Tree
with_ef t = two t (two (leaf 4) (leaf 5))

-- of (((A,D),B),((C,F),E)) with (((A,E),(B,F)),(C,D))
abbrev pub crossed : List ℕ
crossed = 1 ∷ 3 ∷ 6 ∷ 6 ∷ 3 ∷ 6 ∷ 6 ∷ 3 ∷ 3 ∷ 3 ∷ 5 ∷ 6 ∷ 6 ∷ 3 ∷ 3 ∷ 3 ∷ 5 ∷ 6 ∷ 6 ∷ 4 ∷ []

-- ((A,B),E) with ((C,D),E); the first of these tables with its tree, and with the three trees that resolve it; the second with a tree that takes a side, with one that leaves
-- all four open, and with one in between; (((A,E),B),C) with (((A,B),C),E), letters A B C E; ((A,B),C,X) with ((B,C),A); the third table, whose papers agree on ((A,B),C)
abbrev pub paper_runs : List PaperRun
paper_runs =
    pi_fails 5 apart_table apart
    ∷ both_hold 4 shared (two fan3 (leaf 3))
    ∷ pi_fails 4 shared nested4
    ∷ pi_fails 4 shared (two (two (two (leaf 0) (leaf 2)) (leaf 1)) (leaf 3))
    ∷ pi_fails 4 shared (two (two (leaf 0) (two (leaf 1) (leaf 2))) (leaf 3))
    ∷ pc_fails 6 sides (with_ef (two (two (two (leaf 0) (leaf 3)) (leaf 1)) (leaf 2)))
    ∷ pi_fails 6 sides (with_ef (node (cons (leaf 0) (cons (leaf 1) (cons (leaf 2) (cons (leaf 3) nil))))))
    ∷ both_hold 6 sides (with_ef (three (two (leaf 0) (leaf 3)) (leaf 1) (leaf 2)))
    ∷ both_hold 4 (1 ∷ 3 ∷ 3 ∷ 3 ∷ []) cherry
    ∷ pi_fails 4 (5 ∷ 1 ∷ 0 ∷ 0 ∷ []) (two fan3 (leaf 3))
    ∷ both_hold 6 crossed cherry
    ∷ []

-- Document 01's table 3 0 0 0, which no tree holds, and (((0,1),2),3): there document 01's PI holds, and the paper's does not.
abbrev pub WordsDiffer : Type 0
WordsDiffer = PI (entered (3 ∷ 0 ∷ 0 ∷ 0 ∷ [])) (below 4) nested4 × (PaperPI (entered (3 ∷ 0 ∷ 0 ∷ 0 ∷ [])) (below 4) nested4 → ⊥)
