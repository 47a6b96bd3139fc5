-- Runs of the build and the check, computed on the definitions: runs that tell readings of the check apart, worked examples of the papers, and document 01's
-- example after source 000. (The runs that document 01 marks stand over the operations' answers, in `promises`.)
use Rattle.std.specs.Prelude.{List, [], ◌∷◌, ◌≡◌, ℕ}
use Rattle.trees.specs.Build.{tree}
use Rattle.trees.specs.Trees.{Tree, cons, leaf, nil, node}
use Rattle.answers.specs.Looks.{first_refusal}
use Rattle.answers.specs.Looks.{Look}
use Rattle.refusals.specs.declared.Refusal.TheVariants.{NoTree, Unforced}
use Rattle.sets.specs.Sets.{upto}
use Rattle.building.specs.Builds.{look_outcome, outcome}
use Rattle.checking.specs.Checks.{triples_looks}
use Rattle.std.specs.Prelude.{Ok, Err}

pub data Run : Type 0 where
  -- the build of a table of n species gives this tree
  builds : ℕ → List ℕ → Tree → Run
  -- or it stops with this set
  stops : ℕ → List ℕ → ℕ → Run
  -- what comes of PC and PI, for a table of n species and a candidate
  checks : ℕ → List ℕ → Tree → Look → Run

abbrev pub Holds : List Run → Type 0
Holds [] = Unit {0}
Holds (builds n t T ∷ l) = (outcome n (upto n) t ≡ tree T) × Holds l
Holds (stops n t u ∷ l) = (look_outcome (outcome n (upto n) t) ≡ Err (NoTree u)) × Holds l
Holds (checks n t T k ∷ l) = (first_refusal (triples_looks n t T) ≡ k) × Holds l

-- 12 at index i
abbrev pub unforced : ℕ → Look
unforced i = Err (Unforced i)

-- ---- trees, as (t,u) and (t,u,v)

abbrev pub two : Tree → Tree → Tree
two t u = node (cons t (cons u nil))

abbrev pub three : Tree → Tree → Tree → Tree
three t u v = node (cons t (cons u (cons v nil)))

abbrev pub cherry : Tree
cherry = two (two (leaf 0) (leaf 1)) (leaf 2)

abbrev pub fan3 : Tree
fan3 = three (leaf 0) (leaf 1) (leaf 2)

abbrev pub nested4 : Tree
nested4 = two cherry (leaf 3)

-- Runs that tell readings of the check apart. R is not the whole table, with which the first one would pass. PI names the first triple whose
-- triplet is not forced: asking whether a and b are joined by the links on their group and its sibling would name another one in the second run, and
-- asking whether the group is joined beside its sibling in the third.
abbrev pub readings : List Run
readings =
    checks 4 (0 ∷ 0 ∷ 0 ∷ 3 ∷ []) cherry (unforced 0)
    ∷ checks 4 (1 ∷ 0 ∷ 0 ∷ 0 ∷ []) nested4 (unforced 1)
    ∷ checks 4 (0 ∷ 1 ∷ 0 ∷ 0 ∷ []) (two fan3 (leaf 3)) (unforced 2)
    ∷ []

-- Worked examples of the papers, the letters in order from 0. Source 000: two sources that share one species; two that share three; two that
-- order four species against each other; a fan beside a statement.
abbrev pub apart : Tree
apart = three (two (leaf 0) (leaf 1)) (two (leaf 2) (leaf 3)) (leaf 4)

abbrev pub apart_table : List ℕ
apart_table = 0 ∷ 0 ∷ 0 ∷ 0 ∷ 1 ∷ 0 ∷ 0 ∷ 0 ∷ 0 ∷ 1 ∷ []

abbrev pub papers : List Run
papers =
    builds 5 apart_table apart
    ∷ checks 5 apart_table apart (unforced 0)
    ∷ builds 4 (0 ∷ 1 ∷ 1 ∷ 0 ∷ []) (two fan3 (leaf 3))
    ∷ checks 4 (0 ∷ 1 ∷ 1 ∷ 0 ∷ []) (two fan3 (leaf 3)) (Ok tt)
    ∷ stops 4 (1 ∷ 3 ∷ 3 ∷ 3 ∷ []) 15
    ∷ checks 4 (1 ∷ 3 ∷ 3 ∷ 3 ∷ []) cherry (Ok tt)
    ∷ stops 4 (5 ∷ 1 ∷ 0 ∷ 0 ∷ []) 7
    ∷ checks 4 (5 ∷ 1 ∷ 0 ∷ 0 ∷ []) (two fan3 (leaf 3)) (unforced 2)
    ∷ []

-- Source 000's example 4, as document 01 tells it: n = 6, the trees ((0,1),2) and ((0,1),(3,(4,5))). The build leaves a gap between the two papers
-- open, and the check refuses the tree that hangs species 2 there, at index 9, triple (2,3,4).
abbrev pub gap : Tree
gap = three (two (leaf 0) (leaf 1)) (leaf 2) (two (leaf 3) (two (leaf 4) (leaf 5)))

abbrev pub gap_table : List ℕ
gap_table = 1 ∷ 1 ∷ 0 ∷ 0 ∷ 1 ∷ 0 ∷ 0 ∷ 4 ∷ 4 ∷ 0 ∷ 1 ∷ 0 ∷ 0 ∷ 4 ∷ 4 ∷ 0 ∷ 4 ∷ 4 ∷ 0 ∷ 4 ∷ []

abbrev pub example4 : List Run
example4 = builds 6 gap_table gap ∷ checks 6 gap_table gap (unforced 9) ∷ []
