-- Every run in the paper's words holds: what decides the check is computed, and PC and PI are the paper's. Assumes nothing.
use mathlib.Core.Bool.{Bool, So, ◌&&◌, ◌||◌, not, true}
use mathlib.Core.List.{List, [], ◌∷◌}
use mathlib.Core.Logic.Iff
use mathlib.Core.Logic.{◌↔◌}
use mathlib.Core.Path.{◌∙◌, ◌≡◌, ap, fun_ext, refl, subst, sym}
use Prim.Native.Nat.{ℕ}
use native.Mathlib.Omega.{arith}
use borrow.Author.Tests.{le-leb, leb-true}
use lib.Dec.{leb}
use Rattle.sets.proofs.Bools.{and_l, and_r, not_e}
use Rattle.sets.proofs.Members.{all_below}
use Rattle.sets.specs.Sets.{digit, number}
use Rattle.sets.specs.Species.{Inside, below, members}
use Rattle.trees.proofs.Formed.{all_in', leaves_in}
use Rattle.trees.proofs.Paper.{pc_paper, pi_paper}
use Rattle.trees.proofs.VetoRuns.{quarrel}
use Rattle.trees.proofs.Words.{words_differ}
use Rattle.trees.specs.Check.{PI}
use Rattle.trees.specs.Induced.{PaperPC, PaperPI}
use Rattle.trees.specs.Links.{part}
use Rattle.trees.specs.Trees.{Tree, leaves, under, well_formed}
use Rattle.trees.specs.Triplets.{Triplets, only}
use Rattle.tables.proofs.Bytes.{entered-enter, entered_proper, entered-zeros}
use Rattle.tables.specs.Bytes.{bit_of, enter, entered, place_of}
use Rattle.triples.specs.Find.{at, first_from, first_triple}
use Rattle.triples.specs.Index.{C, high_at, index, largest, low_at, mid_at}
use Rattle.checking.proofs.Passing.{pc_first, pi_first}
use Rattle.checking.specs.Checks.{first_differs, first_unsure}
use Rattle.runs.specs.Paper.{InPaper, PaperRun, WordsDiffer, both_hold, paper_runs, pc_fails, pi_fails, small_runs}
use Rattle.runs.specs.Runs.{nested4}

-- ---- what is computed

-- T is a well-formed tree with species below n
abbrev good : ℕ → Tree → Bool
good n T = well_formed T && all_in' (below n) (leaves T)

-- nothing contradicts T; each of its triplets is forced
abbrev calm : ℕ → List ℕ → Tree → Bool
calm n t T = leb (C n 3) (first_differs n t T)

abbrev forced : ℕ → List ℕ → Tree → Bool
forced n t T = leb (C n 3) (first_unsure n t T)

abbrev computed : List PaperRun → Bool
computed [] = true
computed (both_hold n t T ∷ l) = (good n T && (calm n t T && forced n t T)) && computed l
computed (pi_fails n t T ∷ l) = (good n T && (calm n t T && not (forced n t T))) && computed l
computed (pc_fails n t T ∷ l) = (good n T && not (calm n t T)) && computed l

-- ---- what it says

module _ (n : ℕ) (t : List ℕ) (T : Tree) (g : So (good n T)) where
  formed : So (well_formed T)
  formed = and_l (well_formed T) _ g

  sub : Inside (under T) (below n)
  sub = leaves_in T (below n) (and_r (well_formed T) _ g)

  pc_calm : PaperPC (entered t) (below n) T ↔ So (calm n t T)
  pc_calm = Iff.trans (Iff.symm (pc_paper (entered t) (entered_proper t) n (below n) (all_below n) T formed sub))
      (Iff.trans (pc_first n t T formed sub) (le-leb (C n 3) (first_differs n t T), leb-true (C n 3) (first_differs n t T)))

  pi_forced : So (calm n t T) → PaperPI (entered t) (below n) T ↔ So (forced n t T)
  pi_forced h =
      let pc = (pc_first n t T formed sub).1 (leb-true (C n 3) (first_differs n t T) h) in
      Iff.trans (Iff.symm (pi_paper (entered t) (entered_proper t) n (below n) (all_below n) T formed sub pc))
      (Iff.trans (pi_first n t T formed sub pc) (le-leb (C n 3) (first_unsure n t T), leb-true (C n 3) (first_unsure n t T)))

by_computing : (l : List PaperRun) → So (computed l) → InPaper l
by_computing [] h = tt
by_computing (both_hold n t T ∷ l) h =
    let k = and_l (good n T && (calm n t T && forced n t T)) (computed l) h in
    let g = and_l (good n T) _ k in
    let d = and_r (good n T) _ k in
    let c = and_l (calm n t T) _ d in
    (((pc_calm n t T g).1 c, (pi_forced n t T g c).1 (and_r (calm n t T) _ d)), by_computing l (and_r (good n T && (calm n t T && forced n t T)) _ h))
by_computing (pi_fails n t T ∷ l) h =
    let k = and_l (good n T && (calm n t T && not (forced n t T))) (computed l) h in
    let g = and_l (good n T) _ k in
    let d = and_r (good n T) _ k in
    let c = and_l (calm n t T) _ d in
    (((pc_calm n t T g).1 c, λ pi. not_e (forced n t T) (and_r (calm n t T) _ d) ((pi_forced n t T g c).0 pi)), by_computing l (and_r (good n T && (calm n t T && not (forced n t T))) _ h))
by_computing (pc_fails n t T ∷ l) h =
    let k = and_l (good n T && not (calm n t T)) (computed l) h in
    ((λ pc. not_e (calm n t T) (and_r (good n T) _ k) ((pc_calm n t T (and_l (good n T) _ k)).0 pc)), by_computing l (and_r (good n T && not (calm n t T)) _ h))

-- ---- the runs

pub small_in_paper : InPaper small_runs
unfolding members digit number part C index largest high_at mid_at low_at place_of bit_of entered at first_from first_triple first_differs first_unsure
small_in_paper = by_computing small_runs refl

pub papers_in_paper : InPaper paper_runs
unfolding members digit number part C index largest high_at mid_at low_at place_of bit_of entered at first_from first_triple first_differs first_unsure
papers_in_paper = by_computing paper_runs refl

-- ---- where the words differ

-- the table 3 0 0 0 says 01|2 and 02|1, and nothing else
table_quarrel : entered (3 ∷ 0 ∷ 0 ∷ 0 ∷ []) ≡ quarrel
unfolding enter digit number C index place_of bit_of
table_quarrel = fun_ext (λ x. fun_ext (λ y. fun_ext (λ z.
    entered-enter (1 ∷ 0 ∷ 0 ∷ 0 ∷ []) 0 2 1 (omega arith) refl x y z
    ∙ ap (λ (p : Bool). p || only 0 2 1 x y z) (entered-enter (0 ∷ 0 ∷ 0 ∷ 0 ∷ []) 0 1 2 (omega arith) refl x y z ∙ ap (λ (p : Bool). p || only 0 1 2 x y z) (entered-zeros 4 x y z)))))

pub table_words_differ : WordsDiffer
table_words_differ = subst (λ (E : Triplets). PI E (below 4) nested4 × (PaperPI E (below 4) nested4 → ⊥)) (sym table_quarrel) (words_differ.2, words_differ.3)
