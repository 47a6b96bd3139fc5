-- How long the lines of the papers of a collection are: the number of one of 16 papers has two digits at most. Assumes nothing.
use mathlib.Core.Bool.{Bool, cond, false, true}
use mathlib.Core.List.{List, [], ◌∷◌, ◌++◌}
use mathlib.Core.Path.{◌≡◌, refl}
use Prim.Native.Nat.{ℕ, zero, suc, ◌+◌, ◌*◌, ◌<◌, ◌≤◌}
use native.Mathlib.Nat.{pow-suc}
use native.Mathlib.Omega.{arith}
use borrow.Author.Tests.{leb-true}
use lib.Dec.{leb}
use lib.ListN.{length, length-append}
use Rattle.sets.specs.Sets.{has}
use Rattle.trees.specs.Trees.{house}
use Rattle.bodies.specs.Draws.{tree_of}
use Rattle.answers.specs.Inputs.{Body}
use Rattle.collections.specs.Collection.{Collection}
use Rattle.collections.specs.Layout.{body_at, species, trees}
use Rattle.writing.proofs.Digits.{decimal_short}
use Rattle.writing.specs.Texts.{decimal, ended}
use Rattle.species_text.proofs.Lengths.{tree_few}
use Rattle.species_text.specs.Lines.{tree_line}
use Rattle.cutting.proofs.Theorems.{cut-longest}
use Rattle.cutting.specs.Texts.{cut_text}
use Rattle.papers_text.proofs.Bodies.{body_64, body_good, one_of_16}
use Rattle.papers_text.proofs.Shared.{shares, some_nodes}
use Rattle.papers_text.specs.Lines.{cut_line', numbered, paper_line, papers_text, shared, side_line, sides_text}
use Rattle.papers_text.specs.Words.{colon_word, paper_word, says_words, silent_words}

number_few : (k : ℕ) → k < 16 → length (numbered k) ≤ 8
number_few k h = omega (arith, length-append paper_word (decimal (k + 1)), decimal_short 1 (k + 1) (omega (arith, pow-suc 10 1, pow-suc 10 0)))

-- what a paper with a good body says of the species of a set u
module _ (b : List ℕ) (g : Body 64 b) (u : ℕ) where
  cut_few : 3 ≤ shared u b → length (cut_line' u b) ≤ 325
  cut_few h =
      let l = cut_text (has u) (house (tree_of b)) ++ (59 ∷ []) in
      omega (arith, length-append (says_words ++ l) (10 ∷ []), length-append says_words l, cut-longest b g.good (some_nodes b g) (has u) (shares b g u h))

  said_few : (x : Bool) → leb 3 (shared u b) ≡ x → length (cond x (cut_line' u b) (ended silent_words)) ≤ 325
  said_few true e = cut_few (leb-true 3 (shared u b) e)
  said_few false e = omega arith

module _ (c : List ℕ) (w : Collection c) where
  pub papers_few : (k : ℕ) → k ≤ trees c → length (papers_text c k) ≤ 319 * k
  unfolding papers_text
  papers_few zero h = omega arith
  papers_few (suc k) h =
      let g = body_good c w k (omega arith) (body_at c k) refl (species c) refl in
      omega (
        arith,
        length-append (papers_text c k) (paper_line k (body_at c k)),
        length-append (numbered k) (tree_line colon_word (body_at c k)),
        papers_few k (omega arith),
        number_few k (one_of_16 c w k (omega arith)),
        tree_few g.0 g.1 colon_word,
      )

  pub sides_few : (u k : ℕ) → k ≤ trees c → length (sides_text u c k) ≤ 333 * k
  unfolding sides_text
  sides_few u zero h = omega arith
  sides_few u (suc k) h =
      let b = body_at c k in
      let said = cond (leb 3 (shared u b)) (cut_line' u b) (ended silent_words) in
      omega (
        arith,
        length-append (sides_text u c k) (side_line u k b),
        length-append (numbered k) said,
        sides_few u k (omega arith),
        number_few k (one_of_16 c w k (omega arith)),
        said_few b (body_64 c w k (omega arith) b refl) u (leb 3 (shared u b)) refl,
      )
