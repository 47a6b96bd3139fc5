-- What is told of a build and of a collection, answer by answer. Assumes nothing.
use mathlib.Core.List.{List, [], ◌∷◌, ◌++◌}
use mathlib.Core.Path.{◌∙◌, ◌≡◌, ap, refl, sym}
use Prim.Native.Nat.{ℕ, ◌-◌, ◌<◌, ◌≤◌}
use native.Mathlib.Omega.{arith}
use borrow.Author.Tests.{eq-eqb}
use lib.ListN.{drop, get_or, length, length-append, length-drop, length-replicate, length-take, replicate, take}
use lib.Seq.{take_all}
use Rattle.triples.specs.Index.{C}
use Rattle.bodies.specs.Nodes.{body_length, longest}
use Rattle.answers.proofs.Answered.{first_on}
use Rattle.refusals.specs.Told.{unnamed}
use Rattle.answers.specs.Looks.{look_table}
use Rattle.collections.proofs.Whole.{read_done, read_pass}
use Rattle.collections.specs.Collection.{Collection}
use Rattle.collections.specs.Layout.{species}
use Rattle.collections.specs.Reads.{read_answer, read_looks}
use Rattle.collections.specs.declared.Counts.{Counts}
use Rattle.listing.specs.Lists.{list_after, list_of}
use Rattle.building.proofs.Fits.{done_fits}
use Rattle.building.specs.Builds.{answer_told, build_after, build_answer}
use Rattle.answers.specs.declared.Written.{Written}
use Rattle.checking.specs.Checks.{check_answer, check_told}
use Rattle.writing.proofs.Digits.{decimal_few}
use Rattle.writing.proofs.Spaced.{spaced_few}
use Rattle.writing.proofs.Writing.{whole_on, wrote_on_both}
use Rattle.writing.specs.Pages.{Page, wrote_on}
use Rattle.writing.specs.Texts.{decimal, ended, spaced}
use Rattle.shelf_text.specs.Shelf.{behind_text, body_text, build_word, build_numbers, check_word, read_word, read_numbers, read_text, shelf_text, shown_numbers, table_text}
use Rattle.shelf_text.specs.Texts.{line, numbers}
use Rattle.std.specs.Prelude.{Ok, Err, Result}
use Rattle.refusals.specs.declared.Refusal.{Refusal}

-- ---- the bytes of a body

pub numbers-none : (b : List ℕ) → length b ≡ 0 → 10 ∷ [] ≡ numbers b
numbers-none [] h = refl
numbers-none (n ∷ b) h = absurd (omega (arith, h))

-- the bytes behind the first one
others : (b : List ℕ) → take (length b - 1) (drop 1 b) ≡ drop 1 b
others b = take_all (length b - 1) (drop 1 b) (omega (arith, length-drop 1 b))

pub numbers_some : (b : List ℕ) (x : ℕ) → 0 < length b → x ≡ get_or b 0 0 → ended (decimal x ++ spaced (take (length b - 1) (drop 1 b))) ≡ numbers b
numbers_some [] x h e = absurd (omega (arith, h))
numbers_some (n ∷ b) x h e = rw (e, others (n ∷ b)) refl

-- ---- the numbers of a line, of the number k and the first c of four values v

-- ---- the build's answer a, its numbers x, and the room o that it left

module _ (n s : ℕ) (t o x : List ℕ) (a : Result Written Refusal) (p : x ≡ build_numbers a) (q : a ≡ (build_answer n s t longest).answer) (h : o ≡ build_after n s t (replicate longest 0)) where
  built_told : line build_word x ++ behind_text n t o a ≡ table_text n s t
  built_told = rw (p, h, q) refl

  pub done_told : (w : Written) (k : ℕ) → a ≡ Ok w → k ≡ body_length w.nodes → line build_word x ++ body_text n t (take k o) ≡ table_text n s t
  done_told w k e h = rw h (ap (λ (z : Result Written Refusal). line build_word x ++ behind_text n t o z) (sym e) ∙ built_told)

-- ---- how long the text is

shown_few : (k : ℕ) (vs : List ℕ) → length (shown_numbers k vs) ≤ 3
shown_few k vs = omega (arith, length-take 1 vs)

-- a line of a word and three numbers at most
line_few : (w ns : List ℕ) → length w ≤ 5 → length ns ≤ 3 → length (line w ns) ≤ 69
line_few w ns h k = simp length-append (omega (arith, spaced_few ns))

body_few : (b : List ℕ) → length b ≤ longest → length (numbers b) ≤ 5335
body_few [] h = omega arith
body_few (n ∷ b) h = simp length-append (omega (arith, decimal_few n, spaced_few b))

behind_few : (n s : ℕ) (t o : List ℕ) (a : Result Written Refusal) → a ≡ (build_answer n s t longest).answer → length (behind_text n t o a) ≤ 5404
behind_few n s t o (Ok w) e =
    let b = take (body_length w.nodes) o in
    let short : length b ≤ longest = simp length-take (omega (arith, done_fits n s t longest w (sym e))) in
    let c = check_told (check_answer n t b) in
    let ns = shown_numbers c.number (unnamed c.values) in
    omega (arith, length-append (numbers b) (line check_word ns), body_few b short, line_few check_word ns (omega arith) (shown_few c.number (unnamed c.values)))
behind_few n s t o (Err x) e = omega arith

table_few : (n s : ℕ) (t : List ℕ) → length (table_text n s t) ≤ 8192
table_few n s t =
    let a = (build_answer n s t longest).answer in
    let c = answer_told a in
    let ns = shown_numbers c.number (unnamed c.values) in
    let o = build_after n s t (replicate longest 0) in
    omega (arith, length-append (line build_word ns) (behind_text n t o a), line_few build_word ns (omega arith) (shown_few c.number (unnamed c.values)), behind_few n s t o a refl)

read_few : (b : List ℕ) (a : Result Counts Refusal) → length (read_text b a) ≤ 8192
read_few b (Ok c) = table_few c.n c.set (list_after b (replicate (C c.n 3) 0))
read_few b (Err x) = omega (arith, line_few read_word (read_numbers (Err x)) (omega arith) (omega arith))

shelf_few : (b : List ℕ) → length (shelf_text b) ≤ 8192
unfolding shelf_text
shelf_few b = read_few b (read_answer b)

-- ---- the collection

module _ (b : List ℕ) where
  -- what the table held does not matter
  pub list_whole : Collection b → (t : List ℕ) → length t ≡ C (species b) 3 → list_after b t ≡ list_of b
  list_whole w t h = rw (first_on (read_looks b) (look_table (species b) (length t) ∷ []) ((read_pass b).1 w), eq-eqb (length t) (C (species b) 3) h) refl

  module _ (a : Result Counts Refusal) (p : a ≡ read_answer b) where
    pub shelf_refused : (x : List ℕ) (y : Refusal) → a ≡ Err y → x ≡ read_numbers (Err y) → line read_word x ≡ shelf_text b
    unfolding shelf_text
    shelf_refused x y q e = ap (line read_word) e ∙ ap (read_text b) (sym q ∙ p)

    pub shelf_listed : (c : Counts) → a ≡ Ok c → table_text c.n c.set (list_of b) ≡ shelf_text b
    unfolding shelf_text
    shelf_listed c q =
        let d = read_done b c (sym p ∙ q) in
        let z : List ℕ = replicate (C c.n 3) 0 in
        let e : length z ≡ C (species b) 3 = length-replicate (C c.n 3) 0 ∙ ap (λ (k : Counts). C k.n 3) d.0 in
        ap (table_text c.n c.set) (sym (list_whole d.1 z e)) ∙ ap (read_text b) (sym q ∙ p)

  -- there is room for the whole text
  pub shelf_written : (p o o' : Page) (w : List ℕ) → 8192 ≤ p.room → o ≡ record p { text = [] } → w ≡ shelf_text b → o' ≡ wrote_on o w → o' ≡ record p { text = shelf_text b }
  shelf_written p o o' w r n e x =
      x ∙ ap (λ (z : Page). wrote_on z w) n ∙ whole_on p w (omega (arith, r, ap length e, shelf_few b)) ∙ ap (λ (t : List ℕ). record p { text = t }) e

-- v, which is u, behind w
pub two : (o o₁ o₂ : Page) (w v u : List ℕ) → o₁ ≡ wrote_on o w → o₂ ≡ wrote_on o₁ v → v ≡ u → o₂ ≡ wrote_on o (w ++ u)
two o o₁ o₂ w v u e f h = f ∙ ap (λ (z : Page). wrote_on z v) e ∙ wrote_on_both o w v ∙ ap (λ (z : List ℕ). wrote_on o (w ++ z)) h
