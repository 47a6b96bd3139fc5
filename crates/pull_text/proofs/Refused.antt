-- The line of a paper that is refused is one line: none of its parts has byte 10. Assumes nothing.
use mathlib.Core.Bool.{Bool, So, cond, false, not, true}
use mathlib.Core.List.{List, [], ◌∷◌, ◌++◌, append_assoc}
use mathlib.Core.Path.{◌∙◌, ◌≡◌, ap, refl, sym}
use Prim.Native.Nat.{ℕ, zero, suc, ◌+◌, ◌/◌, ◌%◌}
use native.Mathlib.Omega.{arith}
use borrow.Author.Tests.{leb-true, ne_eqb}
use lib.Dec.{eqb, leb, ltb}
use lib.ListN.{get_or, length}
use Rattle.sets.proofs.Bools.{and_i, and_l, and_r}
use Rattle.bodies.specs.declared.Fault.{Fault}
use Rattle.bodies.specs.declared.Fault.TheVariants.{BadParent, BadSpecies, OnlyChild, SeenBefore}
use Rattle.refusals.specs.declared.Refusal.{Refusal}
use Rattle.newick.specs.Form.{blank}
use Rattle.newick.specs.Texts.{longest_text}
use Rattle.writing.specs.Texts.{decimal, digits_in, ended, glyph}
use Rattle.places.specs.Causes.{cause_of}
use Rattle.standing.specs.Expected.{between, expected, names_from, sign_name, signs, standing}
use Rattle.places.specs.NodePlaces.{place_in}
use Rattle.refused_text.specs.Refused.{broken_text, byte_text, found, line_column, refused_line, text_in, visible, what_text, where_text, wrong_text}
use Rattle.standing.specs.Words.{closing_word, colon_word, comma_word, digit_word, opening_word, point_word, semicolon_word}
use Rattle.refused_text.specs.Words.{blank_word, byte_word, column_word, end_word, expected_word, found_word, highest_word, line_word, long_word, refused_word, species_word, then_word}
use Rattle.places.specs.declared.Cause.{Cause}
use Rattle.places.specs.declared.Cause.TheVariants.{AtNode, AtPlace, Other}
use Rattle.places.specs.declared.LineColumn.{LineColumn}
use Rattle.papers_text.specs.Words.{paper_word}
use Rattle.pull_text.specs.Outcomes.{Refused, in_line, refused_words}
use Rattle.pull_text.specs.Words.{long_words, many_words, none_words}

abbrev Line : List ℕ → Type 0
Line l = So (in_line l)

both : (l m : List ℕ) → Line l → Line m → Line (l ++ m)
unfolding in_line
both [] m h k = k
both (b ∷ l) m h k = and_i (not (eqb b 10)) (in_line (l ++ m)) (and_l (not (eqb b 10)) (in_line l) h) (both l m (and_r (not (eqb b 10)) (in_line l) h) k)

either : (b : Bool) (l m : List ℕ) → Line l → Line m → Line (cond b l m)
either true l m h k = h
either false l m h k = k

-- one byte that is not 10
one : (b : ℕ) → (b ≡ 10 → ⊥) → Line (b ∷ [])
unfolding in_line
one b h = rw (ne_eqb b 10 h) refl

digits : (k n : ℕ) → Line (digits_in k n)
unfolding digits_in in_line
digits zero n = refl
digits (suc k) n = either (ltb n 10) (glyph n ∷ []) (digits_in k (n / 10) ++ (glyph (n % 10) ∷ [])) (one (48 + n) (λ e. omega arith))
    (both (digits_in k (n / 10)) (glyph (n % 10) ∷ []) (digits k (n / 10)) (one (48 + n % 10) (λ e. omega arith)))

counted : (w : List ℕ) → Line w → (n : ℕ) → Line (w ++ decimal n)
counted w h n = both w (decimal n) h (digits 20 n)

-- ---- what is wrong at a place

byte_line : (b : ℕ) → Line (byte_text b)
unfolding in_line
byte_line b = either (blank b) blank_word (cond (visible b) (39 ∷ b ∷ 39 ∷ []) (byte_word ++ decimal b)) refl (by (visible b) refl)
  where
    by : (o : Bool) → visible b ≡ o → Line (cond o (39 ∷ b ∷ 39 ∷ []) (byte_word ++ decimal b))
    by true e = let i = leb-true 33 b (and_l (leb 33 b) (leb b 126) e) in rw (ne_eqb b 10 (λ z. omega arith)) refl
    by false e = counted byte_word refl b

found-line : (t : List ℕ) (q : ℕ) → Line (found t q)
unfolding in_line
found-line t q = either (eqb q (length t)) end_word (byte_text (get_or t q 0)) refl (byte_line (get_or t q 0))

name_line : (b : ℕ) → Line (sign_name b)
unfolding in_line
name_line b = either (eqb b 48) digit_word _ refl (either (eqb b 40) opening_word _ refl (either (eqb b 41) closing_word _ refl (either (eqb b 44) comma_word _ refl
    (either (eqb b 58) colon_word _ refl (either (eqb b 46) point_word semicolon_word refl refl)))))

names_more : (l : List ℕ) → Line (names_from true l)
unfolding in_line
names_more [] = refl
names_more (b ∷ l) = both (between true) (sign_name b ++ names_from true l) refl (both (sign_name b) (names_from true l) (name_line b) (names_more l))

names_line : (l : List ℕ) → Line (names_from false l)
unfolding in_line
names_line [] = refl
names_line (b ∷ l) = both (sign_name b) (names_from true l) (name_line b) (names_more l)

wrong_line : (t : List ℕ) (q : ℕ) → Line (wrong_text t q)
unfolding in_line
wrong_line t q = either (ltb q longest_text) (found_word ++ (found t q ++ (expected_word ++ expected t q))) long_word
    (both found_word (found t q ++ (expected_word ++ expected t q)) refl (both (found t q) (expected_word ++ expected t q) (found-line t q) (both expected_word (expected t q) refl (names_line (standing t q signs))))) refl

-- ---- the whole line

broken_line : (f : Fault) → Line (broken_text f)
unfolding in_line
broken_line (BadParent p) = refl
broken_line (BadSpecies s) = both (species_word ++ decimal s) highest_word (counted species_word refl s) refl
broken_line (SeenBefore i) = refl
broken_line OnlyChild = refl

what_line : (t : List ℕ) (c : Cause) → Line (what_text t c)
unfolding in_line
what_line t (AtPlace q) = wrong_line t q
what_line t (AtNode x) = broken_line x.fault
what_line t Other = refl

-- the place, and what follows the paper's number
abbrev place : LineColumn → List ℕ
place x = (line_word ++ decimal x.line) ++ ((column_word ++ decimal x.column) ++ then_word)

abbrev rest : ℕ → LineColumn → List ℕ → Cause → List ℕ
rest k x t c = decimal k ++ (place x ++ what_text t c)

place_line : (x : LineColumn) → Line (place x)
unfolding in_line
place_line x =
    let column : List ℕ = column_word ++ decimal x.column in
    both (line_word ++ decimal x.line) (column ++ then_word) (counted line_word refl x.line) (both column then_word (counted column_word refl x.column) refl)

rest-line : (k : ℕ) (x : LineColumn) (t : List ℕ) (c : Cause) → Line (rest k x t c)
rest-line k x t c = both (decimal k) (place x ++ what_text t c) (digits 20 k) (both (place x) (what_text t c) (place_line x) (what_line t c))

paper_line_lem : Line paper_word
unfolding in_line
paper_line_lem = refl

line_is : (k : ℕ) (x : LineColumn) (t : List ℕ) (c : Cause) → where_text k x ++ (what_text t c ++ (10 ∷ [])) ≡ ended (refused_words ++ (paper_word ++ rest k x t c))
line_is k x t c =
    ap (λ (z : List ℕ). z ++ (what_text t c ++ (10 ∷ []))) (append_assoc refused_word (decimal k) (place x))
    ∙ append_assoc refused_word (decimal k ++ place x) (what_text t c ++ (10 ∷ []))
    ∙ ap (λ (z : List ℕ). refused_word ++ z) (
    sym (append_assoc (decimal k ++ place x) (what_text t c) (10 ∷ [])) ∙ ap (λ (z : List ℕ). z ++ (10 ∷ [])) (append_assoc (decimal k) (place x) (what_text t c))
    )

pub refused_one : (w : List ℕ) (k start end : ℕ) (why : Refusal) → Refused (refused_line w k start end why)
unfolding refused_line
refused_one w k start end why =
    let t = text_in w start end in
    let c = cause_of why in
    let x = line_column w (start + place_in t c) in
    record {
      rest = paper_word ++ rest k x t c;
      text = line_is k x t c;
      one = both paper_word (rest k x t c) paper_line_lem (rest-line k x t c);
    }

-- ---- the lines that do not speak of one paper

pub long_refused : Refused (ended long_words)
unfolding in_line
long_refused = record { rest = 109 ∷ 111 ∷ 114 ∷ 101 ∷ 32 ∷ 116 ∷ 104 ∷ 97 ∷ 110 ∷ 32 ∷ 54 ∷ 53 ∷ 53 ∷ 51 ∷ 54 ∷ 32 ∷ 98 ∷ 121 ∷ 116 ∷ 101 ∷ 115 ∷ []; text = refl; one = refl }

pub none_refused : Refused (ended none_words)
unfolding in_line
none_refused = record { rest = 110 ∷ 111 ∷ 32 ∷ 112 ∷ 97 ∷ 112 ∷ 101 ∷ 114 ∷ []; text = refl; one = refl }

pub many_refused : Refused (ended many_words)
unfolding in_line
many_refused = record { rest = 109 ∷ 111 ∷ 114 ∷ 101 ∷ 32 ∷ 116 ∷ 104 ∷ 97 ∷ 110 ∷ 32 ∷ 49 ∷ 54 ∷ 32 ∷ 112 ∷ 97 ∷ 112 ∷ 101 ∷ 114 ∷ 115 ∷ []; text = refl; one = refl }
