-- How long the line is at most. Assumes nothing.
use mathlib.Core.Bool.{Bool, cond, false, true}
use mathlib.Core.List.{List, [], ◌∷◌, ◌++◌}
use Prim.Native.Nat.{ℕ, ◌+◌, ◌*◌, ◌≤◌}
use native.Mathlib.Omega.{arith}
use lib.Dec.{eqb, ltb}
use lib.ListN.{get_or, length, length-append}
use Rattle.bodies.specs.declared.Fault.{Fault}
use Rattle.bodies.specs.declared.Fault.TheVariants.{BadParent, BadSpecies, OnlyChild, SeenBefore}
use Rattle.refusals.specs.declared.Refusal.{Refusal}
use Rattle.newick.specs.Form.{blank}
use Rattle.newick.specs.Texts.{longest_text}
use Rattle.writing.proofs.Digits.{decimal_few}
use Rattle.writing.specs.Texts.{decimal}
use Rattle.standing.specs.Expected.{between, expected, may_stand, nameless, names_from, sign_name, signs, standing}
use Rattle.refused_text.specs.Refused.{broken_text, byte_text, found, line_column, refused_line, text_in, visible, what_text, where_text, wrong_text}
use Rattle.refused_text.specs.Words.{byte_word, column_word, end_word, expected_word, found_word, highest_word, line_word, refused_word, species_word, then_word}
use Rattle.places.specs.Causes.{cause_of}
use Rattle.places.specs.NodePlaces.{place_in}
use Rattle.places.specs.declared.Cause.{Cause}
use Rattle.places.specs.declared.Cause.TheVariants.{AtNode, AtPlace, Other}
use Rattle.places.specs.declared.LineColumn.{LineColumn}

either_few : (c : Bool) (x y : List ℕ) (n : ℕ) → length x ≤ n → length y ≤ n → length (cond c x y) ≤ n
either_few true x y n h k = h
either_few false x y n h k = k

-- ---- the names

name_few : (b : ℕ) → length (sign_name b) ≤ 18
name_few b =
    either_few (eqb b 48) _ _ 18 (omega arith)
    (either_few (eqb b 40) _ _ 18 (omega arith)
    (either_few (eqb b 41) _ _ 18 (omega arith)
    (either_few (eqb b 44) _ _ 18 (omega arith)
    (either_few (eqb b 58) _ _ 18 (omega arith)
    (either_few (eqb b 46) _ _ 18 (omega arith) (omega arith))))))

between_few : (some : Bool) → length (between some) ≤ 4
between_few true = omega arith
between_few false = omega arith

nameless_few : (some : Bool) → length (nameless some) ≤ 12
nameless_few true = omega arith
nameless_few false = omega arith

names_few : (l : List ℕ) (some : Bool) → length (names_from some l) ≤ 22 * length l + 12
names_few [] some = nameless_few some
names_few (b ∷ l) some =
    omega (
      arith,
      length-append (between some) (sign_name b ++ names_from true l),
      length-append (sign_name b) (names_from true l),
      between_few some,
      name_few b,
      names_few l true,
    )

standing_few : (t : List ℕ) (q : ℕ) (l : List ℕ) → length (standing t q l) ≤ length l
unfolding standing
standing_few t q [] = omega arith
standing_few t q (b ∷ l) = let h = standing_few t q l in either_few (may_stand t q b) (b ∷ standing t q l) (standing t q l) (length (b ∷ l)) (omega arith) (omega arith)

expected_few : (t : List ℕ) (q : ℕ) → length (expected t q) ≤ 166
expected_few t q = omega (arith, names_few (standing t q signs) false, standing_few t q signs)

-- ---- what is wrong

byte_few : (b : ℕ) → length (byte_text b) ≤ 25
byte_few b =
    either_few (blank b) _ _ 25 (omega arith)
    (either_few (visible b) (39 ∷ b ∷ 39 ∷ []) _ 25 (omega arith) (omega (arith, length-append byte_word (decimal b), decimal_few b)))

found_few : (t : List ℕ) (q : ℕ) → length (found t q) ≤ 25
found_few t q = either_few (eqb q (length t)) end_word _ 25 (omega arith) (byte_few (get_or t q 0))

wrong_few : (t : List ℕ) (q : ℕ) → length (wrong_text t q) ≤ 208
wrong_few t q =
    either_few (ltb q longest_text) (found_word ++ (found t q ++ (expected_word ++ expected t q))) _ 208
    (omega (
      arith,
      length-append found_word (found t q ++ (expected_word ++ expected t q)),
      length-append (found t q) (expected_word ++ expected t q),
      length-append expected_word (expected t q),
      found_few t q,
      expected_few t q,
    ))
    (omega arith)

broken_few : (f : Fault) → length (broken_text f) ≤ 208
broken_few (BadParent p) = omega arith
broken_few (BadSpecies s) = omega (arith, length-append (species_word ++ decimal s) highest_word, length-append species_word (decimal s), decimal_few s)
broken_few (SeenBefore i) = omega arith
broken_few OnlyChild = omega arith

what_few : (t : List ℕ) (c : Cause) → length (what_text t c) ≤ 208
what_few t (AtPlace q) = wrong_few t q
what_few t (AtNode x) = broken_few x.fault
what_few t Other = omega arith

-- ---- the line

counted_few : (w : List ℕ) (n : ℕ) → length (w ++ decimal n) ≤ length w + 20
counted_few w n = omega (arith, length-append w (decimal n), decimal_few n)

where_few : (k : ℕ) (x : LineColumn) → length (where_text k x) ≤ 93
where_few k x =
    let a = refused_word ++ decimal k in
    let b = line_word ++ decimal x.line in
    let c = column_word ++ decimal x.column in
    omega (
      arith,
      length-append a (b ++ (c ++ then_word)),
      length-append b (c ++ then_word),
      length-append c then_word,
      counted_few refused_word k,
      counted_few line_word x.line,
      counted_few column_word x.column,
    )

pub refused_few : (w : List ℕ) (k start end : ℕ) (why : Refusal) → length (refused_line w k start end why) ≤ 302
unfolding refused_line
refused_few w k start end why =
    let t = text_in w start end in
    let c = cause_of why in
    let x = line_column w (start + place_in t c) in
    omega (arith, length-append (where_text k x) (what_text t c ++ (10 ∷ [])), length-append (what_text t c) (10 ∷ []), where_few k x, what_few t c)
