-- The line of a text that is refused: "`refused: paper K, line L, column C: WHAT`".
use Rattle.std.specs.Prelude.{Bool, cond, ◌&&◌, List, [], ◌∷◌, ◌++◌, ℕ, ◌+◌, ◌-◌, eqb, leb, ltb, drop, get_or, length, take}
use Rattle.bodies.specs.declared.Fault.{Fault}
use Rattle.bodies.specs.declared.Fault.TheVariants.{BadParent, BadSpecies, OnlyChild, SeenBefore}
use Rattle.refusals.specs.declared.Refusal.{Refusal}
use Rattle.newick.specs.Form.{blank}
use Rattle.newick.specs.Texts.{longest_text}
use Rattle.writing.specs.Texts.{decimal}
use Rattle.standing.specs.Expected.{expected}
use Rattle.places.specs.LineColumns.{line_column_from}
use Rattle.places.specs.NodePlaces.{place_in}
use Rattle.places.specs.Causes.{cause_of}
use Rattle.refused_text.specs.Words.{blank_word, byte_word, column_word, end_word, expected_word, found_word, highest_word, line_word, long_word, no_tree_word, one_word, refused_word, species_word, then_word, twice_word}
use Rattle.places.specs.declared.Cause.{Cause}
use Rattle.places.specs.declared.Cause.TheVariants.{AtNode, AtPlace, Other}
use Rattle.places.specs.declared.LineColumn.{LineColumn}

-- "`a blank` for bytes 10, 13, 32; the byte itself in single quotes, as `'x'`, for bytes 33 to 126; else `byte B` in decimal"
abbrev pub visible : ℕ → Bool
visible b = leb 33 b && leb b 126

abbrev pub byte_text : ℕ → List ℕ
byte_text b = cond (blank b) blank_word (cond (visible b) (39 ∷ b ∷ 39 ∷ []) (byte_word ++ decimal b))

-- F: "`the end` if q is the text's length", else the byte there
abbrev pub found : List ℕ → ℕ → List ℕ
found t q = cond (eqb q (length t)) end_word (byte_text (get_or t q 0))

-- refusal 14 at place q of the text t: "`a text has at most 4096 bytes` if q is 4096 ..; else `found F, expected E`"; no place is behind 4096
abbrev pub wrong_text : List ℕ → ℕ → List ℕ
wrong_text t q = cond (ltb q longest_text) (found_word ++ (found t q ++ (expected_word ++ expected t q))) long_word

-- refusal 6: "a species that is 64 or more: `species S, and the highest is 63`; a species that stands twice: `this species stands twice`; a bracket with
-- one child: `this bracket has one child`; (a wrong parent cannot occur: `this is no tree`)"
abbrev pub broken_text : Fault → List ℕ
broken_text (BadParent p) = no_tree_word
broken_text (BadSpecies s) = (species_word ++ decimal s) ++ highest_word
broken_text (SeenBefore i) = twice_word
broken_text OnlyChild = one_word

-- WHAT: there is no other refusal (`no_other`)
abbrev pub what_text : List ℕ → Cause → List ℕ
what_text t (AtPlace q) = wrong_text t q
what_text t (AtNode x) = broken_text x.fault
what_text t Other = []

-- the line and the column of place p of the input w
abbrev pub line_column : List ℕ → ℕ → LineColumn
line_column w p = line_column_from 1 1 (take p w)

-- `refused: paper K, line L, column C: `
abbrev pub where_text : ℕ → LineColumn → List ℕ
where_text k x = (refused_word ++ decimal k) ++ ((line_word ++ decimal x.line) ++ ((column_word ++ decimal x.column) ++ then_word))

-- the bytes of w from `start` up to `end`
abbrev pub text_in : List ℕ → ℕ → ℕ → List ℕ
text_in w start end = take (end - start) (drop start w)

-- the line of paper k, whose text t begins at `start` in the input w; "The place is counted over the whole input"
abbrev pub refused_for : List ℕ → ℕ → ℕ → List ℕ → Cause → List ℕ
refused_for w k start t c = where_text k (line_column w (start + place_in t c)) ++ (what_text t c ++ (10 ∷ []))

-- the same where the text is the bytes of w from `start` up to `end`, and is refused with `why`
unfoldable pub refused_line : List ℕ → ℕ → ℕ → ℕ → Refusal → List ℕ
refused_line w k start end why = refused_for w k start (text_in w start end) (cause_of why)
