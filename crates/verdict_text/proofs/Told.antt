-- The line of the check, answer by answer, and how long it is. Assumes nothing.
use mathlib.Core.Bool.{Bool, cond, false, true}
use mathlib.Core.List.{List, [], ◌∷◌, ◌++◌}
use mathlib.Core.Path.{◌∙◌, ◌≡◌, ap, sym}
use Prim.Native.Nat.{ℕ, ◌≤◌}
use native.Mathlib.Omega.{arith}
use lib.Dec.{eqb}
use lib.ListN.{length, length-append}
use Rattle.trees.specs.Trees.{Tree}
use Rattle.triples.specs.Named.{named}
use Rattle.std.specs.Prelude.{Option, None, Some}
use Rattle.triples.specs.declared.Triple.{Triple}
use Rattle.bodies.specs.Draws.{tree_of}
use Rattle.groups.specs.Groups.{says}
use Rattle.groups.specs.declared.Says.{Says}
use Rattle.groups.specs.declared.Says.TheVariants.{AB, AC, Absent, BC, Fan}
use Rattle.refusals.proofs.Numbers.{places_but}
use Rattle.refusals.specs.Told.{Told}
use Rattle.refusals.specs.declared.Refusal.{Refusal}
use Rattle.refusals.specs.declared.Refusal.TheVariants.{Unforced}
use Rattle.checking.specs.Checks.{check_answer, check_told}
use Rattle.writing.proofs.Digits.{decimal_few}
use Rattle.writing.specs.Texts.{decimal, ended}
use Rattle.verdict_text.specs.Verdict.{closer_text, index_in, said_text, told_text, triple_text, verdict_text}
use Rattle.verdict_text.specs.Words.{and_word, closer_words, own_words, unforced_words}
use Rattle.std.specs.Prelude.{Err, Result}

-- ---- every refusal but 12

-- their places in the list of all
abbrev pub others : List ℕ
others = places_but (12 ∷ [])

-- ---- the answer a of the check

module _ (n : ℕ) (t b : List ℕ) (a : Result (Unit {0}) Refusal) (e : a ≡ check_answer n t b) where
  verdict_is : told_text b (check_told a) ≡ verdict_text n t b
  verdict_is = ap (λ (z : Result (Unit {0}) Refusal). told_text b (check_told z)) e

  module _ (x : Refusal) (p : a ≡ Err x) where
    refused_is : told_text b (check_told (Err x)) ≡ verdict_text n t b
    refused_is = ap (λ (z : Result (Unit {0}) Refusal). told_text b (check_told z)) (sym p) ∙ verdict_is

    pub unforced-told : (i : ℕ) → x ≡ Unforced i → triple_text (tree_of b) (named i) ≡ verdict_text n t b
    unforced-told i q = ap (λ (z : Refusal). told_text b (check_told (Err z))) (sym q) ∙ refused_is

-- ---- how long it is

closer_few : (a b c : ℕ) → length (closer_text a b c) ≤ 122
closer_few a b c =
    let third = closer_words ++ decimal c in
    let second = and_word ++ (decimal b ++ third) in
    omega (
      arith,
      length-append (unforced_words ++ (decimal a ++ second)) (10 ∷ []),
      length-append unforced_words (decimal a ++ second),
      length-append (decimal a) second,
      length-append and_word (decimal b ++ third),
      length-append (decimal b) third,
      length-append closer_words (decimal c),
      decimal_few a,
      decimal_few b,
      decimal_few c,
    )

said_few : (x : Triple) (s : Says) → length (said_text x s) ≤ 122
said_few x AB = closer_few x.low x.mid x.high
said_few x AC = closer_few x.low x.high x.mid
said_few x BC = closer_few x.mid x.high x.low
said_few x Fan = omega arith
said_few x Absent = omega arith

triple_few : (T : Tree) (k : Option Triple) → length (triple_text T k) ≤ 122
triple_few T (Some x) = said_few x (says T x.low x.mid x.high)
triple_few T None = omega arith

either_few : (b : Bool) (l m : List ℕ) → length l ≤ 122 → length m ≤ 122 → length (cond b l m) ≤ 122
either_few true l m h k = h
either_few false l m h k = k

told_few : (b : List ℕ) (r : Told) → length (told_text b r) ≤ 122
told_few b r = either_few (eqb r.number 0) (ended own_words) _ (omega arith)
    (either_few (eqb r.number 12) (triple_text (tree_of b) (named (index_in r.values))) [] (triple_few (tree_of b) (named (index_in r.values))) (omega arith))

pub verdict_few : (n : ℕ) (t b : List ℕ) → length (verdict_text n t b) ≤ 122
verdict_few n t b = told_few b (check_told (check_answer n t b))
