-- How long a line is at most: 21 bytes for each number that was lent, and 150 more. Assumes nothing.
use mathlib.Core.List.{List, [], ◌∷◌, ◌++◌}
use mathlib.Core.Path.{◌≡◌, ap, refl}
use Prim.Native.Nat.{ℕ, suc, ◌+◌, ◌*◌, ◌≤◌}
use native.Mathlib.Omega.{arith}
use lib.ListN.{length, length-append}
use Rattle.bodies.specs.declared.Fault.{Fault}
use Rattle.bodies.specs.declared.Fault.TheVariants.{BadParent, BadSpecies, SeenBefore, OnlyChild}
use Rattle.refusals.specs.Told.{Told, Value, unnamed}
use Rattle.answers.specs.Looks.{after}
use Rattle.answers.specs.Looks.{Look}
use Rattle.writing.proofs.Digits.{decimal_few}
use Rattle.writing.proofs.Spaced.{spaced_few}
use Rattle.writing.specs.Texts.{decimal, ended, spaced}
use Rattle.reply_text.specs.Text.{barred, fault_text, rule_text, told_text}
use Rattle.std.specs.Prelude.{Ok, Err}
use Rattle.std.specs.Prelude.{Ok, Err, Option, Some, None}

fault_few : (f : Fault) → length (fault_text f) ≤ 29
fault_few (BadParent p) = omega (arith, decimal_few p)
fault_few (BadSpecies s) = omega (arith, decimal_few s)
fault_few (SeenBefore i) = omega (arith, decimal_few i)
fault_few OnlyChild = omega arith

rule_few : (e : Option Fault) → length (rule_text e) ≤ 29
rule_few None = omega arith
rule_few (Some f) = fault_few f

unnamed-length : (vs : List Value) → length (unnamed vs) ≡ length vs
unnamed-length [] = refl
unnamed-length (v ∷ vs) = ap (λ (k : ℕ). suc k) (unnamed-length vs)

-- with three values at most
module _ (t : Told) (h : length t.values ≤ 3) where
  told_few : length (told_text t) ≤ 112
  told_few =
      let vs = unnamed t.values in
      omega
      (arith, length-append (decimal t.number) (spaced vs ++ rule_text t.rule), length-append (spaced vs) (rule_text t.rule), decimal_few t.number, spaced_few vs, unnamed-length t.values, rule_few t.rule, h)

  -- the line of what is told alone, and with the text of what was lent behind it
  pub bare_few : length (ended (told_text t)) ≤ 150
  bare_few = omega (arith, length-append (told_text t) (10 ∷ []), told_few)

  pub lent_few : (w : List ℕ) (k : ℕ) → length w ≤ 21 * k + 30 → length (ended (told_text t ++ w)) ≤ 21 * k + 150
  lent_few w k l = omega (arith, length-append (told_text t ++ w) (10 ∷ []), length-append (told_text t) w, told_few, l)

pub barred_few : (l : List ℕ) → length (barred l) ≤ 21 * length l + 2
barred_few l = omega (arith, spaced_few l)

-- what was lent stays as long as it was
after-length : (k : Look) (m o : List ℕ) → (k ≡ Ok tt → length m ≡ length o) → length (after k m o) ≡ length o
after-length (Ok _) m o h = h refl
after-length (Err x) m o h = refl

-- the line of what is told, with what an operation left of o behind it
pub after_few : (t : Told) (k : Look) (m o : List ℕ) → length t.values ≤ 3 → (k ≡ Ok tt → length m ≡ length o) → length (ended (told_text t ++ barred (after k m o))) ≤ 21 * length o + 150
after_few t k m o h l =
    let e = after-length k m o l in
    lent_few t h (barred (after k m o)) (length o) (omega (arith, barred_few (after k m o), e))
