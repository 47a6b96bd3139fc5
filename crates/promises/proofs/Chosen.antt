-- What an operation gives back, by the first look that refuses: stated once, over any operation. Assumes nothing.
use mathlib.Core.List.{List, [], ◌++◌, ◌∷◌}
use mathlib.Core.Logic.{◌≢◌}
use mathlib.Core.Path.{◌≡◌, ap, ap₂, refl, subst}
use Prim.Native.Nat.{ℕ}
use native.Mathlib.Omega.{arith}
use borrow.Author.Tests.{ne_eqb}
use lib.ListN.{length, length-append}
use Rattle.answers.proofs.Answered.{kept, number-zero, told_first}
use Rattle.refusals.specs.Told.{Name, Told, Value, number_of_nodes, told, value}
use Rattle.answers.specs.Looks.{Settled, after, answered, first_refusal, look_told}
use Rattle.refusals.specs.Refusals.{refusal_told}
use Rattle.answers.specs.Looks.{Look}
use Rattle.refusals.specs.declared.Refusal.{Refusal}
use Rattle.answers.specs.declared.Written.{Written}
use Rattle.building.specs.Builds.{build_told, counted_done, counted_refused}
use Rattle.promises.specs.Operations.{gives}
use Rattle.promises.specs.Demand1.{Chosen, ChosenLooked, with_looked}
use Rattle.std.specs.Prelude.{Ok, Err}

-- an operation that tells w as 0 with vs, and a refusal by the table
module _ {A W B : Type 0} (tell : A → Told) (done : W → A) (refused : Refusal → A) (w : W) {vs : List Value} (e : tell (done w) ≡ told 0 vs) (g : (x : Refusal) → tell (refused x) ≡ refusal_told x) where
  pub chosen : (l : List Look) (m o : B) → Chosen l vs o (gives (tell (answered done refused (first_refusal l) w)) (after (first_refusal l) m o))
  chosen l m o =
      let t = told_first tell done refused w e g (first_refusal l) in
      record { told_is = t; kept = λ h. kept (first_refusal l) vs m o (subst (λ (r : Told). r.number ≡ 0 → ⊥) t h) }

-- no refusal has the number 0
pub refused_some : (x : Refusal) → (refusal_told x).number ≢ 0
refused_some x e = let w = (number-zero (Err x) []).0 e in let z : ◌≡◌ {A = ℕ} 0 1 = cc in absurd (omega arith)

-- either build: it tells the same, and behind it the c triples that it looked at, with 0 and 10
module _ (c : ℕ) (w : Written) where
  pub told-looked : (k : Look) → build_told (answered (counted_done c) (counted_refused c) k w) ≡ with_looked c (look_told k (value number_of_nodes w.nodes ∷ []))
  told-looked (Ok _) = refl
  told-looked (Err x) = rw (ne_eqb (refusal_told x).number 0 (refused_some x)) refl

  pub chosen_looked : {B : Type 0} (l : List Look) (m o : B)
      → ChosenLooked c l (value number_of_nodes w.nodes ∷ []) o (gives (build_told (answered (counted_done c) (counted_refused c) (first_refusal l) w)) (after (first_refusal l) m o))
  chosen_looked l m o =
      let t = told-looked (first_refusal l) in
      record { told_is = t; kept = λ h. kept (first_refusal l) _ m o (subst (λ (r : Told). r.number ≡ 0 → ⊥) t h) }

-- The contract says what is given: whatever meets it, an answer r and what was lent, now o', is this.
pub settled_gives : {A W B : Type 0} (tell : A → Told) {done : W → A} {refused : Refusal → A} {l : List Look} {w : W} {m o : B} {r : A} {o' : B} → Settled done refused l w m o r o'
    → gives (tell r) o' ≡ gives (tell (answered done refused (first_refusal l) w)) (after (first_refusal l) m o)
settled_gives tell s = ap₂ gives (ap tell s.is) s.holds

-- the last value that is told is known, and those before it
pub last_same : (us vs : List Value) (x y : Value) → us ++ (x ∷ []) ≡ vs ++ (y ∷ []) → (us ≡ vs) × (x ≡ y)
last_same [] [] x y e = let q : x ≡ y = cc in (refl, q)
last_same [] (v ∷ vs) x y e = absurd (omega (arith, ap length e, length-append vs (y ∷ [])))
last_same (u ∷ us) [] x y e = absurd (omega (arith, ap length e, length-append us (x ∷ [])))
last_same (u ∷ us) (v ∷ vs) x y e =
    let p : u ≡ v = cc in
    let q : us ++ (x ∷ []) ≡ vs ++ (y ∷ []) = cc in
    let r = last_same us vs x y q in
    (ap₂ ◌∷◌ p r.0, r.1)

-- where values are told, the first is known by its number
pub value_is : {j : ℕ} {x : Name} (k m : ℕ) {l l' : List Value} → told j (value x k ∷ l) ≡ told j (value x m ∷ l') → k ≡ m
value_is {x = x} k m {l} {l'} e =
    let v : (value x k ∷ l) ≡ (value x m ∷ l') = ap (λ (t : Told). t.values) e in
    let q : value x k ≡ value x m = cc in
    ap (λ (u : Value). u.number) q
