-- What comes of an order of looks: at most one answer and one content meet a contract of our form, the answer tells the first refusal's number and values, and a refusal
-- keeps what was lent. Stated once, over any operation. Assumes nothing.
use mathlib.Core.Bool.{Bool, false, true}
use mathlib.Core.List.{List, [], ◌∷◌, ◌++◌}
use mathlib.Core.Logic.{◌↔◌, ◌≢◌}
use mathlib.Core.Path.{◌∙◌, ◌≡◌, ap, refl, subst, sym}
use Prim.Native.Nat.{ℕ}
use native.Mathlib.Omega.{arith}
use Rattle.refusals.proofs.Numbers.{number_some}
use Rattle.refusals.specs.Told.{Told, Value, told}
use Rattle.answers.specs.Looks.{Settled, after, look_then, answered, first_refusal, look_told, refuse_if}
use Rattle.refusals.specs.Refusals.{refusal_told}
use Rattle.answers.specs.Looks.{Look}
use Rattle.refusals.specs.declared.Refusal.{Refusal}
use Rattle.std.specs.Prelude.{Ok, Err}

-- At most one answer, and one content of what is lent, meet the contract of an operation.
pub at_most_one : {A W B : Type 0} {done : W → A} {refused : Refusal → A} {l : List Look} {w : W} {m o : B} {r r' : A} {p p' : B} → Settled done refused l w m o r p → Settled done refused l w m o r' p'
    → (r ≡ r') × (p ≡ p')
at_most_one x y = (x.is ∙ sym y.is, x.holds ∙ sym y.holds)

-- ---- one look after the other

pub first_append : (l m : List Look) → first_refusal (l ++ m) ≡ look_then (first_refusal l) (first_refusal m)
first_append [] m = refl
first_append ((Ok _) ∷ l) m = first_append l m
first_append (Err x ∷ l) m = refl

pub first_stop : (l m : List Look) (x : Refusal) → first_refusal l ≡ Err x → first_refusal (l ++ m) ≡ Err x
first_stop l m x e = first_append l m ∙ ap (λ (k : Look). look_then k (first_refusal m)) e

pub first_on : (l m : List Look) → first_refusal l ≡ Ok tt → first_refusal (l ++ m) ≡ first_refusal m
first_on l m e = first_append l m ∙ ap (λ (k : Look). look_then k (first_refusal m)) e

pub then_nothing : (a : Look) → look_then a (Ok tt) ≡ a
then_nothing (Ok _) = refl
then_nothing (Err x) = refl

pub then_pass : (a b : Look) → (look_then a b ≡ Ok tt) ↔ ((a ≡ Ok tt) × (b ≡ Ok tt))
then_pass (Ok _) b = ((λ e. (refl, e)), λ p. p.1)
then_pass (Err y) b = ((λ e. let z : ◌≡◌ {A = ℕ} 0 1 = cc in absurd (omega arith)), λ p. p.0)

pub pass_false : (c : Bool) (x : Refusal) → refuse_if c x ≡ Ok tt → c ≡ false
pass_false true x e = let z : ◌≡◌ {A = ℕ} 0 1 = cc in absurd (omega arith)
pass_false false x e = refl

-- what it means that every look of an order passes, put together from its parts
pub pass_both : (l m : List Look) {P Q : Type 0} → (first_refusal l ≡ Ok tt) ↔ P → (first_refusal m ≡ Ok tt) ↔ Q → (first_refusal (l ++ m) ≡ Ok tt) ↔ (P × Q)
pass_both l m p q =
    let t = then_pass (first_refusal l) (first_refusal m) in
    ((λ e. let r = t.0 (sym (first_append l m) ∙ e) in (p.0 r.0, q.0 r.1)), λ x. first_append l m ∙ t.1 (p.1 x.0, q.1 x.1))

pub pass_one : (a : Look) {P : Type 0} → (a ≡ Ok tt) ↔ P → (first_refusal (a ∷ []) ≡ Ok tt) ↔ P
pass_one a p = ((λ e. p.0 (sym (then_nothing a) ∙ e)), λ x. then_nothing a ∙ p.1 x)

-- what is so of every refusal that the looks of an order can give
abbrev pub Each : (Refusal → Type 0) → List Look → Type 0
Each P [] = Unit {0}
Each P (a ∷ l) = ((x : Refusal) → a ≡ Err x → P x) × Each P l

pub first_among : (P : Refusal → Type 0) (l : List Look) → Each P l → (x : Refusal) → first_refusal l ≡ Err x → P x
first_among P [] h x e = let z : ◌≡◌ {A = ℕ} 0 1 = cc in absurd (omega arith)
first_among P ((Ok _) ∷ l) h x e = first_among P l h.1 x e
first_among P (Err y ∷ l) h x e = h.0 x e

pub refuse_one : (P : Refusal → Type 0) (c : Bool) (y : Refusal) → P y → (x : Refusal) → refuse_if c y ≡ Err x → P x
refuse_one P true y h x e = let z : y ≡ x = cc in subst P z h
refuse_one P false y h x e = let z : ◌≡◌ {A = ℕ} 0 1 = cc in absurd (omega arith)

-- ---- what comes of it

module _ {A W B : Type 0} {done : W → A} {refused : Refusal → A} {l : List Look} {w : W} {m o : B} where
  pub is_refused : (x : Refusal) → first_refusal l ≡ Err x → Settled done refused l w m o (refused x) o
  is_refused x e = record { is = rw e refl; holds = rw e refl }

  pub is_done : {w' : W} {o' : B} → first_refusal l ≡ Ok tt → w' ≡ w → o' ≡ m → Settled done refused l w m o (done w') o'
  is_done e p q = record { is = rw e (ap done p); holds = rw e q }

-- where the looks l pass, what comes of the looks m behind them
pub is_rest : {A W B : Type 0} {done : W → A} {refused : Refusal → A} (l : List Look) {m : List Look} {w : W} {n o : B} {r : A} {o' : B} → first_refusal l ≡ Ok tt
    → Settled done refused m w n o r o' → Settled done refused (l ++ m) w n o r o'
is_rest l {m} e s = let q = first_on l m e in record { is = rw q s.is; holds = rw q s.holds }

-- ---- what is told of it

zero_pass : (k : Look) (vs : List Value) → (look_told k vs).number ≡ 0 → k ≡ Ok tt
zero_pass (Ok _) vs e = refl
zero_pass (Err x) vs e = absurd (number_some x e)

pub number-zero : (k : Look) (vs : List Value) → ((look_told k vs).number ≡ 0) ↔ (k ≡ Ok tt)
number-zero k vs = (zero_pass k vs, λ e. ap (λ (a : Look). (look_told a vs).number) e)

pub kept : {B : Type 0} (k : Look) (vs : List Value) (m o : B) → (look_told k vs).number ≢ 0 → after k m o ≡ o
kept (Ok _) vs m o h = absurd (h refl)
kept (Err x) vs m o h = refl

-- an operation that tells w as 0 with vs, and a refusal by the table
pub told_first : {A W : Type 0} (tell : A → Told) (done : W → A) (refused : Refusal → A) (w : W) {vs : List Value} → tell (done w) ≡ told 0 vs → ((x : Refusal) → tell (refused x) ≡ refusal_told x)
    → (k : Look) → tell (answered done refused k w) ≡ look_told k vs
told_first tell done refused w e g (Ok _) = e
told_first tell done refused w e g (Err x) = g x
