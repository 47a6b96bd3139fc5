-- Good input is what the looks pass, and nothing else. Assumes nothing.
use mathlib.Core.List.{List, [], ◌∷◌}
use mathlib.Core.Logic.{◌↔◌}
use mathlib.Core.Path.{◌≡◌, refl}
use Prim.Native.Nat.{◌≤◌, ℕ}
use native.Mathlib.Omega.{arith}
use borrow.Author.Tests.{eq-eqb, eqb-false, eqb-true, le-ltb, ltb-false, ne_eqb, not-false}
use lib.Dec.{eqb, ltb}
use lib.ListN.{length}
use Rattle.sets.proofs.Bools.{or-none}
use Rattle.tables.proofs.Limits.{small_exactly}
use Rattle.tables.specs.Bytes.{wrong_byte, wrong_length}
use Rattle.triples.specs.Index.{C}
use Rattle.rules.proofs.Rules.{no_fault}
use Rattle.rules.specs.Faults.{fault}
use Rattle.bodies.specs.Nodes.{Good, bad_length, nodes}
use Rattle.answers.specs.Inputs.{Body, Count, Table}
use Rattle.answers.specs.Looks.{first_refusal, look_bytes, look_count, look_length, look_room, look_rules, look_table, ruled, wrong_count}
use Rattle.answers.proofs.Answered.{pass_false, then_pass}
use Rattle.std.specs.Prelude.{Ok, Err, Result}
use Rattle.bodies.specs.declared.Broken.{Broken}

pub count_pass : (n : ℕ) → (look_count n ≡ Ok tt) ↔ Count n
count_pass n = (
  (λ e. let h = or-none (eqb n 0) _ (pass_false (wrong_count n) _ e) in let z = eqb-false n 0 h.0 in record { some = omega arith; most = ltb-false 64 n h.1 }),
  λ c. let z : n ≡ 0 → ⊥ = λ e. omega (arith, c.some) in rw (ne_eqb n 0 z, le-ltb 64 n c.most) refl,
)

-- 7, and 9
pub length_pass : (n l : ℕ) → (look_table n l ≡ Ok tt) ↔ (l ≡ C n 3)
length_pass n l = ((λ e. eqb-true l (C n 3) (not-false _ (pass_false (wrong_length n l) _ e))), λ e. rw (eq-eqb l (C n 3) e) refl)

pub room_pass : (k l : ℕ) → (look_room k l ≡ Ok tt) ↔ (k ≤ l)
room_pass k l = ((λ e. ltb-false l k (pass_false (ltb l k) _ e)), λ h. rw (le-ltb l k h) refl)

ruled_pass : (v : Result (Unit {0}) Broken) → ruled v ≡ Ok tt → v ≡ Ok tt
ruled_pass (Ok _) e = refl
ruled_pass (Err x) e = let z : ◌≡◌ {A = ℕ} 0 1 = cc in absurd (omega arith)

-- 6
pub rules_pass : (k n : ℕ) (b : List ℕ) → (look_rules k n b ≡ Ok tt) ↔ Good n (nodes b)
rules_pass k n b = ((λ e. (no_fault k n (nodes b)).0 (ruled_pass (fault k (nodes b) n) e)), λ g. rw ((no_fault k n (nodes b)).1 g) refl)

-- 5 and 6
pub body_pass : (k n : ℕ) (b : List ℕ) → (first_refusal (look_length k (length b) ∷ look_rules k n b ∷ []) ≡ Ok tt) ↔ Body n b
body_pass k n b = (
  (λ e.
      let p = (then_pass (look_length k (length b)) _).0 e in
      let q = (then_pass (look_rules k n b) (Ok tt)).0 p.1 in
      record { good = (rules_pass k n b).0 q.0; long = pass_false (bad_length (length b)) _ p.0 }),
  λ g. rw (g.long, (no_fault k n (nodes b)).1 g.good) refl,
)

-- 7 and 8
pub table_pass : (n : ℕ) (t : List ℕ) → (first_refusal (look_table n (length t) ∷ look_bytes t ∷ []) ≡ Ok tt) ↔ Table n t
table_pass n t = (
  (λ e.
      let p = (then_pass (look_table n (length t)) _).0 e in
      let q = (then_pass (look_bytes t) (Ok tt)).0 p.1 in
      record { long = (length_pass n (length t)).0 p.0; small = (small_exactly t).0 (pass_false (wrong_byte t) _ q.0) }),
  λ g. rw (eq-eqb (length t) (C n 3) g.long, (small_exactly t).1 g.small) refl,
)
