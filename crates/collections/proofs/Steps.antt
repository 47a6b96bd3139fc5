-- One tree, and one turn of the loop over the trees, as the code takes them. Assumes nothing.
use mathlib.Core.Bool.{false}
use mathlib.Core.List.{List}
use mathlib.Core.Path.{◌∙◌, ◌≡◌, ap, ap₂, refl, sym}
use Prim.Native.Nat.{◌+◌, ◌-◌, ◌<◌, ◌≤◌, suc, ℕ}
use native.Mathlib.Numerals.{add-one}
use native.Mathlib.Omega.{arith}
use borrow.Author.Tests.{le-ltb, lt-ltb, ltb-false}
use lib.ListN.{drop, length, take}
use Rattle.rules.specs.Faults.{fault}
use Rattle.bodies.specs.Nodes.{Good, bad_length, nodes}
use Rattle.answers.proofs.Answered.{first_on, first_stop, pass_false, then_nothing, then_pass}
use Rattle.answers.proofs.Good.{rules_pass}
use Rattle.answers.specs.Looks.{answered, first_refusal, look_length, look_rules, refuse_if, ruled}
use Rattle.answers.specs.Looks.{Look}
use Rattle.refusals.specs.declared.Refusal.{Refusal}
use Rattle.refusals.specs.declared.Refusal.TheVariants.{EndsEarly, LeftOver}
use Rattle.collections.proofs.Starts.{start-step}
use Rattle.collections.specs.Layout.{body_at, length_at, short_body, short_length, species, start}
use Rattle.collections.specs.Reads.{looks_from, next_of, tree_looks}
use Rattle.std.specs.Prelude.{Ok, Err, Result}
use Rattle.bodies.specs.declared.Broken.{Broken}

-- what the verdict on the body leads to
abbrev pub onward : Result (Unit {0}) Broken → ℕ → Result ℕ Refusal
onward v p = answered Ok Err (ruled v) p

module _ (b : List ℕ) (k at : ℕ) (e : at ≡ start b k) where
  at-start : length_at b at ≡ length_at b (start b k)
  at-start = ap (length_at b) e

  module _ (long : at + 2 ≤ length b) where
    past_short : short_length b k ≡ false
    past_short = le-ltb (length b) (start b k + 2) (omega arith)

    module _ (fine : bad_length (length_at b at) ≡ false) where
      past_wrong : bad_length (length_at b (start b k)) ≡ false
      past_wrong = ap bad_length (sym at-start) ∙ fine

      pub next-cut : length b < at + 2 + length_at b at → Err (EndsEarly k) ≡ next_of b k
      next-cut h = rw (past_short, past_wrong, lt-ltb (length b) (start b (suc k)) (omega (arith, start-step b k, at-start))) refl

      pub next-ruled : (v : Result (Unit {0}) Broken) → at + 2 + length_at b at ≤ length b → v ≡ fault k (nodes (take (length_at b at) (drop (at + 2) b))) (species b)
          → onward v (at + 2 + length_at b at) ≡ next_of b k
      next-ruled v h q =
          let j : v ≡ fault k (nodes (body_at b k)) (species b) = q ∙ ap (λ (p : ℕ). fault k (nodes (take (length_at b p) (drop (p + 2) b))) (species b)) e in
          let s : at + 2 + length_at b at ≡ start b (suc k) = omega (arith, start-step b k, at-start) in
          ap₂ onward j s ∙ sym (rw (past_short, past_wrong, le-ltb (length b) (start b (suc k)) (omega arith), then_nothing) refl)

-- the same as the code has it: the length l was read, it is good, and the body lies inside the bytes
pub judged : (b : List ℕ) (k at n l : ℕ) (v : Result (Unit {0}) Broken) → at ≡ start b k → at + 2 + l ≤ length b → n ≡ species b → l ≡ length_at b at → bad_length l ≡ false
    → v ≡ fault k (nodes (take (at + 2 + l - (at + 2)) (drop (at + 2) b))) n → onward v (at + 2 + l) ≡ next_of b k
judged b k at n l v e h s q f w =
    let m : at + 2 + l - (at + 2) ≡ length_at b at = omega (arith, q) in
    ap (λ (x : ℕ). onward v (at + 2 + x)) q
    ∙ next-ruled b k at e (omega arith) (ap bad_length (sym q) ∙ f) v (omega (arith, q))
    (w ∙ ap₂ (λ (x i : ℕ). fault k (nodes (take x (drop (at + 2) b))) i) m s)

-- ---- one turn of the loop

next_pass : (k : Look) (p q : ℕ) → answered Ok Err k q ≡ Ok p → (k ≡ Ok tt) × (p ≡ q)
next_pass (Ok _) p q e = let z : q ≡ p = cc in (refl, sym z)
next_pass (Err x) p q e = let z : ◌≡◌ {A = ℕ} 0 1 = cc in absurd (omega arith)

next_refuse : (k : Look) (x : Refusal) (q : ℕ) → answered Ok Err k q ≡ Err x → k ≡ Err x
next_refuse (Ok _) x q e = let z : ◌≡◌ {A = ℕ} 0 1 = cc in absurd (omega arith)
next_refuse (Err y) x q e = let z : y ≡ x = cc in ap Err z

-- what is so of tree k in a good collection
abbrev pub Sound : List ℕ → ℕ → Type 0
Sound b k = (start b (suc k) ≤ length b) × (bad_length (length_at b (start b k)) ≡ false) × Good (species b) (nodes (body_at b k))

-- where the next tree starts, this one was good
pub next-at : (b : List ℕ) (k p : ℕ) → next_of b k ≡ Ok p → (p ≡ start b (suc k)) × Sound b k
next-at b k p h =
    let q = next_pass (first_refusal (tree_looks b k)) p _ h in
    let r = (then_pass (refuse_if (short_length b k) (EndsEarly k)) _).0 q.0 in
    let s = (then_pass (look_length k (length_at b (start b k))) _).0 r.1 in
    let t = (then_pass (refuse_if (short_body b k) (EndsEarly k)) _).0 s.1 in
    let u = (then_pass (look_rules k (species b) (body_at b k)) _).0 t.1 in
    let w : Sound b k = (
      ltb-false (length b) (start b (suc k)) (pass_false (short_body b k) _ t.0),
      pass_false (bad_length (length_at b (start b k))) _ s.0,
      (rules_pass k (species b) (body_at b k)).0 u.0,
    ) in
    (q.1, w)

-- a turn of a loop that has read k of m trees: on, or out with the refusal
pub turn_on : (b : List ℕ) (m k p : ℕ) → k < m → next_of b k ≡ Ok p → first_refusal (looks_from b k (m - k)) ≡ first_refusal (looks_from b (k + 1) (m - (k + 1)))
unfolding looks_from
turn_on b m k p l e =
    let z : m - k ≡ suc (m - (k + 1)) = omega arith in
    ap (λ (j : ℕ). first_refusal (looks_from b k j)) z ∙ first_on (tree_looks b k) (looks_from b (suc k) (m - (k + 1))) (next_pass (first_refusal (tree_looks b k)) p _ e).0
    ∙ ap (λ (j : ℕ). first_refusal (looks_from b j (m - (k + 1)))) (sym (add-one k))

pub turn_stop : (b : List ℕ) (m k : ℕ) (x : Refusal) → k < m → next_of b k ≡ Err x → first_refusal (looks_from b k (m - k)) ≡ Err x
unfolding looks_from
turn_stop b m k x l e =
    let z : m - k ≡ suc (m - (k + 1)) = omega arith in
    ap (λ (j : ℕ). first_refusal (looks_from b k j)) z ∙ first_stop (tree_looks b k) (looks_from b (suc k) (m - (k + 1))) x (next_refuse (first_refusal (tree_looks b k)) x _ e)

-- behind the last tree
pub end_left : (b : List ℕ) (k at : ℕ) → at ≡ start b k → at < length b → first_refusal (looks_from b k 0) ≡ Err (LeftOver (length b - at))
unfolding looks_from
end_left b k at e h = rw (lt-ltb (start b k) (length b) (omega arith)) (ap (λ (p : ℕ). Err (LeftOver (length b - p))) (sym e))

pub end_good : (b : List ℕ) (k at : ℕ) → at ≡ start b k → length b ≤ at → first_refusal (looks_from b k 0) ≡ Ok tt
unfolding looks_from
end_good b k at e h = rw (le-ltb (start b k) (length b) (omega arith)) refl
