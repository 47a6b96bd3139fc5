-- How many triples a walk over the species of a set looks at, from the lowest species up: by Pascal's rule. Assumes nothing.
use mathlib.Core.Bool.{So}
use mathlib.Core.Path.{◌∙◌, ◌≡◌, ap, refl, subst, sym}
use Prim.Native.Nat.{◌+◌, ◌<◌, ◌^◌, ◌≤◌, suc, zero, ℕ}
use native.Mathlib.Omega.{arith}
use borrow.Author.Tests.{lt-ltb, ltb-true}
use Rattle.sets.proofs.Bools.{bool_ext, by_order}
use Rattle.sets.proofs.Digits.{ext_has}
use Rattle.sets.proofs.Facts.{minus_e, minus_empty, minus_i, single_e, single_i}
use Rattle.sets.proofs.Least.{lowest-least}
use Rattle.sets.proofs.Sizes.{size_empty, size-le, size-parts}
use Rattle.sets.proofs.Tests.{has_true, has-upto, true_has}
use Rattle.sets.specs.Sets.{has, meet, minus, single, size, upto}
use Rattle.sets.specs.Walks.{Turn}
use Rattle.sets.specs.Species.{Species}
use Rattle.trees.proofs.Combinations.{C-more, C-none, C-one, C-rule}
use Rattle.trees.specs.Combinations.{C}
use Rattle.triples.proofs.Indices.{halves, sixths}

-- ---- few enough for a number

pub C-zero : (n : ℕ) → C n 0 ≡ 1
unfolding C
C-zero n = refl

C-most : (k : ℕ) → k < 4 → C 64 k ≤ 41664
C-most zero h = omega (arith, C-zero 64)
C-most (suc zero) h = omega (arith, C-one 64)
C-most (suc (suc zero)) h = omega (arith, halves 64 (omega arith))
C-most (suc (suc (suc zero))) h = omega (arith, sixths 64 (omega arith))
C-most (suc (suc (suc (suc k)))) h = absurd (omega arith)

-- the sets of k among the species of s
pub few : (k s : ℕ) → k < 4 → s < 2 ^ 64 → C (size s) k ≤ 41664
few k s h hs = omega (arith, C-more k (size s) 64 (size-le 64 s hs), C-most k h)

-- ---- the walk

under_is : (k x : ℕ) → So (has (upto k) x) → x < k
under_is k x h = ltb-true x k (subst (λ (S : Species). So (S x)) (has-upto k) h)

is_under : (k x : ℕ) → x < k → So (has (upto k) x)
is_under k x l = subst (λ (S : Species). So (S x)) (sym (has-upto k)) (lt-ltb x k l)

-- the species of s from k on
from_e : (s k x : ℕ) → So (has (minus s (upto k)) x) → So (has s x) × (k ≤ x)
from_e s k x h = let r = minus_e s (upto k) x h in (r.0, by_order x k (λ l. absurd (r.1 (is_under k x l))) (λ l. omega arith) (λ l. omega arith))

from_i : (s k x : ℕ) → So (has s x) → k ≤ x → So (has (minus s (upto k)) x)
from_i s k x h l = minus_i s (upto k) x h (λ u. omega (arith, under_is k x u))

-- What is left are the species of s from some one on; of the species below it, each k together were looked at.
pub record Counted (s k left looked : ℕ) : Type 0 where
  pub start : ℕ
  pub rest : left ≡ minus s (upto start)
  pub count : looked ≡ C (size (meet s (upto start))) k

pub count_start : (s k : ℕ) → Counted s (suc k) s 0
count_start s k =
    let z : size (meet s (upto 0)) ≡ 0 = omega (arith, size-parts s (upto 0), ap size (minus_empty s)) in
    record { start = 0; rest = sym (minus_empty s); count = sym (ap (λ (j : ℕ). C j (suc k)) z ∙ C-none k) }

pub count_end : {s k left looked : ℕ} → left ≡ 0 → Counted s k left looked → looked ≡ C (size s) k
count_end {s} {k} {left} {looked} e w =
    let z : size (meet s (upto w.start)) ≡ size s = omega (arith, size-parts s (upto w.start), ap size (sym w.rest ∙ e), size_empty) in
    w.count ∙ ap (λ (j : ℕ). C j k) z

-- so far, no more than of the whole set
pub count_few : {s k left looked : ℕ} → k < 4 → s < 2 ^ 64 → Counted s k left looked → looked ≤ 41664
count_few {s} {k} h hs w =
    let j = size (meet s (upto w.start)) in
    omega (arith, w.count, C-more k j 64 (omega (arith, size-parts s (upto w.start), size-le 64 s hs)), C-most k h)

-- a, the lowest of those left, together with each k of the species of s below it
module _ {s k left a left' looked : ℕ} (u : Turn left a left') (w : Counted s (suc k) left looked) where
  a_left : So (has left a)
  a_left = true_has left a u.member

  a_from : w.start ≤ a
  a_from = (from_e s w.start a (subst (λ (z : ℕ). So (has z a)) w.rest a_left)).1

  left_in : (x : ℕ) → So (has left x) → So (has s x)
  left_in x h = (from_e s w.start x (subst (λ (z : ℕ). So (has z x)) w.rest h)).0

  in_left : (x : ℕ) → So (has s x) → a ≤ x → So (has left x)
  in_left x h l = subst (λ (z : ℕ). So (has z x)) (sym w.rest) (from_i s w.start x h (omega (arith, a_from)))

  -- none that is left is lower
  a_least : (x : ℕ) → So (has left x) → a ≤ x
  a_least x h = by_order x a
      (λ l. absurd (omega (arith, has_true left x h, lowest-least left x (subst (λ (z : ℕ). x < z) u.lowest.is l))))
      (λ l. omega arith)
      (λ l. omega arith)

  left_is : left ≡ minus s (upto a)
  left_is = ext_has left (minus s (upto a)) (λ x. bool_ext (has left x) (has (minus s (upto a)) x)
      (λ h. from_i s a x (left_in x h) (a_least x h))
      (λ h. let r = from_e s a x h in in_left x r.0 r.1))

  rest_is : left' ≡ minus left (single a)
  rest_is = u.rest.is ∙ ap (λ (z : ℕ). minus left (single z)) (sym u.lowest.is)

  next_is : left' ≡ minus s (upto (suc a))
  next_is = rest_is ∙ ext_has (minus left (single a)) (minus s (upto (suc a))) (λ x. bool_ext (has (minus left (single a)) x) (has (minus s (upto (suc a))) x)
      (λ h. let r = minus_e left (single a) x h in from_i s (suc a) x (left_in x r.0) (above x r.0 r.1))
      (λ h. let r = from_e s (suc a) x h in minus_i left (single a) x (in_left x r.0 (omega (arith, r.1))) (λ o. omega (arith, single_e a x o, r.1))))
    where
      above : (x : ℕ) → So (has left x) → (So (has (single a) x) → ⊥) → suc a ≤ x
      above x h o = by_order a x
          (λ l. omega arith)
          (λ e. absurd (o (subst (λ (z : ℕ). So (has (single a) z)) e (single_i a))))
          (λ l. absurd (omega (arith, a_least x h)))

  pub count_next : (looked' : ℕ) → looked' ≡ looked + C (size (meet s (upto a))) k → Counted s (suc k) left' looked'
  count_next looked' e =
      let j = size (meet s (upto a)) in
      let p : size (meet s (upto w.start)) ≡ j = omega (arith, size-parts s (upto w.start), size-parts s (upto a), ap size (sym w.rest ∙ left_is)) in
      let q : size (meet s (upto (suc a))) ≡ suc j = omega (arith, size-parts s (upto (suc a)), size-parts s (upto a), ap size next_is, ap size left_is, u.rest.fewer u.some) in
      record {
        start = suc a;
        rest = next_is;
        count = omega (arith, e, w.count ∙ ap (λ (i : ℕ). C i (suc k)) p, ap (λ (i : ℕ). C i (suc k)) q, C-rule j k);
      }
