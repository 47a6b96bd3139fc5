-- How long a tree's text is: no species stands twice, so that 64 species have 118 digits, and each leaf but one brings three signs at most. Assumes nothing.
use mathlib.Core.Bool.{Bool, So, ◌||◌, cond, false, true}
use mathlib.Core.List.{[], ◌∷◌}
use mathlib.Core.Path.{◌≡◌, refl}
use Prim.Native.Nat.{ℕ, zero, suc, ◌+◌, ◌*◌, ◌<◌, ◌≤◌}
use native.Mathlib.Decide.{ℕ_discrete}
use native.Mathlib.Nat.{pow-suc}
use native.Mathlib.Omega.{arith}
use borrow.Author.Tests.{eq-eqb}
use lib.Dec.{eqb}
use lib.ListN.{length, length-append}
use Rattle.sets.proofs.Bools.{or_l, or_r}
use Rattle.sets.specs.Species.{Below, Species, either}
use Rattle.trees.proofs.Formed.{Formed, FormedF, formed_e}
use Rattle.trees.specs.Trees.{Forest, Tree, cons, degree, leaf, leaves, leaves_f, nil, node, under, under_f, well_formed}
use Rattle.bodies.proofs.Back.{leaves_few}
use Rattle.writing.proofs.Digits.{decimal_short}
use Rattle.writing.specs.Texts.{decimal}
use Rattle.rendering.specs.Texts.{children_text, subtree_text, text_of, text_room}

-- the digits of the species of S below n
unfoldable digits : ℕ → Species → ℕ
digits zero S = 0
digits (suc n) S = digits n S + cond (S n) (length (decimal n)) 0

cond_both : (a b : Bool) (k : ℕ) → (So a → So b → ⊥) → cond (a || b) k 0 ≡ cond a k 0 + cond b k 0
cond_both true true k d = absurd (d refl refl)
cond_both true false k d = omega arith
cond_both false true k d = omega arith
cond_both false false k d = refl

cond-le : (a : Bool) (k m : ℕ) → k ≤ m → cond a k 0 ≤ m
cond-le true k m h = h
cond-le false k m h = omega arith

-- two sets with nothing in common
digits_both : (P Q : Species) → ((x : ℕ) → So (P x) → So (Q x) → ⊥) → (n : ℕ) → digits n (either P Q) ≡ digits n P + digits n Q
unfolding digits
digits_both P Q d zero = refl
digits_both P Q d (suc n) = omega (arith, digits_both P Q d n, cond_both (P n) (Q n) (length (decimal n)) (d n))

digits_one : (x n : ℕ) → x < n → length (decimal x) ≤ digits n (eqb x)
unfolding digits
digits_one x zero l = absurd (omega arith)
digits_one x (suc n) l = by (ℕ_discrete x n) (λ k. digits_one x n k)
  where
    by : Dec (x ≡ n) → (x < n → length (decimal x) ≤ digits n (eqb x)) → length (decimal x) ≤ digits n (eqb x) + cond (eqb x n) (length (decimal n)) 0
    by (yes e) ih = rw (e, eq-eqb n n refl) (omega arith)
    by (no m) ih = omega (arith, ih (omega arith))

-- the numbers below 10 have one digit, those below 100 two
digits_low : (S : Species) (n : ℕ) → n ≤ 10 → digits n S ≤ n
unfolding digits
digits_low S zero h = omega arith
digits_low S (suc n) h = omega (arith, digits_low S n (omega arith), cond-le (S n) (length (decimal n)) 1 (decimal_short 0 n (omega (arith, pow-suc 10 0))))

digits_high : (S : Species) (k : ℕ) → k ≤ 54 → digits (k + 10) S ≤ 10 + 2 * k
unfolding digits
digits_high S zero h = digits_low S 10 (omega arith)
digits_high S (suc k) h =
    let e : suc k + 10 ≡ suc (k + 10) = omega arith in
    let l = cond-le (S (k + 10)) (length (decimal (k + 10))) 2 (decimal_short 1 (k + 10) (omega (arith, pow-suc 10 1, pow-suc 10 0))) in
    rw e (omega (arith, digits_high S k (omega arith), l))

mutual
  subtree_text-length : (n : ℕ) (t : Tree) → Formed t → Below n (under t) → length (subtree_text t) + 3 ≤ digits n (under t) + 3 * length (leaves t)
  subtree_text-length n (leaf x) w b = omega (arith, digits_one x n (b x (eq-eqb x x refl)))
  subtree_text-length n (node f) w b = omega (arith, children_text-length n 40 f w.1 b, w.0)

  children_text-length : (n m : ℕ) (f : Forest) → FormedF f → Below n (under_f f) → length (children_text m f) + 2 * degree f ≤ digits n (under_f f) + 3 * length (leaves_f f) + 1
  children_text-length n m nil w b = omega arith
  children_text-length n m (cons t f) w b = omega (
    arith,
    length-append (subtree_text t) (children_text 44 f),
    length-append (leaves t) (leaves_f f),
    subtree_text-length n t w.0 (λ x i. b x (or_l (under t x) (under_f f x) i)),
    children_text-length n 44 f w.2 (λ x i. b x (or_r (under t x) (under_f f x) i)),
    digits_both (under t) (under_f f) w.1 n,
  )

pub text_longest : (t : Tree) → So (well_formed t) → Below 64 (under t) → length (text_of t) ≤ text_room
text_longest t w b = omega (
  arith,
  length-append (subtree_text t) (59 ∷ []),
  subtree_text-length 64 t (formed_e t w) b,
  digits_high (under t) 54 (omega arith),
  leaves_few 64 t w b,
)
