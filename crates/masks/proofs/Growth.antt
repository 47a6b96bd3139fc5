-- Masks grow store by store, and then step by step. Assumes nothing.
use mathlib.Core.Bool.{Bool, ◌&&◌, ◌||◌, and-false, and-or_distrib_left, and-true, false, or_assoc, or_comm, or-false, true}
use mathlib.Core.List.{List}
use mathlib.Core.Path.{◌∙◌, ◌≡◌, ap, refl, sym}
use Prim.Native.Nat.{◌*◌, ◌+◌, ◌<◌, ℕ}
use native.Mathlib.Decide.{ℕ_discrete}
use native.Mathlib.Numerals.{add-one}
use native.Mathlib.Omega.{arith}
use borrow.Author.Tests.{eq-eqb, ne_eqb}
use lib.Dec.{eqb}
use lib.ListN.{length, length-set, set}
use lib.Seq.{get_or-set_other, get_or-set_same}
use Rattle.sets.proofs.Tests.{has-single, has-union}
use Rattle.sets.specs.Sets.{has, single, union}
use Rattle.sets.specs.Species.{any}
use Rattle.trees.specs.Check.{R}
use Rattle.trees.specs.Triplets.{Triplets, only}
use Rattle.tables.specs.Bytes.{entered}
use Rattle.groups.specs.Groups.{cell, cells}
use Rattle.masks.specs.Filling.{Masked, Noted}

-- ---- growing

pub grown_none : {P : Triplets} {m : List ℕ} → ((x y z : ℕ) → P x y z ≡ false) → Masked P m m
grown_none {P} {m} f = record { cells = λ x y z h. sym (ap (λ (w : Bool). has (cell m x y) z || w) (f x y z) ∙ or-false (has (cell m x y) z)) }

pub grown_as : {P Q : Triplets} {m m' : List ℕ} → ((x y z : ℕ) → P x y z ≡ Q x y z) → Masked P m m' → Masked Q m m'
grown_as {P} {Q} {m} f g = record { cells = λ x y z h. g.cells x y z h ∙ ap (λ (w : Bool). has (cell m x y) z || w) (f x y z) }

pub grown_both : {P Q : Triplets} {m m₁ m₂ : List ℕ} → Masked P m m₁ → Masked Q m₁ m₂ → Masked (λ x y z. P x y z || Q x y z) m m₂
grown_both {P} {Q} {m} g k = record {
  cells = λ x y z h. k.cells x y z h ∙ ap (λ (w : Bool). w || Q x y z) (g.cells x y z h) ∙ or_assoc (has (cell m x y) z) (P x y z) (Q x y z);
}

-- what the first i tell, and then what i tells
grown_next : (Q : ℕ → Triplets) (i : ℕ) {m m₁ m₂ : List ℕ} → Masked (λ x y z. any i (λ j. Q j x y z)) m m₁ → Masked (Q i) m₁ m₂
    → Masked (λ x y z. any (i + 1) (λ j. Q j x y z)) m m₂
grown_next Q i g k = rw (add-one i) (grown_as (λ x y z. or_comm (any i (λ j. Q j x y z)) (Q i x y z)) (grown_both g k))

-- the same of R, whatever the tree is
module _ {t : List ℕ} {whole : ℕ} {meets : List ℕ} where
  pub noted_next : (Q : ℕ → Triplets → Triplets) (i : ℕ) {m m₁ m₂ : List ℕ} → Noted t whole meets (λ E x y z. any i (λ j. Q j E x y z)) m m₁
      → Noted t whole meets (Q i) m₁ m₂ → Noted t whole meets (λ E x y z. any (i + 1) (λ j. Q j E x y z)) m m₂
  noted_next Q i g k = record { size = k.size; grown = λ T m w. grown_next (λ j. Q j (R (entered t) T)) i (g.grown T m w) (k.grown T m w) }

-- ---- stores

eqb_swap : (i j : ℕ) → eqb i j ≡ eqb j i
eqb_swap i j = go (ℕ_discrete i j)
  where
    go : Dec (i ≡ j) → eqb i j ≡ eqb j i
    go (yes e) = eq-eqb i j e ∙ sym (eq-eqb j i (sym e))
    go (no n) = ne_eqb i j n ∙ sym (ne_eqb j i (λ e. n (sym e)))

-- c goes into the mask of a and b
module _ (m : List ℕ) (a b c v : ℕ) (ha : a < 64) (hb : b < 64) (s : length m ≡ cells) (e : v ≡ union (cell m a b) (single c)) where
  abbrev m' : List ℕ
  m' = set m (a * 64 + b) v

  pub add-length : length m' ≡ cells
  add-length = length-set m (a * 64 + b) v ∙ s

  here : (z : ℕ) → has (cell m' a b) z ≡ (has (cell m a b) z || eqb z c)
  here z =
      ap (λ (w : ℕ). has w z) (get_or-set_same m (a * 64 + b) v 0 (omega arith) ∙ e)
      ∙ has-union (cell m a b) (single c) z
      ∙ ap (λ (w : Bool). has (cell m a b) z || w) (has-single c z ∙ eqb_swap c z)

  there : (x y z : ℕ) → (x * 64 + y ≡ a * 64 + b → ⊥) → has (cell m' x y) z ≡ (has (cell m x y) z || false)
  there x y z n = ap (λ (w : ℕ). has w z) (get_or-set_other m (a * 64 + b) (x * 64 + y) v 0 n) ∙ sym (or-false (has (cell m x y) z))

  pub add_grown : Masked (λ x y z. eqb z c && (eqb x a && eqb y b)) m m'
  add_grown = record { cells = λ x y z h. go x y z h (ℕ_discrete x a) (ℕ_discrete y b) }
    where
      go : (x y z : ℕ) → y < 64 → Dec (x ≡ a) → Dec (y ≡ b) → has (cell m' x y) z ≡ (has (cell m x y) z || (eqb z c && (eqb x a && eqb y b)))
      go x y z h (yes p) (yes q) = rw (p, q, eq-eqb a a refl, eq-eqb b b refl, and-true (eqb z c)) (here z)
      go x y z h (yes p) (no n) = rw (ne_eqb y b n, and-false (eqb x a), and-false (eqb z c)) (there x y z (λ k. n (omega arith)))
      go x y z h (no n) d = rw (ne_eqb x a n, and-false (eqb z c)) (there x y z (λ k. n (omega arith)))

-- both orders of a pair
pub put_grown : {on : Bool} (a b c : ℕ) {m m₁ m₂ : List ℕ} → on ≡ true
    → Masked (λ x y z. eqb z c && (eqb x a && eqb y b)) m m₁ → Masked (λ x y z. eqb z c && (eqb x b && eqb y a)) m₁ m₂ → Masked (λ x y z. on && only a b c x y z) m m₂
put_grown a b c e g k = grown_as
    (λ x y z. rw e (sym (and-or_distrib_left (eqb z c) (eqb x a && eqb y b) (eqb x b && eqb y a))))
    (grown_both g k)
