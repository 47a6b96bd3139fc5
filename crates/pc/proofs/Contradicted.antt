-- A triple is contradicted where the tree says one of its three triplets and another one is entered. Assumes nothing.
use mathlib.Core.Bool.{Bool, So, ◌&&◌, ◌||◌, cond, false, not, or-false, true}
use mathlib.Core.Path.{◌≡◌, refl}
use Prim.Native.Nat.{ℕ}
use Rattle.sets.proofs.Bools.{bool_ext}
use Rattle.trees.proofs.Agreement.{exclusive}
use Rattle.trees.proofs.Formed.{formed_e}
use Rattle.trees.proofs.Splits.{holds_swap}
use Rattle.trees.specs.Check.{differs}
use Rattle.trees.specs.Trees.{Tree, well_formed}
use Rattle.trees.specs.Triplets.{Triplets, fan, holds, on_triple}
use Rattle.groups.specs.Groups.{says}
use Rattle.groups.specs.declared.Says.{Says}
use Rattle.groups.specs.declared.Says.TheVariants.{AB, AC, BC, Absent, Fan}
use Rattle.pc.specs.Contrary.{contrary}

-- ---- over any tests: x, y and z tell whether ab|c, ac|b and bc|a are held, and no two of them are

-- entered, on a resolved triple, and not held
abbrev other : Bool → Bool → Bool → Bool
other p d x = (p && d) && not x

kept : (p : Bool) → other p true false ≡ p
kept true = refl
kept false = refl

held : (p : Bool) → other p true true ≡ false
held true = refl
held false = refl

unresolved : (p : Bool) → other p false false ≡ false
unresolved true = refl
unresolved false = refl

abbrev Apart : Bool → Bool → Type 0
Apart x y = So x → So y → ⊥

by_tests : (x y z f : Bool) → Apart x y → Apart x z → Apart y z → (p q r : Bool)
    → contrary (cond x AB (cond y AC (cond z BC (cond f Fan Absent)))) p q r ≡ (other p (x || (y || z)) x || (other q (y || (x || z)) y || other r (z || (x || y)) z))
by_tests true true z f xy xz yz p q r = absurd (xy refl refl)
by_tests true false true f xy xz yz p q r = absurd (xz refl refl)
by_tests true false false f xy xz yz p q r = rw (held p, kept q, kept r) refl
by_tests false true true f xy xz yz p q r = absurd (yz refl refl)
by_tests false true false f xy xz yz p q r = rw (held q, kept p, kept r) refl
by_tests false false true f xy xz yz p q r = rw (held r, kept p, kept q, or-false q) refl
by_tests false false false true xy xz yz p q r = rw (unresolved p, unresolved q, unresolved r) refl
by_tests false false false false xy xz yz p q r = rw (unresolved p, unresolved q, unresolved r) refl

-- ---- of a tree and entered triplets

module _ (E : Triplets) (T : Tree) (a b c : ℕ) (w : So (well_formed T)) where
  either_way : (x y z : ℕ) → holds T y x z ≡ holds T x y z
  either_way x y z = bool_ext (holds T y x z) (holds T x y z) (holds_swap T y x z) (holds_swap T x y z)

  held_tests : contrary (says T a b c) (E a b c) (E a c b) (E b c a) ≡ on_triple (differs E T) a b c
  held_tests =
      let f = formed_e T w in
      rw (either_way b c a, either_way a b c, either_way a c b)
      (by_tests (holds T a b c) (holds T a c b) (holds T b c a) (fan T a b c)
      (exclusive T f a b c)
      (λ x z. exclusive T f b a c (holds_swap T a b c x) z)
      (λ y z. exclusive T f c a b (holds_swap T a c b y) (holds_swap T b c a z))
      (E a b c) (E a c b) (E b c a))

  pub contrary-differs : (s : Says) (p q r x : Bool) → x ≡ contrary s p q r → s ≡ says T a b c → (p ≡ E a b c) × (q ≡ E a c b) × (r ≡ E b c a)
      → x ≡ on_triple (differs E T) a b c
  contrary-differs s p q r x h e k = rw (h, e, k.0, k.1, k.2) held_tests
