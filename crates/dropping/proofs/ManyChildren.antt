-- How many children a node has: none, one, two. Assumes nothing.
use mathlib.Core.List.Memᴰ
use mathlib.Core.List.{List, Memᴰ, [], ◌∷◌}
use mathlib.Core.Logic.{⊎_elim}
use mathlib.Core.Path.{◌≡◌, refl, subst}
use Prim.Native.Nat.{◌<◌, ◌≤◌, ℕ}
use native.Mathlib.Omega.{arith}
use lib.ListN.{length}
use Rattle.sets.specs.Species.{Ascending}
use Rattle.bodies.proofs.Under.{Child, children_ascend, in_children, is_child}
use Rattle.bodies.specs.Nodes.{Nodes, children}

module _ (v : Nodes) (i : ℕ) where
  pub bare_i : ((c : ℕ) → Child v i c → ⊥) → children v i ≡ []
  bare_i h = go (children v i) refl
    where
      go : (l : List ℕ) → children v i ≡ l → children v i ≡ []
      go [] e = e
      go (c ∷ l) e = absurd (h c (is_child v i c (rw e (Memᴰ.head refl))))

  pub bare_e : children v i ≡ [] → (c : ℕ) → Child v i c → ⊥
  bare_e e c ch = Memᴰ.not-nil (subst (λ (l : List ℕ). Memᴰ c l) e (in_children v i c ch))

  pub some_child : 0 < length (children v i) → (c : ℕ) × Child v i c
  some_child h = go (children v i) refl h
    where
      go : (l : List ℕ) → children v i ≡ l → 0 < length l → (c : ℕ) × Child v i c
      go [] e z = absurd (omega arith)
      go (c ∷ l) e z = (c, is_child v i c (rw e (Memᴰ.head refl)))

  pub two-children : 2 ≤ length (children v i) → (c : ℕ) × (d : ℕ) × Child v i c × Child v i d × (c < d)
  two-children h = go (children v i) refl h (children_ascend v i)
    where
      go : (l : List ℕ) → children v i ≡ l → 2 ≤ length l → Ascending 1 l → (c : ℕ) × (d : ℕ) × Child v i c × Child v i d × (c < d)
      go [] e z a = absurd (omega arith)
      go (c ∷ []) e z a = absurd (omega arith)
      go (c ∷ d ∷ l) e z a = (
        c,
        d,
        is_child v i c (rw e (Memᴰ.head refl)),
        is_child v i d (rw e (Memᴰ.tail (Memᴰ.head refl))),
        a.1.0,
      )

  pub some_many : (c : ℕ) → Child v i c → 0 < length (children v i)
  some_many c ch = go (children v i) (in_children v i c ch)
    where
      go : (l : List ℕ) → Memᴰ c l → 0 < length l
      go [] m = absurd (Memᴰ.not-nil m)
      go (x ∷ l) m = omega arith

  pub two_many : (c d : ℕ) → Child v i c → Child v i d → c < d → 2 ≤ length (children v i)
  two_many c d hc hd lt = go (children v i) (in_children v i c hc) (in_children v i d hd)
    where
      go : (l : List ℕ) → Memᴰ c l → Memᴰ d l → 2 ≤ length l
      go [] m q = absurd (Memᴰ.not-nil m)
      go (x ∷ []) m q = ⊎_elim
          (λ e. ⊎_elim (λ f. absurd (omega arith)) (λ f. absurd (Memᴰ.not-nil f)) (Memᴰ.cases_cons q))
          (λ e. absurd (Memᴰ.not-nil e)) (Memᴰ.cases_cons m)
      go (x ∷ y ∷ l) m q = omega arith
