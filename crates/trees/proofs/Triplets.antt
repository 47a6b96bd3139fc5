-- Triplets put together, one triplet alone, three different species, and a fan. Assumes nothing.
use mathlib.Core.Bool.{So, ◌&&◌, ◌||◌}
use mathlib.Core.Logic.{◌≢◌, ◌⊎◌, inl, inr, ⊎_elim}
use mathlib.Core.Path.{◌∙◌, ◌≡◌, refl, sym}
use Prim.Native.Nat.{ℕ}
use borrow.Author.Tests.{eq-eqb, eqb-true}
use lib.Dec.{eqb}
use Rattle.sets.proofs.Bools.{and_i, and_l, and_r, not_e, not_i, or_case, or_l, or_r}
use Rattle.trees.specs.Trees.{Tree, under}
use Rattle.trees.specs.Triplets.{Proper, Triplets, both, different, fan, on_triple, only}

pub both_proper : (E E' : Triplets) → Proper E → Proper E' → Proper (both E E')
both_proper E E' p q = record {
  swap = λ a b c h. or_case (E a b c) (E' a b c) h (λ k. or_l (E b a c) _ (p.swap a b c k)) (λ k. or_r (E b a c) _ (q.swap a b c k));
  two = λ a b c h. or_case (E a b c) (E' a b c) h (p.two a b c) (q.two a b c);
  third = λ a b c h. or_case (E a b c) (E' a b c) h (p.third a b c) (q.third a b c);
}

-- ---- one triplet

pub only_e : (a b c x y z : ℕ) → So (only a b c x y z) → (z ≡ c) × (((x ≡ a) × (y ≡ b)) ⊎ ((x ≡ b) × (y ≡ a)))
only_e a b c x y z h = (
  eqb-true z c (and_l (eqb z c) _ h),
  or_case (eqb x a && eqb y b) (eqb x b && eqb y a) (and_r (eqb z c) _ h)
      (λ k. inl (eqb-true x a (and_l (eqb x a) _ k), eqb-true y b (and_r (eqb x a) _ k)))
      (λ k. inr (eqb-true x b (and_l (eqb x b) _ k), eqb-true y a (and_r (eqb x b) _ k))),
)

pub only_i : (a b c x y z : ℕ) → z ≡ c → ((x ≡ a) × (y ≡ b)) ⊎ ((x ≡ b) × (y ≡ a)) → So (only a b c x y z)
only_i a b c x y z e (inl p) = and_i (eqb z c) _ (eq-eqb z c e) (or_l (eqb x a && eqb y b) _ (and_i (eqb x a) _ (eq-eqb x a p.0) (eq-eqb y b p.1)))
only_i a b c x y z e (inr p) = and_i (eqb z c) _ (eq-eqb z c e) (or_r (eqb x a && eqb y b) _ (and_i (eqb x b) _ (eq-eqb x b p.0) (eq-eqb y a p.1)))

pub only_l : (a b c : ℕ) → So (only a b c a b c)
only_l a b c = only_i a b c a b c refl (inl (refl, refl))

pub only_r : (a b c : ℕ) → So (only a b c b a c)
only_r a b c = only_i a b c b a c refl (inr (refl, refl))

pub only_proper : (a b c : ℕ) → a ≢ b → a ≢ c → b ≢ c → Proper (only a b c)
only_proper a b c ab ac bc = record {
  swap = λ x y z h. ⊎_elim (λ e. rw (e.0, e.1, (only_e a b c x y z h).0) (only_r a b c)) (λ e. rw (e.0, e.1, (only_e a b c x y z h).0) (only_l a b c)) (only_e a b c x y z h).1;
  two = λ x y z h q. ⊎_elim (λ e. ab (sym e.0 ∙ q ∙ e.1)) (λ e. ab (sym e.1 ∙ sym q ∙ e.0)) (only_e a b c x y z h).1;
  third = λ x y z h q. let r = only_e a b c x y z h in ⊎_elim (λ e. ac (sym e.0 ∙ q ∙ r.0)) (λ e. bc (sym e.0 ∙ q ∙ r.0)) r.1;
}

-- ---- three different species

pub different_e : (a b c : ℕ) → So (different a b c) → (a ≢ b) × (a ≢ c) × (b ≢ c)
different_e a b c d =
    let n = not_e (eqb a b || (eqb a c || eqb b c)) d in (
      λ e. n (or_l (eqb a b) _ (eq-eqb a b e)),
      λ e. n (or_r (eqb a b) _ (or_l (eqb a c) (eqb b c) (eq-eqb a c e))),
      λ e. n (or_r (eqb a b) _ (or_r (eqb a c) (eqb b c) (eq-eqb b c e))),
    )

pub different_i : (a b c : ℕ) → a ≢ b → a ≢ c → b ≢ c → So (different a b c)
different_i a b c p q r = not_i (eqb a b || (eqb a c || eqb b c))
    (λ h. or_case (eqb a b) (eqb a c || eqb b c) h (λ e. p (eqb-true a b e)) (λ k. or_case (eqb a c) (eqb b c) k (λ e. q (eqb-true a c e)) (λ e. r (eqb-true b c e))))

pub different_swap : (a b c : ℕ) → So (different a b c) → So (different b a c)
different_swap a b c d = let n = different_e a b c d in different_i b a c (λ e. n.0 (sym e)) n.2 n.1

-- ---- one of the three triplets on a triple, in any order of its species

module _ (P : Triplets) (swap : (a b c : ℕ) → So (P a b c) → So (P b a c)) where
  pub on_swap : (a b c : ℕ) → So (on_triple P a b c) → So (on_triple P b a c)
  on_swap a b c h = or_case (P a b c) _ h
      (λ k. or_l (P b a c) _ (swap a b c k))
      (λ k. or_r (P b a c) _ (or_case (P a c b) (P b c a) k (or_r (P b c a) _) (or_l (P b c a) _)))

  pub on_turn : (a b c : ℕ) → So (on_triple P a b c) → So (on_triple P a c b)
  on_turn a b c h = or_case (P a b c) _ h
      (λ k. or_r (P a c b) _ (or_l (P a b c) _ k))
      (λ k. or_case (P a c b) (P b c a) k (or_l (P a c b) _) (λ j. or_r (P a c b) _ (or_r (P a b c) _ (swap b c a j))))

-- ---- a fan

-- its three species are in the tree
pub fan_in : (t : Tree) (a b c : ℕ) → So (fan t a b c) → So (under t a) × So (under t b) × So (under t c)
fan_in t a b c h =
    let i = and_l (under t a && (under t b && under t c)) _ h in
    let k = and_r (under t a) _ i in
    (and_l (under t a) _ i, and_l (under t b) _ k, and_r (under t b) _ k)
