-- What can be held by one tree: exactly when no joined set of two or more species lies in the set (Aho's criterion). And what follows for fewer
-- and more triplets, and for fewer and more species. Assumes nothing.
use mathlib.Core.Bool.{So, false}
use mathlib.Core.Logic.{◌↔◌, ◌⊎◌, inl, inr, ⊎_elim}
use mathlib.Core.Path.{◌∙◌, ◌≡◌, refl, sym}
use Prim.Native.Nat.{ℕ}
use borrow.Author.Tests.{eq-eqb, eqb-true}
use lib.Dec.{eqb}
use Rattle.sets.proofs.Bools.{not_e, or_case, or_l, or_r, test}
use Rattle.sets.specs.Species.{Below, Inside, Species}
use Rattle.trees.proofs.Built.{Built, built}
use Rattle.trees.proofs.Formed.{formed_e, formed_i}
use Rattle.trees.proofs.Refused.{refused}
use Rattle.trees.proofs.Splits.{holds_i}
use Rattle.trees.proofs.Stopping.{Stopping, stopping}
use Rattle.trees.specs.Build.{Outcome, build, stop, tree}
use Rattle.trees.specs.Check.{Forced}
use Rattle.trees.specs.Held.{CanBeHeld, HeldBy}
use Rattle.trees.specs.Trees.{Tree}
use Rattle.trees.specs.Triplets.{Proper, Triplets, both, only}

pub no_tree : (E : Triplets) (S U : Species) → Stopping E S U → CanBeHeld E S → ⊥
no_tree E S U b (t, k) = refused E U b.two b.join t (formed_e t k.formed)
    (λ x h. rw (k.species x) (b.inside x h))
    (λ x y z hx hy hz e. k.keeps x y z (b.inside x hx) (b.inside y hy) (b.inside z hz) e)

pub held_built : (E : Triplets) → Proper E → (S : Species) (t : Tree) → Built false E S t → HeldBy E S t
held_built E pr S t b = record {
  species = b.species;
  formed = formed_i t b.formed;
  keeps = λ x y z hx hy hz e. holds_i t x y z (pr.two x y z e) (b.species z ∙ hz) (b.keeps refl x y z hx hy hz e);
}

module _ (E : Triplets) (N : ℕ) (pr : Proper E) (S : Species) (bd : Below N S) (u : ℕ) (hu : So (S u)) where
  -- the build decides
  pub decide : CanBeHeld E S ⊎ ((U : Species) × Stopping E S U)
  decide = go (build E N S) refl
    where
      go : (r : Outcome) → build E N S ≡ r → CanBeHeld E S ⊎ ((U : Species) × Stopping E S U)
      go (tree t) e = inl (t, held_built E pr S t (built false E N pr S bd u hu t e))
      go (stop U) e = inr (U, stopping E N pr S bd u hu U e)

  pub aho : CanBeHeld E S ↔ ((U : Species) → Stopping E S U → ⊥)
  aho = ((λ f U b. no_tree E S U b f), λ h. ⊎_elim (λ f. f) (λ b. absurd (h b.0 b.1)) decide)

  pub not_held : (CanBeHeld E S → ⊥) → (U : Species) × Stopping E S U
  not_held h = ⊎_elim (λ f. absurd (h f)) (λ b. b) decide

pub held_fewer : (E E' : Triplets) (S : Species) → ((a b c : ℕ) → So (S a) → So (S b) → So (S c) → So (E' a b c) → So (E a b c)) → CanBeHeld E S → CanBeHeld E' S
held_fewer E E' S le (t, k) = (t, record { species = k.species; formed = k.formed; keeps = λ a b c ha hb hc e. k.keeps a b c ha hb hc (le a b c ha hb hc e) })

-- what some triplets force, more of them force
pub forced_more : (E E' : Triplets) (S : Species) → ((a b c : ℕ) → So (E' a b c) → So (E a b c)) → (a b c : ℕ) → Forced E' S a b c → Forced E S a b c
forced_more E E' S le a b c f =
    let less : (x y z : ℕ) → CanBeHeld (both E (only x y z)) S → CanBeHeld (both E' (only x y z)) S
    = λ x y z. held_fewer _ _ S (λ i j k hi hj hk q. or_case (E' i j k) _ q (λ r. or_l (E i j k) _ (le i j k r)) (λ r. or_r (E i j k) _ r)) in
    record { no_ac = λ h. f.no_ac (less a c b h); no_bc = λ h. f.no_bc (less b c a h) }

-- a joined set in a smaller set lies in the larger one too
pub stopping_up : (E : Triplets) (S S' U : Species) → Inside U S' → Stopping E S U → Stopping E S' U
stopping_up E S S' U sub b = record {
  inside = sub;
  join = b.join;
  two = b.two;
}

-- in a joined set of two or more species none is without a link
pub some_link : (E : Triplets) (S U : Species) → Stopping E S U → (v : ℕ) → So (U v) → ((y z : ℕ) → So (U y) → So (U z) → So (E v y z) → ⊥) → ⊥
some_link E S U b v hv none =
    let all : Inside U (eqb v) = b.join (eqb v) (λ x y z p hx hy hz e. absurd (none y z hy hz (rw (eqb-true v x p) e))) v hv (eq-eqb v v refl) in
    let (x, y, hx, hy, ne) = b.two in
    ne (sym (eqb-true v x (all x hx)) ∙ eqb-true v y (all y hy))

pub held_inside : (E : Triplets) (N : ℕ) → Proper E → (S S' : Species) → Below N S → Inside S' S → (u : ℕ) → So (S' u) → CanBeHeld E S → CanBeHeld E S'
held_inside E N pr S S' bd sub u hu f = (aho E N pr S' (λ x h. bd x (sub x h)) u hu).1 (λ U b. no_tree E S U (stopping_up E S' S U (λ x h. sub x (b.inside x h)) b) f)

-- more species, where every triplet has its close pair in S
pub held_around : (E : Triplets) (N : ℕ) → Proper E → (S S' : Species) → Below N S' → Inside S S' → (u : ℕ) → So (S u)
    → ((a b c : ℕ) → So (S' a) → So (S' b) → So (S' c) → So (E a b c) → So (S a) × So (S b)) → CanBeHeld E S → CanBeHeld E S'
held_around E N pr S S' bd sub u hu inn f = (aho E N pr S' bd u (sub u hu)).1 (λ U b.
    let pair : (x y z : ℕ) → So (U x) → So (U y) → So (U z) → So (E x y z) → So (S x) × So (S y) = λ x y z hx hy hz e. inn x y z (b.inside x hx) (b.inside y hy) (b.inside z hz) e in
    let (v, w, hv, hw, ne) = b.two in
    test (S v)
    (λ h. no_tree E S U (stopping_up E S' S U (b.join S (λ x y z p hx hy hz e. (pair x y z hx hy hz e).1) v hv h) b) f)
    (λ h. some_link E S' U b v hv (λ y z hy hz e. not_e (S v) h (pair v y z hv hy hz e).0)))
