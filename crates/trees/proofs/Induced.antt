-- What R induces, one triplet at a time, of a candidate that passes PC or PI: the parts of the theorems of `Paper`. Assumes nothing.
use mathlib.Core.Bool.{So}
use mathlib.Core.Logic.{◌≢◌, ⊎_elim}
use mathlib.Core.Path.{sym}
use Prim.Native.Nat.{ℕ}
use Rattle.sets.proofs.Bools.{not_e, or_case, or_l, or_r, test}
use Rattle.sets.specs.Species.{Below, Inside, Species}
use Rattle.trees.proofs.Agreement.{R-in, R-proper, two-not_held}
use Rattle.trees.proofs.Criterion.{aho, forced_more, held_fewer, some_link}
use Rattle.trees.proofs.Splits.{holds_proper, holds_swap}
use Rattle.trees.proofs.Triplets.{only_e, only_l, only_proper, only_r}
use Rattle.trees.specs.Check.{PC, PI, R}
use Rattle.trees.specs.Held.{CanBeHeld}
use Rattle.trees.specs.Induced.{Among, Induces, PaperPC, PaperPI}
use Rattle.trees.specs.Trees.{Tree, under}
use Rattle.trees.specs.Triplets.{Proper, Triplets, both, holds, only}

-- ---- one triplet

pub only_among : (E : Triplets) → Proper E → (a b c : ℕ) → So (E a b c) → Among (only a b c) E
only_among E pr a b c h x y z q = let e = only_e a b c x y z q in
    ⊎_elim (λ r. rw (r.0, r.1, e.0) h) (λ r. rw (r.0, r.1, e.0) (pr.swap a b c h)) e.1

pub only_back : (E : Triplets) → Proper E → (a b c x y z : ℕ) → So (only a b c x y z) → So (E x y z) → So (E a b c)
only_back E pr a b c x y z q h = let e = only_e a b c x y z q in
    ⊎_elim (λ r. rw (r.0, r.1, e.0) at h) (λ r. pr.swap b a c (rw (r.0, r.1, e.0) at h)) e.1

-- it can be held: in a joined set its third species would have a link, and without that species no species has one
only_held : (N : ℕ) (S : Species) → Below N S → (a b c : ℕ) → So (S a) → a ≢ b → a ≢ c → b ≢ c → CanBeHeld (only a b c) S
only_held N S bd a b c ha ab ac bc = (aho (only a b c) N (only_proper a b c ab ac bc) S bd a ha).1 (λ U k.
    let (v, w, hv, hw, ne) = k.two in
    test (U c)
    (λ h. some_link (only a b c) S U k c h (λ y z hy hz e. ⊎_elim (λ r. ac (sym r.0)) (λ r. bc (sym r.0)) (only_e a b c c y z e).1))
    (λ h. some_link (only a b c) S U k v hv (λ y z hy hz e. not_e (U c) h (rw (only_e a b c v y z e).0 at hz))))

module _ (E : Triplets) (pr : Proper E) (T : Tree) (S : Species) where
  -- ---- PC

  -- the tree that shows PC holds any part of R together with a triplet of T
  with_own : PC E S T → (E' : Triplets) → Among E' (R E T) → (a b c : ℕ) → So (holds T a b c) → CanBeHeld (both E' (only a b c)) S
  with_own pc E' le a b c h = held_fewer (both (holds T) (R E T)) (both E' (only a b c)) S
      (λ x y z hx hy hz q. or_case (E' x y z) _ q (λ r. or_r (holds T x y z) _ (le x y z r)) (λ r. or_l (holds T x y z) _ (only_among (holds T) (holds_proper T) a b c h x y z r)))
      pc

  pub to_pc : PC E S T → PaperPC E S T
  to_pc pc a b c h = (
    (λ n. n.forced.no_ac (with_own pc n.some n.among a b c h)),
    λ n. n.forced.no_ac (with_own pc n.some n.among b a c (holds_swap T a b c h)),
  )

  module _ (N : ℕ) (bd : Below N S) (sub : Inside (under T) S) where
    -- a triplet of R is a part of R, which induces it
    pub itself : (a b c : ℕ) → So (R E T a b c) → Induces (R E T) S a b c
    itself a b c h =
        let rp = R-proper E pr T in
        let (ia, ib, ic) = R-in E pr T a b c h in
        let ab = rp.two a b c h in
        let ac = rp.third a b c h in
        let bc = rp.third b a c (rp.swap a b c h) in
        let P = only a b c in
        record {
          some = P;
          proper = only_proper a b c ab ac bc;
          among = only_among (R E T) rp a b c h;
          held = only_held N S bd a b c (sub a ia) ab ac bc;
          forced = record {
            no_ac = two-not_held _ S a b c (sub a ia) (sub b ib) (sub c ic) (or_l (P a b c) _ (only_l a b c)) (or_r (P a c b) _ (only_l a c b));
            no_bc = two-not_held _ S b a c (sub b ib) (sub a ia) (sub c ic) (or_l (P b a c) _ (only_r a b c)) (or_r (P b c a) _ (only_l b c a));
          };
        }

  -- ---- PI

  -- all of R is a part of it, which T's tree of PC holds
  pub to_pi : PC E S T → PI E S T → PaperPI E S T
  to_pi pc pi a b c h = record {
    some = R E T;
    proper = R-proper E pr T;
    among = λ x y z q. q;
    held = held_fewer (both (holds T) (R E T)) (R E T) S (λ x y z hx hy hz q. or_r (holds T x y z) _ q) pc;
    forced = pi a b c h;
  }

  -- here PC is not asked: what a part forces, all of R forces
  pub from_pi : PaperPI E S T → PI E S T
  from_pi pi a b c h = let n = pi a b c h in forced_more (R E T) n.some S n.among a b c n.forced
