-- PC holds exactly when no entered triplet differs from what the tree holds on a triple that it resolves. And a tree holds one triplet at
-- most on three species. Assumes nothing.
use mathlib.Core.Bool.{So, ◌||◌, not}
use mathlib.Core.Logic.{◌↔◌, ◌≢◌, ⊎_elim}
use mathlib.Core.Path.{refl}
use Prim.Native.Nat.{ℕ}
use borrow.Author.Tests.{eq-eqb, eqb-true}
use lib.Dec.{eqb}
use Rattle.sets.proofs.Bools.{and_i, and_l, and_r, not_e, not_i, or_case, or_l, or_r, test}
use Rattle.sets.specs.Species.{Below, Inside, Species}
use Rattle.trees.proofs.Criterion.{held_around, held_inside}
use Rattle.trees.proofs.Formed.{Formed, formed_e, formed_i}
use Rattle.trees.proofs.Lowest.{some_species}
use Rattle.trees.proofs.Refused.{refused}
use Rattle.trees.proofs.Splits.{holds_e, holds_proper, holds_swap}
use Rattle.trees.proofs.Triplets.{both_proper, on_swap, only_e, only_proper}
use Rattle.trees.specs.Check.{PC, R}
use Rattle.trees.specs.Held.{CanBeHeld}
use Rattle.trees.specs.Trees.{Tree, under}
use Rattle.trees.specs.Triplets.{Proper, Triplets, both, holds, only}

-- a tree holds one triplet at most on three species: ab|c and ac|b would join a, b and c
pub exclusive : (T : Tree) → Formed T → (a b c : ℕ) → So (holds T a b c) → So (holds T a c b) → ⊥
exclusive T w a b c h k =
    let o = holds_e T a b c h in
    let U : Species = λ x. eqb a x || (eqb b x || eqb c x) in
    let ua : So (U a) = or_l (eqb a a) _ (eq-eqb a a refl) in
    let ub : So (U b) = or_r (eqb a b) _ (or_l (eqb b b) _ (eq-eqb b b refl)) in
    let uc : So (U c) = or_r (eqb a c) _ (or_r (eqb b c) _ (eq-eqb c c refl)) in
    let all : (Q : Species) → So (Q a) → So (Q b) → So (Q c) → Inside U Q = λ Q qa qb qc x hx. or_case (eqb a x) _ hx
    (λ e. rw (← (eqb-true a x e)) qa) (λ r. or_case (eqb b x) (eqb c x) r (λ e. rw (← (eqb-true b x e)) qb) (λ e. rw (← (eqb-true c x e)) qc)) in
    refused (holds T) U (a, b, ua, ub, o.ab)
    (λ X cl u hu xu x hx.
    let xa : So (X a) = test (X a) (λ q. q) (λ q. absurd (not_e (X u) (all (λ z. not (X z)) q
    (not_i (X b) (λ r. not_e (X a) q (cl b a c r ub ua uc (holds_swap T a b c h))))
    (not_i (X c) (λ r. not_e (X a) q (cl c a b r uc ua ub (holds_swap T a c b k)))) u hu) xu)) in
    all X xa (cl a b c xa ua ub uc h) (cl a c b xa ua uc ub k) x hx)
    T w (all (under T) o.in_a o.in_b o.in_c) (λ x y z hx hy hz e. e)

-- so what has two triplets on three species of S can be held by no tree
pub two-not_held : (E : Triplets) (S : Species) (a b c : ℕ) → So (S a) → So (S b) → So (S c) → So (E a b c) → So (E a c b) → CanBeHeld E S → ⊥
two-not_held E S a b c ha hb hc h h' (t, k) = exclusive t (formed_e t k.formed) a b c (k.keeps a b c ha hb hc h) (k.keeps a c b ha hc hb h')

-- no entered triplet differs from what T holds
abbrev pub Agrees : Triplets → Tree → Type 0
Agrees E T = (a b c : ℕ) → So (R E T a b c) → So (holds T a b c)

module _ (E : Triplets) (pr : Proper E) (T : Tree) where
  pub R-proper : Proper (R E T)
  R-proper = record {
    swap = λ a b c h. and_i (E b a c) _ (pr.swap a b c (and_l (E a b c) _ h)) (on_swap (holds T) (holds_swap T) a b c (and_r (E a b c) _ h));
    two = λ a b c h. pr.two a b c (and_l (E a b c) _ h);
    third = λ a b c h. pr.third a b c (and_l (E a b c) _ h);
  }

  pub R-in : (a b c : ℕ) → So (R E T a b c) → So (under T a) × So (under T b) × So (under T c)
  R-in a b c h = or_case (holds T a b c) _ (and_r (E a b c) _ h) (λ q. let o = holds_e T a b c q in (o.in_a, o.in_b, o.in_c))
      (λ q. or_case (holds T a c b) (holds T b c a) q (λ r. let o = holds_e T a c b r in (o.in_a, o.in_c, o.in_b)) (λ r. let o = holds_e T b c a r in (o.in_c, o.in_a, o.in_b)))

  -- then T holds all of R
  pub agrees_held : Formed T → Agrees E T → CanBeHeld (R E T) (under T)
  agrees_held w ag = (T, record { species = λ x. refl; formed = formed_i T w; keeps = λ a b c ha hb hc h. ag a b c h })

  -- trees on all of S are no other than trees on T's species, for triplets inside T
  module _ (w : Formed T) (N : ℕ) (S : Species) (bd : Below N S) (sub : Inside (under T) S) where
    wider : (E' : Triplets) → Proper E' → ((a b c : ℕ) → So (E' a b c) → So (under T a) × So (under T b)) → CanBeHeld E' (under T) ↔ CanBeHeld E' S
    wider E' p inn = let u = some_species T w in
        (held_around E' N p (under T) S bd sub u.0 u.1 (λ a b c ha hb hc. inn a b c), held_inside E' N p S (under T) bd sub u.0 u.1)

    pub pc_agrees : PC E S T → Agrees E T
    pc_agrees pc a b c h =
        let (ia, ib, ic) = R-in a b c h in
        let new : (x y z : ℕ) → So (R E T x y z) → So (both (holds T) (R E T) x y z) = λ x y z q. or_r (holds T x y z) _ q in
        let old : (x y z : ℕ) → So (holds T x y z) → So (both (holds T) (R E T) x y z) = λ x y z q. or_l (holds T x y z) _ q in
        or_case (holds T a b c) _ (and_r (E a b c) _ h) (λ q. q) (λ q. absurd (or_case (holds T a c b) (holds T b c a) q
        (λ r. two-not_held _ S a b c (sub a ia) (sub b ib) (sub c ic) (new a b c h) (old a c b r) pc)
        (λ r. two-not_held _ S b a c (sub b ib) (sub a ia) (sub c ic) (new b a c (R-proper.swap a b c h)) (old b c a r) pc)))

    pub agrees_pc : Agrees E T → PC E S T
    agrees_pc ag = (wider (both (holds T) (R E T)) (both_proper (holds T) (R E T) (holds_proper T) R-proper)
        (λ a b c h. or_case (holds T a b c) (R E T a b c) h (λ q. let o = holds_e T a b c q in (o.in_a, o.in_b)) (λ q. let i = R-in a b c q in (i.0, i.1)))
        ).0 (T, record { species = λ x. refl; formed = formed_i T w; keeps = λ a b c ha hb hc h. or_case (holds T a b c) _ h (λ q. q) (ag a b c) })

    pub one_wider : (a b c : ℕ) → So (under T a) → So (under T b) → a ≢ b → a ≢ c → b ≢ c
        → CanBeHeld (both (R E T) (only a b c)) (under T) ↔ CanBeHeld (both (R E T) (only a b c)) S
    one_wider a b c ha hb ab ac bc = wider (both (R E T) (only a b c)) (both_proper (R E T) (only a b c) R-proper (only_proper a b c ab ac bc)) (λ x y z h. or_case (R E T x y z) _ h
        (λ q. let i = R-in x y z q in (i.0, i.1))
        (λ q. ⊎_elim (λ e. (rw e.0 ha, rw e.1 hb)) (λ e. (rw e.0 hb, rw e.1 ha)) (only_e a b c x y z q).1))
