-- The core of two species lies near them: it may be looked for in any set that has the two sibling groups where they part ways. And for a tree
-- that passes PC one look at it decides whether a triplet is sure. Assumes nothing.
use mathlib.Core.Bool.{So, false≢true}
use mathlib.Core.Logic.{◌≢◌, inl, inr, ⊎_elim}
use mathlib.Core.Path.{◌≡◌, refl, sym}
use Prim.Native.Nat.{ℕ}
use borrow.Author.Tests.{eqb-true}
use Rattle.sets.proofs.Bools.{and_i, and_l, bool_ext, not_e, or_case, or_l, or_r, test}
use Rattle.sets.specs.Species.{Below, Inside, Species, either}
use Rattle.trees.proofs.Agreement.{Agrees, R-proper, agrees_held}
use Rattle.trees.proofs.Alike.{alike}
use Rattle.trees.proofs.Chain.{Barred}
use Rattle.trees.proofs.Core.{Core, core_bars, core_in}
use Rattle.trees.proofs.Criterion.{held_fewer}
use Rattle.trees.proofs.Formed.{Formed}
use Rattle.trees.proofs.Kids.{child_of}
use Rattle.trees.proofs.Siblings.{between, lie}
use Rattle.trees.proofs.Splits.{holds_e, holds_swap}
use Rattle.trees.proofs.Triplets.{only_e, only_i}
use Rattle.trees.specs.Check.{R, core, sure}
use Rattle.trees.specs.Trees.{Child, Forest, Siblings, Tree, cons, deep, leaf, nil, node, top, under, under_f}
use Rattle.trees.specs.Triplets.{Proper, Triplets, both, holds, only}

-- a and c part ways at two siblings
abbrev Ways : Tree → ℕ → ℕ → Type 0
Ways T a c = (s : Tree) × (s' : Tree) × Siblings T s s' × So (under s a) × So (under s' c)

module _ (a c : ℕ) (ac : a ≢ c) where
  mutual
    ways_tree : (t : Tree) → So (under t a) → So (under t c) → Ways t a c
    ways_tree (leaf x) ha hc = absurd (ac (rw (← (eqb-true x a ha), ← (eqb-true x c hc)) refl))
    ways_tree (node f) ha hc = let r = ways_forest f ha in test (under r.0 c)
        (λ q. let z = r.3 q in (z.0, z.1, deep r.1 z.2, z.3, z.4))
        (λ q. let o = child_of f c hc in (r.0, o.0, top r.1 o.1 (λ e. not_e (under r.0 c) q (rw e o.2)), r.2, o.2))

    ways_forest : (f : Forest) → So (under_f f a) → (s : Tree) × Child s f × So (under s a) × (So (under s c) → Ways s a c)
    ways_forest nil h = absurd (false≢true h)
    ways_forest (cons t f) h = or_case (under t a) (under_f f a) h
        (λ k. (t, inl refl, k, λ q. ways_tree t k q))
        (λ k. let r = ways_forest f k in (r.0, inr r.1, r.2, r.3))

pub part_ways : (T : Tree) (a c : ℕ) → a ≢ c → So (under T a) → So (under T c) → (s : Tree) × (s' : Tree) × Siblings T s s' × So (under s a) × So (under s' c)
part_ways T a c ac = ways_tree a c ac T

-- the core of a and c is that of c and a
only_turn : (a c b x y z : ℕ) → So (only a c b x y z) → So (only c a b x y z)
only_turn a c b x y z h = let o = only_e a c b x y z h in only_i c a b x y z o.0 (⊎_elim (λ p. inr p) (λ p. inl p) o.1)

barred_turn : (E : Triplets) (S : Species) (a b c : ℕ) → Barred E S a b c → Barred E S c b a
barred_turn E S a b c h k = h (held_fewer (both E (only c a b)) (both E (only a c b)) S
    (λ x y z hx hy hz q. or_case (E x y z) (only a c b x y z) q (or_l (E x y z) _) (λ r. or_r (E x y z) _ (only_turn a c b x y z r))) k)

pub core_turn : (E : Triplets) (S : Species) (a c : ℕ) (X : Species) → Core E S a c X → Core E S c a X
core_turn E S a c X k b cb ba = let i = k b (λ e. ba (sym e)) (λ e. cb (sym e)) in
    ((λ h. let r = i.0 h in (r.0, barred_turn E S a b c r.1)), λ h. i.1 (h.0, barred_turn E S c b a h.1))

module _ (E : Triplets) (pr : Proper E) (N : ℕ) (T : Tree) (w : Formed T) (bd : Below N (under T)) (ag : Agrees E T) where
  -- any set of T's species that has the two siblings where a and c part ways
  pub core_near : (s s' : Tree) → Siblings T s s' → (a c : ℕ) → So (under s a) → So (under s' c) → (S X : Species) → Inside S (under T) → Inside (either (under s) (under s')) S
      → Core (R E T) S a c X → Core (R E T) (under T) a c X
  core_near s s' sib a c ha hc S X sub near =
      let l = lie T s s' w sib in
      let ac : a ≢ c = λ e. l.apart a ha (rw e hc) in
      core_in (R E T) N (R-proper E pr T) a c ac (under T) bd (l.in_s a ha) (l.in_s' c hc) (agrees_held E pr T w ag) S X sub (near a (or_l (under s a) _ ha))
      (λ U u g x hx. near x (between (R E T) T s s' w (λ i j k _ _ _ q. (holds_e T i j k (ag i j k q)).splits) sib a c ha hc U u g x hx))

  -- one look
  pub sure-core : (a b c : ℕ) (X : Species) → Core (R E T) (under T) a c X → So (holds T a b c) → sure E N T a b c ≡ X b
  sure-core a b c X k h =
      let o = holds_e T a b c h in
      let i = k b o.ab o.bc in
      let Y = core (R E T) N N (under T) a c b in
      let p = core_bars E pr N T w bd ag a b c h in
      let q = core_bars E pr N T w bd ag b a c (holds_swap T a b c h) in
      bool_ext (sure E N T a b c) (X b)
      (λ s. i.1 (o.in_b, p.0 (and_l Y _ s)))
      (λ x. let z = (i.0 x).1 in and_i Y _ (p.1 z) (q.1 ((alike E pr N T w bd ag a b c h).0 z)))
