-- From its own triplets a tree is built again: two species of one child are linked by a witness in another child, and species of different
-- children have no link, so that it is Aho's tree for them. Assumes nothing.
use mathlib.Core.Bool.{So, false}
use mathlib.Core.Logic.{◌≢◌}
use mathlib.Core.Path.{◌≡◌, subst}
use Prim.Native.Nat.{ℕ}
use borrow.Author.Tests.{eqb-true}
use lib.Dec.{eqb}
use Rattle.sets.proofs.Bools.{ne_e, or_r, test}
use Rattle.sets.specs.Species.{Below}
use Rattle.trees.proofs.Aho.{aho_is_built}
use Rattle.trees.proofs.Formed.{Formed}
use Rattle.trees.proofs.Joins.{follow}
use Rattle.trees.proofs.Kids.{EveryF, Kid, Omits, child_of, every_child, kids, omits}
use Rattle.trees.proofs.Lowest.{Housed}
use Rattle.trees.proofs.Splits.{node_splits, root_splits, splits, splits_in, splits_f}
use Rattle.trees.specs.Aho.{AhoForest, AhoTree, Parted}
use Rattle.trees.specs.Build.{build, tree}
use Rattle.trees.specs.Links.{Walk, stay, via}
use Rattle.trees.specs.Trees.{Forest, Tree, cons, leaf, nil, node, under, under_f}
use Rattle.trees.specs.Triplets.{Proper, Triplets, cuts}

-- E says of the species of t what t says
abbrev pub Agree : Triplets → Tree → Type 0
Agree E t = (a b c : ℕ) → a ≢ b → So (under t a) → So (under t b) → So (under t c) → (So (E a b c) → So (splits t a b c)) × (So (splits t a b c) → So (E a b c))

module _ (E : Triplets) where
  -- the children are the parts
  agree_parted : (F : Forest) → Formed (node F) → Agree E (node F) → Parted E (under_f F) F
  agree_parted F w ag x y hx hy = (
    (λ c.
        let k = every_child (Kid F) c.0 F (kids F w.1) c.1 in
        let o = every_child (Omits F) c.0 F (omits F w.1 w.0) c.1 in
        test (eqb x y)
        (λ e. subst (λ (z : ℕ). Walk E (under_f F) x z) (eqb-true x y e) (stay x))
        (λ e. via x y o.0 hx hy o.1 ((ag x y o.0 (ne_e x y e) hx hy o.1).1
        (or_r (cuts (under_f F) x y o.0) (splits_f F x y o.0) (k.up x y o.0 (root_splits c.0 x y o.0 c.2 c.3 o.2)))) (stay y))),
    λ v.
        let c = child_of F x hx in
        let k = every_child (Kid F) c.0 F (kids F w.1) c.1 in (
          c.0,
          c.1,
          c.2,
          follow E (under_f F) (under c.0) (λ i j l p hi hj hl e. test (eqb i j)
              (λ q. subst (λ (z : ℕ). So (under c.0 z)) (eqb-true i j q) p)
              (λ q. (splits_in c.0 i j l (k.down i j l p (node_splits F i j l hl ((ag i j l (ne_e i j q) hi hj hl).0 e)))).1)) x y v c.2,
        ),
  )

  mutual
    agree_aho : (t : Tree) → Formed t → Agree E t → AhoTree E t
    agree_aho (leaf x) w ag = tt
    agree_aho (node f) w ag = (agree_parted f w ag, agree_children f ag f (kids f w.1))

    agree_children : (F : Forest) → Agree E (node F) → (f : Forest) → EveryF (Kid F) f → AhoForest E f
    agree_children F ag nil q = tt
    agree_children F ag (cons t f) q = (
      agree_aho t q.0.formed (λ a b c ne ha hb hc.
          let r = ag a b c ne (q.0.inside a ha) (q.0.inside b hb) (q.0.inside c hc) in (
            (λ e. q.0.down a b c ha (node_splits F a b c (q.0.inside c hc) (r.0 e))),
            λ s. r.1 (or_r (cuts (under_f F) a b c) (splits_f F a b c) (q.0.up a b c s)),
          )),
      agree_children F ag f q.1,
    )

-- a tree in house order comes back as it was
pub rebuilt : (E : Triplets) (N : ℕ) → Proper E → (t : Tree) → Below N (under t) → Formed t → Housed t → Agree E t → build E N (under t) ≡ tree t
rebuilt E N pr t bd w h ag = aho_is_built false E N pr t bd w h (agree_aho E t w ag)
