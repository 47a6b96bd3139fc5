-- The tree of good nodes is well formed, and its species are below n. Assumes nothing.
use mathlib.Core.Path.{◌≡◌, refl, sym, ap, subst}
use mathlib.Core.Bool.{So}
use mathlib.Core.List.{List, [], ◌∷◌, Memᴰ}
use Prim.Native.Nat.{ℕ, suc, ◌<◌}
use native.Mathlib.Omega.{arith}
use lib.ListN.{length}
use Rattle.sets.specs.Species.{Ascending, Below}
use Rattle.trees.specs.Trees.{under, well_formed}
use Rattle.trees.proofs.Formed.{Formed, FormedF, formed_i}
use Rattle.bodies.specs.Nodes.{Nodes, children, Good}
use Rattle.bodies.specs.Draws.{forest_of, grow, subtree}
use Rattle.bodies.proofs.Under.{Child, ascend_mem, bounded, by_children, children-apart, children_ascend, degree_forest, is_child, subtree-eq, under_f-mem}

module _ (n : ℕ) (v : Nodes) (g : Good n v) where
  formed_forest : (i m : ℕ) (l : List ℕ) → ((c : ℕ) → Memᴰ c l → Child v i c) → Ascending m l → ((c : ℕ) → Child v i c → Formed (subtree v c))
      → FormedF (forest_of (subtree v) l)
  formed_forest i m [] h a ih = tt
  formed_forest i m (c ∷ l) h a ih =
      let hc = h c (Memᴰ.head refl) in (
        ih c hc,
        (λ x p q. let r = under_f-mem (subtree v) l x q in
            children-apart n v g i c r.0 x hc (h r.0 (Memᴰ.tail r.1)) (ascend_mem (suc c) l a.1 r.0 r.1) p r.2),
        formed_forest i (suc c) l (λ d k. h d (Memᴰ.tail k)) a.1 ih,
      )

  formed_step : (i : ℕ) → i < v.count → ((c : ℕ) → Child v i c → Formed (subtree v c)) → Formed (subtree v i)
  formed_step i h ih = subst Formed (sym (subtree-eq n v g i h)) (go (children v i) refl)
    where
      go : (l : List ℕ) → children v i ≡ l → Formed (grow (v.species i) (forest_of (subtree v) l))
      go [] e = tt
      go (c ∷ cs) e = (
        omega (arith, degree_forest (subtree v) (c ∷ cs), ap length e, g.two i h (omega (arith, ap length e))),
        formed_forest i 1 (c ∷ cs) (λ d m. is_child v i d (subst (λ (l : List ℕ). Memᴰ d l) (sym e) m))
            (subst (λ (l : List ℕ). Ascending 1 l) e (children_ascend v i)) ih,
      )

  pub subtree_formed : (i : ℕ) → i < v.count → Formed (subtree v i)
  subtree_formed = by_children n v g (λ i. Formed (subtree v i)) formed_step

  pub subtree-below : (i : ℕ) → i < v.count → Below n (under (subtree v i))
  subtree-below i h x s = bounded n v g i x h s

  pub tree_formed : 0 < v.count → So (well_formed (subtree v 0))
  tree_formed h = formed_i (subtree v 0) (subtree_formed 0 h)

  pub tree_below : 0 < v.count → Below n (under (subtree v 0))
  tree_below h = subtree-below 0 h
