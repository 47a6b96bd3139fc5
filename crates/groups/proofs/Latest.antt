-- Of the groups of good nodes, the last one that has two species is their smallest common group. Assumes nothing.
use mathlib.Core.Bool.{So, ◌&&◌, cond, false, false≢true}
use mathlib.Core.List.{List}
use mathlib.Core.Logic.{◌⊎◌, inl, inr, ⊎_elim}
use mathlib.Core.Path.{◌∙◌, ◌≡◌, ap, fun_ext, refl, subst, sym}
use Prim.Native.Nat.{◌*◌, ◌+◌, ◌<◌, ◌≤◌, ℕ}
use native.Mathlib.Decide.{ℕ_discrete}
use native.Mathlib.Omega.{arith}
use borrow.Author.Tests.{not-true}
use lib.ListN.{length, length-replicate, replicate}
use Rattle.sets.proofs.Bools.{and_i, and_l, and_r, bool_ext, not_e, test}
use Rattle.sets.proofs.Zeros.{zero-at}
use Rattle.sets.proofs.Tests.{has-number, number_empty}
use Rattle.sets.specs.Sets.{has, number}
use Rattle.sets.specs.Species.{Species}
use Rattle.trees.specs.Trees.{under}
use Rattle.groups.proofs.Common.{common_e, common-least, common_own}
use Rattle.bodies.proofs.Drawn.{tree_formed}
use Rattle.bodies.proofs.NodeGroups.{all_under, group_node, node_group, over}
use Rattle.bodies.proofs.Under.{under_in}
use Rattle.bodies.specs.Draws.{subtree}
use Rattle.groups.specs.Groups.{Meets, Stamped, cell, cells, common, set_of}
use Rattle.bodies.specs.Nodes.{Good, Nodes}

-- ---- the last of the first i nodes whose group has both, or none of them

module _ (v : Nodes) (a b : ℕ) where
  abbrev Both : ℕ → Type 0
  Both j = So (under (subtree v j) a) × So (under (subtree v j) b)

  pub record Last (i m : ℕ) : Type 0 where
    pub node : ℕ
    pub below : node < i
    pub group : m ≡ set_of (subtree v node)
    pub both : Both node
    pub last : (j : ℕ) → j < i → Both j → j ≤ node

  pub record Never (i m : ℕ) : Type 0 where
    pub empty : m ≡ 0
    pub never : (j : ℕ) → j < i → Both j → ⊥

  abbrev pub Latest : ℕ → ℕ → Type 0
  Latest i m = Never i m ⊎ Last i m

  pub latest_start : (m : ℕ) → m ≡ 0 → Latest 0 m
  latest_start m e = inl (record { empty = e; never = λ j h. absurd (omega arith) })

  module _ (i m : ℕ) where
    others : (C : ℕ → Type 0) → (Both i → C i) → ((j : ℕ) → j < i → Both j → C j) → (j : ℕ) → j < i + 1 → Both j → C j
    others C f k j h p = go (ℕ_discrete j i)
      where
        go : Dec (j ≡ i) → C j
        go (yes e) = subst C (sym e) (f (subst Both e p))
        go (no n) = k j (omega arith) p

    pub latest_step : (g : ℕ) → a < 64 → b < 64 → g ≡ set_of (subtree v i) → Latest i m → Latest (i + 1) (cond (has g a && has g b) g m)
    latest_step g ha hb e l =
        let t = under (subtree v i) a && under (subtree v i) b in
        let q : (has g a && has g b) ≡ t = rw (e, has-number 64 (under (subtree v i)) a ha, has-number 64 (under (subtree v i)) b hb) refl in
        test t
        (λ h. inr (record {
          node = i;
          below = omega arith;
          group = rw (q ∙ h) e;
          both = (and_l (under (subtree v i) a) _ h, and_r (under (subtree v i) a) _ h);
          last = λ j k p. omega arith;
        }))
        (λ h.
        let f : (has g a && has g b) ≡ false = q ∙ not-true t h in
        let n : Both i → ⊥ = λ p. not_e t h (and_i (under (subtree v i) a) _ p.0 p.1) in
        ⊎_elim
        (λ z. inl (record { empty = rw f z.empty; never = others (λ j. ⊥) n z.never }))
        (λ z. inr (record {
          node = z.node;
          below = omega (arith, z.below);
          group = rw f z.group;
          both = z.both;
          last = others (λ j. j ≤ z.node) (λ p. absurd (n p)) z.last;
        }))
        l)

  -- it is the smallest common group
  pub latest_common : (n : ℕ) → Good n v → 0 < v.count → (m : ℕ) → Latest v.count m → m ≡ number 64 (common (subtree v 0) a b)
  latest_common n g pos m (inl z) = z.empty ∙ sym (ap (number 64) (fun_ext (λ x. bool_ext (common (subtree v 0) a b x) false
      (λ h. let i = common_e (subtree v 0) a b x h in absurd (z.never 0 pos (i.left, i.right))) (λ h. absurd (false≢true h)))) ∙ number_empty 64)
  latest_common n g pos m (inr z) =
      let t = subtree v 0 in
      let k = z.node in
      let up : (x : ℕ) → So (under (subtree v k) x) → So (under t x) = λ x. under_in n v g 0 k x z.below (all_under n v g k z.below) in
      let o = common_own t a b (tree_formed n v g pos) (up a z.both.0) (up b z.both.1) in
      let r = group_node n v g 0 pos (common t a b) o.0 in
      let p : Both r.0 = (subst (λ (G : Species). So (G a)) r.2 o.1, subst (λ (G : Species). So (G b)) r.2 o.2) in
      let u = over n v g r.0 k a (z.last r.0 r.1 p) r.1 z.below p.0 z.both.0 in
      z.group ∙ ap (number 64) (fun_ext (λ x. bool_ext (under (subtree v k) x) (common t a b x)
      (λ h. subst (λ (G : Species). So (G x)) (sym r.2) (under_in n v g r.0 k x z.below u h))
      (common-least t a b (under (subtree v k)) (node_group n v g k z.below) z.both.0 z.both.1 x)))

-- ---- the table of pairs after the first i nodes

pub record NodesTo (v : Nodes) (i : ℕ) (out : List ℕ) : Type 0 where
  pub size : length out ≡ cells
  pub cell : (x y : ℕ) → x < 64 → y < 64 → Latest v x y i (cell out x y)

pub nodes-start : (v : Nodes) → NodesTo v 0 (replicate cells 0)
nodes-start v = record {
  size = length-replicate {A = ℕ} cells 0;
  cell = λ x y hx hy. latest_start v x y (cell (replicate cells 0) x y) (zero-at cells (x * 64 + y));
}

pub nodes-step : (v : Nodes) (i g : ℕ) (out new : List ℕ) → g ≡ set_of (subtree v i) → NodesTo v i out → Stamped (λ x y. has g x && has g y) g out new → NodesTo v (i + 1) new
nodes-step v i g out new e r q = record {
  size = q.0;
  cell = λ x y hx hy. subst (Latest v x y (i + 1)) (sym (q.1 x y hy)) (latest_step v x y i (cell out x y) g hx hy e (r.cell x y hx hy));
}

pub nodes_end : (n : ℕ) (v : Nodes) → Good n v → 0 < v.count → (i : ℕ) (out : List ℕ) → i ≡ v.count → NodesTo v i out → Meets (subtree v 0) out
nodes_end n v g pos i out e r = record {
  size = r.size;
  pair = λ x y hx hy. latest_common v x y n g pos (cell out x y) (subst (λ (k : ℕ). Latest v x y k (cell out x y)) e (r.cell x y hx hy));
}
