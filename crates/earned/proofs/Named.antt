-- The first node of a tree's body whose group is not earned names the first unearned group of the tree, in preorder. Assumes nothing.
use mathlib.Core.Bool.{So}
use mathlib.Core.List.{List, [], ◌++◌, ◌∷◌}
use mathlib.Core.Path.{◌∙◌, ◌≡◌, ap, refl, subst, sym}
use Prim.Native.Nat.{◌+◌, ◌-◌, ◌<◌, ◌≤◌, suc, ℕ}
use native.Mathlib.Omega.{arith}
use Rattle.std.proofs.Common.{None}
use Rattle.sets.specs.Species.{Below, Species}
use Rattle.trees.proofs.LooseTheorems.{all_earned, unearned_first}
use Rattle.trees.specs.Check.{Earned, JoinedBeside}
use Rattle.trees.specs.Loosen.{NotEarned, unearned}
use Rattle.trees.specs.Trees.{Tree, groups, under, well_formed}
use Rattle.trees.specs.Triplets.{Proper, Triplets}
use Rattle.bodies.proofs.Back.{body_back, body_count, body_good}
use Rattle.bodies.proofs.Laid.{count_pos}
use Rattle.bodies.proofs.Preorder.{body_groups, body_one, groups_split, groups_from, of_groups}
use Rattle.bodies.proofs.Good.{good_more}
use Rattle.bodies.specs.Draws.{body_of, node_count, subtree}
use Rattle.bodies.specs.Nodes.{Good, Nodes, nodes}
use Rattle.earned.proofs.Earning.{none_earned}
use Rattle.earned.proofs.Siblings.{pair_siblings, siblings_pair}
use Rattle.earned.specs.Siblings.{FirstUnearnedNode, UnearnedNode}

module _ (E : Triplets) (pr : Proper E) (n : ℕ) (small : n ≤ 64) (T : Tree) (w : So (well_formed T)) (bd : Below n (under T)) where
  abbrev v : Nodes
  v = nodes (body_of T)

  count : v.count ≡ node_count T
  count = body_count T

  some : 0 < v.count
  some = omega (arith, count, count_pos T)

  good : Good n v
  good = body_good n T w bd small

  back : subtree v 0 ≡ T
  back = body_back n T w bd small

  -- where there is none
  pub none_named : FirstUnearnedNode E v None → unearned E n T ≡ []
  none_named f = (all_earned E pr n T w bd).1 (subst (Earned E) back (none_earned v (good_more n 64 v small good) E some f))

  module _ (r : ℕ) (f : UnearnedNode E v r) where
    not_earned : NotEarned E T (under (subtree v r))
    not_earned =
        let a = f.apart in
        let q = pair_siblings n v good (v.parent r) r a.sibling
        (record { later = f.later; within = f.within; parent = refl }) (record { later = a.later; within = a.within; parent = a.parent }) (λ z. a.other (sym z)) in
        subst (λ (t : Tree). NotEarned E t (under (subtree v r))) back (subtree v r, subtree v a.sibling, q, refl, a.split)

    -- a node before it is earned
    not-before : (i : ℕ) → i < r → NotEarned E T (under (subtree v i)) → ⊥
    not-before i l ne =
        let (s, s', q, e, split) = subst (λ (t : Tree). NotEarned E t (under (subtree v i))) (sym back) ne in
        let d = siblings_pair n v good some s s' q in
        let same : i ≡ d.one = body_one n T w bd small i d.one (omega (arith, count, f.within)) (omega (arith, count, d.one_child.within)) (e ∙ ap under d.one_draws) in
        let h = f.before d.one d.one_child.later (omega arith) d.other
        d.other_child.later d.other_child.within d.two (d.other_child.parent ∙ sym d.one_child.parent) in
        split (subst (λ (t : Tree). JoinedBeside E t s') (sym d.one_draws) (subst (λ (t : Tree). JoinedBeside E (subtree v d.one) t) (sym d.other_draws) h))

    -- where there is one
    pub first_named : (k : List Species) × (unearned E n T ≡ under (subtree v r) ∷ k)
    first_named =
        let m = node_count T - suc r in
        let e : node_count T ≡ r + suc m = omega (arith, count, f.within) in
        let z : 0 + r ≡ r = omega arith in
        let cut : groups T ≡ groups_from v r 0 ++ (under (subtree v r) ∷ groups_from v m (suc r)) =
        body_groups n T w bd small ∙ ap (λ (k : ℕ). groups_from v k 0) e ∙ groups_split v r (suc m) 0 ∙ ap (λ (k : ℕ). groups_from v r 0 ++ groups_from v (suc m) k) z in
        unearned_first E pr n T w bd (groups_from v r 0) (groups_from v m (suc r)) (under (subtree v r)) cut not_earned
        (λ H h ne. let (i, _, l, q) = of_groups v r 0 H h in not-before i (omega arith) (subst (NotEarned E T) q ne))
