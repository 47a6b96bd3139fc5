-- Each group but the root's is earned exactly when the group of each node with children is joined beside that of each sibling node; and what the
-- numbers of the groups say. Assumes nothing.
use mathlib.Core.Bool.{Bool, So, false, false≢true, not, true}
use mathlib.Core.List.{List, [], ◌∷◌}
use mathlib.Core.Logic.{◌↔◌, ◌≢◌}
use mathlib.Core.Path.{◌∙◌, ◌≡◌, ap, refl, subst, sym}
use Prim.Native.Nat.{◌<◌, ℕ}
use native.Mathlib.Omega.{arith}
use Rattle.std.proofs.Common.{None, Option, Some}
use Rattle.std.specs.Prelude.{is_some}
use borrow.Author.Tests.{eqb-true}
use lib.ListN.{get_or, length}
use Rattle.sets.proofs.Tests.{has_empty, number_is}
use Rattle.sets.specs.Sets.{has}
use Rattle.sets.specs.Species.{Species, either}
use Rattle.trees.proofs.Lowest.{some_species}
use Rattle.trees.specs.Check.{Earned, JoinedBeside, Joins}
use Rattle.trees.specs.Trees.{Tree, leaf, under}
use Rattle.trees.specs.Triplets.{Triplets}
use Rattle.bodies.proofs.Drawn.{subtree-below, subtree_formed}
use Rattle.earned.proofs.Siblings.{pair_siblings, siblings_pair}
use Rattle.bodies.proofs.Under.{subtree_leaf}
use Rattle.bodies.specs.Draws.{subtree}
use Rattle.groups.specs.Groups.{Groups}
use Rattle.bodies.specs.Nodes.{Good, Nodes, children, none}
use Rattle.earned.specs.Siblings.{Beside, FirstUnearnedNode, UnearnedNode}

-- one species is always joined
one_joins : (E : Triplets) (S : Species) (x : ℕ) → Joins E S (under (leaf x))
one_joins E S x X cl u hu xu y hy = subst (λ (z : ℕ). So (X z)) (sym (eqb-true x u hu) ∙ eqb-true x y hy) xu

module _ (v : Nodes) (g : Good 64 v) where
  -- ---- the numbers of the groups

  module _ (l : List ℕ) (gs : Groups v l) where
    group_is : (i : ℕ) → i < v.count → has (get_or l i 0) ≡ under (subtree v i)
    group_is i h = ap has (gs.group i h) ∙ number_is 64 (under (subtree v i)) (subtree-below 64 v g i h)

    pub group_some : (i : ℕ) → i < v.count → 0 < get_or l i 0
    group_some i h =
        let r = some_species (subtree v i) (subtree_formed 64 v g i h) in
        let m : So (has (get_or l i 0) r.0) = ap (λ (P : Species). P r.0) (group_is i h) ∙ r.1 in
        let ne : get_or l i 0 ≢ 0 = λ e. false≢true (sym (has_empty r.0) ∙ subst (λ (s : ℕ). So (has s r.0)) e m) in
        omega (arith, ne)

    -- what an answer about two numbers says of the two groups
    pub group_told : (E : Triplets) (r : Bool) (i j : ℕ) → i < v.count → j < v.count
        → (r ≡ true) ↔ Joins E (either (has (get_or l i 0)) (has (get_or l j 0))) (has (get_or l i 0)) → (r ≡ true) ↔ JoinedBeside E (subtree v i) (subtree v j)
    group_told E r i j hi hj t = subst (λ (P : Species). (r ≡ true) ↔ Joins E (either P (under (subtree v j))) P) (group_is i hi)
        (subst (λ (P : Species). (r ≡ true) ↔ Joins E (either (has (get_or l i 0)) P) (has (get_or l i 0))) (group_is j hj) t)

  -- ---- from node to node

  -- a node without the species of inner nodes is a leaf, and its group is joined
  pub leaf_beside : (E : Triplets) (i j : ℕ) → i < v.count → v.species i ≢ none → Beside E v i j
  leaf_beside E i j h ne _ _ _ _ = go (children v i) refl
    where
      go : (l : List ℕ) → children v i ≡ l → JoinedBeside E (subtree v i) (subtree v j)
      go [] e = subst (λ (t : Tree). JoinedBeside E t (subtree v j)) (sym (subtree_leaf 64 v g i h e)) (one_joins E _ (v.species i))
      go (c ∷ l) e = absurd (ne (g.inner i h (omega (arith, ap length e))))

  earned_nodes : (E : Triplets) → 0 < v.count → Earned E (subtree v 0) ↔ ((i : ℕ) → 0 < i → i < v.count → (j : ℕ) → Beside E v i j)
  earned_nodes E h = (
    λ er i p q j p' q' ne e. er (subtree v i) (subtree v j)
        (pair_siblings 64 v g (v.parent i) i j (record { later = p; within = q; parent = refl }) (record { later = p'; within = q'; parent = e }) (λ z. ne (sym z))),
    λ b s s' q.
        let r = siblings_pair 64 v g h s s' q in
        let k = b r.one r.one_child.later r.one_child.within r.other
        r.other_child.later r.other_child.within r.two (r.other_child.parent ∙ sym r.one_child.parent) in
        subst (λ (t : Tree). JoinedBeside E t s') (sym r.one_draws) (subst (λ (t : Tree). JoinedBeside E (subtree v r.one) t) (sym r.other_draws) k),
  )

  -- there is no first node whose group is not earned exactly when each is
  pub none_earned : (E : Triplets) → 0 < v.count → FirstUnearnedNode E v None → Earned E (subtree v 0)
  none_earned E h f = (earned_nodes E h).1 f

  pub some_unearned : (E : Triplets) → 0 < v.count → (r : ℕ) → UnearnedNode E v r → Earned E (subtree v 0) → ⊥
  some_unearned E h r f er = let a = f.apart in a.split ((earned_nodes E h).0 er r f.later f.within a.sibling a.later a.within a.other a.parent)

  pub first_earned : (E : Triplets) → 0 < v.count → (r : Option ℕ) (b : Bool) → is_some r ≡ not b → FirstUnearnedNode E v r → (b ≡ true) ↔ Earned E (subtree v 0)
  first_earned E h None true e f = (λ _. none_earned E h f, λ _. refl)
  first_earned E h None false e f = absurd (false≢true e)
  first_earned E h (Some r) true e f = absurd (false≢true (sym e))
  first_earned E h (Some r) false e f = (λ q. absurd (false≢true q), λ er. absurd (some_unearned E h r f er))
