-- The rule of the veto build's tree, and the build: what the veto build gives keeps it at each node, and a tree in house order that keeps it is what the veto
-- build gives. Assumes nothing.
use mathlib.Core.Bool.{So, not, true}
use mathlib.Core.List.{List, [], ◌∷◌}
use mathlib.Core.Logic.{◌⊎◌, inl, inr}
use mathlib.Core.Path.{◌∙◌, ◌≡◌, ap, fun_ext, subst, sym}
use Prim.Native.Nat.{ℕ}
use native.Mathlib.Omega.{arith}
use Rattle.sets.proofs.Bools.{bool_ext, not_e, test}
use Rattle.sets.proofs.Members.{members-two}
use Rattle.sets.specs.Species.{Below, Species, members}
use Rattle.trees.proofs.Aho.{raised, rule_is_built}
use Rattle.trees.proofs.Formed.{Formed}
use Rattle.trees.proofs.Joins.{joined_e, joined_i, joined_walks, walks_joined}
use Rattle.trees.proofs.Kids.{EveryF, two-under}
use Rattle.trees.proofs.Lowest.{Housed}
use Rattle.trees.proofs.Outcomes.{tree_same}
use Rattle.trees.proofs.Splits.{holds_e, node_splits}
use Rattle.trees.proofs.Star.{leaves-degree, leaves_each, leaves_split, star_formed, star_housed, star-species}
use Rattle.trees.proofs.Unique.{house_same, same_house}
use Rattle.trees.specs.Aho.{Parted}
use Rattle.trees.specs.Build.{ending, leaf_each, tree, veto}
use Rattle.trees.specs.Links.{JoinedByWalks, joined}
use Rattle.trees.specs.Trees.{Forest, Tree, cons, nil, node, under, under_f}
use Rattle.trees.specs.Triplets.{Proper, Triplets, holds}
use Rattle.trees.specs.Veto.{Leaves, VetoForest, VetoTree}

leaves_forest : (E : Triplets) (l : List ℕ) → VetoForest E (leaf_each l)
leaves_forest E [] = tt
leaves_forest E (x ∷ l) = (tt, leaves_forest E l)

veto_forest : (E : Triplets) (f : Forest) → EveryF (VetoTree E) f → VetoForest E f
veto_forest E nil h = tt
veto_forest E (cons t f) h = (h.0, veto_forest E f h.1)

pub leaves_hold : (f : Forest) → Leaves f → (a b c : ℕ) → So (holds (node f) a b c) → ⊥
leaves_hold f l a b c h = let o = holds_e (node f) a b c h in leaves_split f l a b c o.ab (node_splits f a b c o.in_c o.splits)

module _ (E : Triplets) (N : ℕ) (pr : Proper E) where
  joined-vetoed : (S : Species) → Below N S → So (joined E N S) → (t : Tree) → ending true N S ≡ tree t → VetoTree E t
  joined-vetoed S bd j t e = subst (VetoTree E) (tree_same _ t e) (
    record {
      joined = λ w. leaves_each (members N S);
      else_parted = λ n. absurd (n (subst (JoinedByWalks E) (sym (fun_ext (star-species N S bd))) (joined_walks E S N pr bd (joined_e E N pr S bd j))));
    },
    leaves_forest E (members N S),
  )

  node_vetoed : (f : Forest) → Below N (under_f f) → (u : ℕ) → So (under_f f u) → So (not (joined E N (under_f f))) → Parted E (under_f f) f → EveryF (VetoTree E) f → VetoTree E (node f)
  node_vetoed f bd u hu nj p q = (
    record { joined = λ w. absurd (not_e (joined E N (under_f f)) nj (joined_i E N pr (under_f f) bd u hu (walks_joined E (under_f f) w))); else_parted = λ n. p },
    veto_forest E f q,
  )

  pub veto_keeps : (S : Species) → Below N S → (u : ℕ) → So (S u) → (t : Tree) → veto E N S ≡ tree t → VetoTree E t
  veto_keeps = raised true E N pr (VetoTree E) (λ x. tt) joined-vetoed node_vetoed

  -- ---- and from such a tree to the build

  veto_every : (f : Forest) → VetoForest E f → EveryF (VetoTree E) f
  veto_every nil h = tt
  veto_every (cons t f) h = (h.0, veto_every f h.1)

  -- leaves in house order are those of their species
  leaves_one : (f : Forest) → Below N (under_f f) → Formed (node f) → Housed (node f) → Leaves f → node (leaf_each (members N (under_f f))) ≡ node f
  leaves_one f bd w h l =
      let m = members N (under_f f) in
      let T = node (leaf_each m) in
      let (a, b, ha, hb, ne) = two-under f w.1 w.0 in
      let w' : Formed T = (omega (arith, leaves-degree m, members-two N (under_f f) bd a b ha hb ne), star_formed N (under_f f)) in
      sym (house_same T w' (star_housed N (under_f f)))
      ∙ same_house T (node f) w' w (star-species N (under_f f) bd) (λ a b c. bool_ext (holds T a b c) (holds (node f) a b c)
      (λ k. absurd (leaves_hold (leaf_each m) (leaves_each m) a b c k)) (λ k. absurd (leaves_hold f l a b c k)))
      ∙ house_same (node f) w h

  node_rule : (f : Forest) → Below N (under_f f) → Formed (node f) → Housed (node f) → VetoTree E (node f)
      → Parted E (under_f f) f ⊎ (So (joined E N (under_f f)) × (ending true N (under_f f) ≡ tree (node f)))
  node_rule f bd w h r = test (joined E N (under_f f))
      (λ j. inr (j, ap tree (leaves_one f bd w h (r.0.joined (joined_walks E (under_f f) N pr bd (joined_e E N pr (under_f f) bd j))))))
      (λ n. inl (r.0.else_parted (λ k. let (u, y, hu, hy, ne) = two-under f w.1 w.0 in not_e (joined E N (under_f f)) n (joined_i E N pr (under_f f) bd u hu (walks_joined E (under_f f) k)))))

  pub veto_is_built : (t : Tree) → Below N (under t) → Formed t → Housed t → VetoTree E t → veto E N (under t) ≡ tree t
  veto_is_built = rule_is_built true E N pr (VetoTree E) node_rule (λ f r. veto_every f r.1)
