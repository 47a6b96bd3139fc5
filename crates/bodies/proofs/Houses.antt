-- A body in house order: it is good, it has the body's length and node count, its tree is the body's tree in house order, and two bodies have the same
-- groups exactly when they are equal in house order. Assumes nothing.
use mathlib.Core.Bool.{So, false}
use mathlib.Core.List.{List}
use mathlib.Core.Logic.{◌↔◌}
use mathlib.Core.Path.{◌∙◌, ◌≡◌, ap, subst, sym}
use Prim.Native.Nat.{◌<◌, ◌≤◌, ℕ}
use native.Mathlib.Omega.{arith}
use lib.ListN.{length}
use Rattle.sets.specs.Species.{Below}
use Rattle.trees.proofs.Theorems.{HouseOrder, house_order, known_by_house}
use Rattle.trees.specs.Trees.{SameGroups, house, under, well_formed}
use Rattle.bodies.proofs.Back.{body_back, body_bad_length, body_good, body_length_lem}
use Rattle.bodies.proofs.Counts.{all_nodes}
use Rattle.bodies.proofs.Drawn.{tree_below, tree_formed}
use Rattle.bodies.proofs.Housed.{house_count}
use Rattle.bodies.proofs.Good.{length_good}
use Rattle.bodies.specs.Draws.{body_of, node_count, ordered, tree_of}
use Rattle.bodies.specs.Nodes.{Good, bad_length, nodes}

module _ (n : ℕ) (small : n ≤ 64) where
  module _ (b : List ℕ) (g : Good n (nodes b)) (l : bad_length (length b) ≡ false) where
    some_node : 0 < (nodes b).count
    some_node = (length_good b l).0

    pub good_formed : So (well_formed (tree_of b))
    good_formed = tree_formed n (nodes b) g some_node

    in_house : HouseOrder (tree_of b) (house (tree_of b))
    in_house = house_order (tree_of b) good_formed

    house-below : Below n (under (house (tree_of b)))
    house-below x h = tree_below n (nodes b) g some_node x (subst So (in_house.species x) h)

    pub ordered_tree : tree_of (ordered b) ≡ house (tree_of b)
    ordered_tree = body_back n (house (tree_of b)) in_house.formed house-below small

    pub ordered_good : Good n (nodes (ordered b))
    ordered_good = body_good n (house (tree_of b)) in_house.formed house-below small

    pub ordered-bad_length : bad_length (length (ordered b)) ≡ false
    ordered-bad_length = body_bad_length n (house (tree_of b)) in_house.formed house-below small

    house-nodes : node_count (house (tree_of b)) ≡ (nodes b).count
    house-nodes = house_count (tree_of b) ∙ all_nodes n (nodes b) g some_node

    pub ordered-length : length (ordered b) ≡ length b
    ordered-length = omega (arith, body_length_lem (house (tree_of b)), house-nodes, length_good b l)

  pub ordered-groups : (b b' : List ℕ) → Good n (nodes b) → Good n (nodes b') → bad_length (length b) ≡ false → bad_length (length b') ≡ false
      → SameGroups (tree_of b) (tree_of b') ↔ (ordered b ≡ ordered b')
  ordered-groups b b' g g' l l' =
      let k = known_by_house (tree_of b) (tree_of b') (good_formed b g l) (good_formed b' g' l') in
      ((λ s. ap body_of (k.0 s)), λ e. k.1 (sym (ordered_tree b g l) ∙ ap tree_of e ∙ ordered_tree b' g' l'))
