-- Putting a good body in house order: what is written is a good body in house order, with the same groups and no others. Assumes nothing.
use mathlib.Core.Bool.{So}
use mathlib.Core.List.{List, [], ◌∷◌}
use mathlib.Core.Path.{◌∙◌, ◌≡◌, ap, refl, subst, sym}
use Prim.Native.Nat.{◌≤◌, ℕ}
use native.Mathlib.Omega.{arith}
use lib.ListN.{length}
use Rattle.trees.proofs.Theorems.{HouseOrder, house_order}
use Rattle.trees.specs.Trees.{SameGroups, Tree, house, in_house_order}
use Rattle.bodies.proofs.Houses.{good_formed, ordered-bad_length, ordered_good, ordered-length, ordered_tree}
use Rattle.bodies.proofs.Good.{length_good}
use Rattle.bodies.specs.Draws.{body_of, ordered, tree_of, written}
use Rattle.bodies.specs.Nodes.{body_length, nodes}
use Rattle.refusals.specs.Told.{number_of_nodes, told, value}
use Rattle.promises.specs.Operations.{Given, gives, orders}
use Rattle.answers.specs.Inputs.{Body, Count}
use Rattle.promises.specs.Inputs.{Orderable}
use Rattle.promises.specs.Demand2.{HouseBody, OrdersRight, front}
use Rattle.promises.proofs.Accepted.{order_pass}
use Rattle.promises.proofs.Wrote.{front_is, wrote}

module _ (n : ℕ) (b : List ℕ) (c : Count n) (g : Body n b) where
  pub in_house : HouseOrder (tree_of b) (house (tree_of b))
  in_house = house_order (tree_of b) (good_formed n c.most b g.good g.long)

  pub ordered_is : tree_of (ordered b) ≡ house (tree_of b)
  ordered_is = ordered_tree n c.most b g.good g.long

  pub ordered_body : Body n (ordered b)
  ordered_body = record { good = ordered_good n c.most b g.good g.long; long = ordered-bad_length n c.most b g.good g.long }

  ordered_housed : HouseBody (ordered b)
  ordered_housed = record { preorder = ap body_of (sym ordered_is); children = subst (λ (T : Tree). So (in_house_order T)) (sym ordered_is) in_house.ordered }

  pub ordered_same : SameGroups (tree_of (ordered b)) (tree_of b)
  ordered_same = subst (λ (T : Tree). SameGroups T (tree_of b)) (sym ordered_is) in_house.groups

  long : length (ordered b) ≡ body_length (nodes b).count
  long = ordered-length n c.most b g.good g.long ∙ (length_good b g.long).2

module _ (n : ℕ) (b o : List ℕ) (g : Orderable n b o) where
  orders_is : orders n b o ≡ gives (told 0 (value number_of_nodes (nodes b).count ∷ [])) (written o (ordered b))
  orders_is = rw ((order_pass n b o).1 g) refl

  fits : length (ordered b) ≤ length o
  fits = omega (arith, g.room, ordered-length n g.count.most b g.body.good g.body.long)

  stands : front (nodes b).count (written o (ordered b)) ≡ ordered b
  stands = front_is n (nodes b).count o (ordered b) (long n b g.count g.body) fits

  pub good_ordered : OrdersRight n b o (orders n b o)
  good_ordered = subst (λ (h : Given). OrdersRight n b o h) (sym orders_is) (record {
    count = (nodes b).count;
    told_is = refl;
    wrote = wrote n (nodes b).count o (ordered b) (long n b g.count g.body) fits (ordered_body n b g.count g.body);
    housed = subst HouseBody (sym stands) (ordered_housed n b g.count g.body);
    groups = subst (λ (u : List ℕ). SameGroups (tree_of u) (tree_of b)) (sym stands) (ordered_same n b g.count g.body);
  })
