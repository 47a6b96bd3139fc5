-- A node dropped from the tree in a draft: what is left, in house order, is the tree without the node's group. Assumes nothing.
use mathlib.Core.List.{List}
use mathlib.Core.Logic.Iff
use mathlib.Core.Logic.{◌↔◌, ◌≢◌}
use mathlib.Core.Path.{◌∙◌, ◌≡◌, ap, subst, sym}
use Prim.Native.Nat.{◌+◌, ◌<◌, ◌≤◌, ℕ}
use native.Mathlib.Omega.{arith}
use lib.ListN.{length, take}
use lib.Seq.{length-sets}
use Rattle.sets.specs.Species.{Species}
use Rattle.trees.proofs.House.{house-groups}
use Rattle.trees.proofs.LooseTheorems.{drop_unique}
use Rattle.trees.proofs.Theorems.{house_order}
use Rattle.trees.specs.Loosen.{drop}
use Rattle.trees.specs.Trees.{Group, Tree, house, under}
use Rattle.bodies.proofs.Back.{body_back, body_count, body_good}
use Rattle.bodies.proofs.Drawn.{tree_formed}
use Rattle.bodies.proofs.NodeGroups.{node_group}
use Rattle.bodies.proofs.Preorder.{body_one}
use Rattle.bodies.proofs.Puts.{front-species}
use Rattle.bodies.specs.Draws.{body_of, ordered, subtree, tree_of, written}
use Rattle.bodies.specs.Nodes.{Good, Nodes, body_length, longest, nodes, none}
use Rattle.dropping.proofs.Held.{arranged_draft, arranged_tree, held_few}
use Rattle.dropping.proofs.Without.{some_left, without_good, without_groups, without_two}
use Rattle.dropping.specs.Drafts.{HouseDraft, NodeDropped, draft_tree, group_at}
use Rattle.dropping.specs.Without.{Without}

module _ (n : ℕ) (small : n ≤ 64) (m : ℕ) (draft : List ℕ) (h : HouseDraft n m draft) where
  abbrev T : Tree
  T = draft_tree m draft

  abbrev v : Nodes
  v = nodes (body_of T)

  v_count : v.count ≡ m
  v_count = body_count T ∙ h.count

  good : Good n v
  good = body_good n T h.formed h.below small

  back : subtree v 0 ≡ T
  back = body_back n T h.formed h.below small

  one : (i j : ℕ) → i < v.count → j < v.count → under (subtree v i) ≡ under (subtree v j) → i ≡ j
  one i j hi hj = body_one n T h.formed h.below small i j (omega (arith, body_count T)) (omega (arith, body_count T))

  module _ (k : ℕ) (pos : 0 < k) (lt : k < m) (size : length draft ≡ longest) (inner : (nodes draft).species k ≡ none) (b : List ℕ)
      (w : Without (nodes (take (body_length m) draft)) k (nodes b)) where
    lt_v : k < v.count
    lt_v = omega (arith, v_count)

    w_v : Without v k (nodes b)
    w_v = subst (λ (o : List ℕ). Without (nodes o) k (nodes b)) h.body w

    inner_v : v.species k ≡ none
    inner_v = ap (λ (o : List ℕ). (nodes o).species k) (sym h.body) ∙ front-species draft m k lt ∙ inner

    pub less_good : Good n (nodes b)
    less_good = without_good n small v good k pos lt_v inner_v (nodes b) w_v

    pub less_some : 0 < (nodes b).count
    less_some = some_left n small v good k pos lt_v inner_v (nodes b) w_v

    pub less_count : (nodes b).count + 1 ≡ m
    less_count = omega (arith, w_v.count, v_count)

    other_groups : (H : Species) → Group (house (tree_of b)) H ↔ (Group T H × (H ≢ group_at T k))
    other_groups H = Iff.trans (house-groups (tree_of b) H)
        (subst (λ (t : Tree). Group (tree_of b) H ↔ (Group t H × (H ≢ group_at T k))) back (without_groups n small v good k pos lt_v inner_v (nodes b) w_v one H))

    less_tree : house (tree_of b) ≡ drop n (group_at T k) T
    less_tree =
        let o = house_order (tree_of b) (tree_formed n (nodes b) less_good less_some) in
        drop_unique n T h.formed h.below (group_at T k)
        (subst (λ (t : Tree). Group t (group_at T k)) back (node_group n v good k lt_v))
        (without_two n small v good k pos lt_v inner_v (nodes b) w_v)
        (λ e. omega (arith, pos, one k 0 lt_v (omega (arith, lt_v)) (e ∙ ap under (sym back))))
        (house (tree_of b)) o.formed o.ordered other_groups

    pub dropped_node : (draft' : List ℕ) → draft' ≡ written draft (ordered b) → NodeDropped n m k draft draft'
    dropped_node draft' e =
        let f : body_length (nodes b).count ≤ length draft = omega (arith, less_count, held_few n small m draft h) in
        let at : (m' : ℕ) → m' + 1 ≡ m → (nodes b).count ≡ m' = λ m' q. omega (arith, less_count) in
        rw e (record {
          size = length-sets draft 0 (ordered b);
          house = λ m' q. subst (λ (z : ℕ). HouseDraft n z (written draft (ordered b))) (at m' q) (arranged_draft n small b less_good less_some draft f);
          tree = λ m' q. subst (λ (z : ℕ). draft_tree z (written draft (ordered b)) ≡ drop n (group_at T k) T) (at m' q)
              (arranged_tree n small b less_good less_some draft f ∙ less_tree);
        })
