-- A draft whose first nodes are the body of a good tree in house order. Assumes nothing.
use mathlib.Core.Bool.{So, false}
use mathlib.Core.List.{List}
use mathlib.Core.Path.{◌∙◌, ◌≡◌, ap, subst, sym}
use Prim.Native.Nat.{◌<◌, ◌≤◌, ℕ}
use native.Mathlib.Omega.{arith}
use lib.ListN.{length, take}
use Rattle.sets.specs.Species.{Below}
use Rattle.trees.proofs.Theorems.{HouseOrder, house_order}
use Rattle.trees.specs.Trees.{Tree, house, in_house_order, under, well_formed}
use Rattle.bodies.proofs.Back.{body_back, body_bad_length, body_count, body_good, body_length_lem, leaves_few, nodes_few}
use Rattle.bodies.proofs.Counts.{all_nodes}
use Rattle.bodies.proofs.Drawn.{tree_below, tree_formed}
use Rattle.bodies.proofs.Housed.{house_count}
use Rattle.bodies.proofs.Laid.{count_pos}
use Rattle.bodies.proofs.Written.{written_body}
use Rattle.bodies.specs.Draws.{body_of, node_count, ordered, tree_of, written}
use Rattle.bodies.specs.Nodes.{Good, bad_length, body_length, most_nodes, nodes}
use Rattle.dropping.specs.Drafts.{HouseDraft, draft_tree}

-- ---- what is known of it

module _ (n : ℕ) (small : n ≤ 64) (m : ℕ) (draft : List ℕ) (h : HouseDraft n m draft) where
  pub held_few : m ≤ most_nodes
  held_few = let T = draft_tree m draft in omega (arith, nodes_few T h.formed, leaves_few n T h.formed h.below, h.count)

  pub held_some : 0 < m
  held_some = omega (arith, count_pos (draft_tree m draft), h.count)

  pub held_good : Good n (nodes (take (body_length m) draft))
  held_good = subst (λ (b : List ℕ). Good n (nodes b)) (sym h.body) (body_good n (draft_tree m draft) h.formed h.below small)

  pub held_length : bad_length (length (take (body_length m) draft)) ≡ false
  held_length = ap (λ (b : List ℕ). bad_length (length b)) h.body ∙ body_bad_length n (draft_tree m draft) h.formed h.below small

  pub held_count : (nodes (take (body_length m) draft)).count ≡ m
  held_count = ap (λ (b : List ℕ). (nodes b).count) h.body ∙ body_count (draft_tree m draft) ∙ h.count

-- ---- the house-order body of good nodes, written to the front of a draft

module _ (n : ℕ) (small : n ≤ 64) (b : List ℕ) (g : Good n (nodes b)) (some : 0 < (nodes b).count) (draft : List ℕ) (fits : body_length (nodes b).count ≤ length draft) where
  in_house : HouseOrder (tree_of b) (house (tree_of b))
  in_house = house_order (tree_of b) (tree_formed n (nodes b) g some)

  house-below : Below n (under (house (tree_of b)))
  house-below x h = tree_below n (nodes b) g some x (sym (in_house.species x) ∙ h)

  house-nodes : node_count (house (tree_of b)) ≡ (nodes b).count
  house-nodes = house_count (tree_of b) ∙ all_nodes n (nodes b) g some

  front : take (body_length (nodes b).count) (written draft (ordered b)) ≡ body_of (house (tree_of b))
  front =
      let e : length (ordered b) ≡ body_length (nodes b).count = omega (arith, body_length_lem (house (tree_of b)), house-nodes) in
      ap (λ (k : ℕ). take k (written draft (ordered b))) (sym e) ∙ written_body draft (ordered b) (omega arith)

  pub arranged_tree : draft_tree (nodes b).count (written draft (ordered b)) ≡ house (tree_of b)
  arranged_tree = ap tree_of front ∙ body_back n (house (tree_of b)) in_house.formed house-below small

  pub arranged_draft : HouseDraft n (nodes b).count (written draft (ordered b))
  arranged_draft = record {
    formed = subst (λ (t : Tree). So (well_formed t)) (sym arranged_tree) in_house.formed;
    below = subst (λ (t : Tree). Below n (under t)) (sym arranged_tree) house-below;
    ordered = subst (λ (t : Tree). So (in_house_order t)) (sym arranged_tree) in_house.ordered;
    count = ap node_count arranged_tree ∙ house-nodes;
    body = front ∙ ap body_of (sym arranged_tree);
  }
