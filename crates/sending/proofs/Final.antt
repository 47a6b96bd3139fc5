-- The tree that loosening leaves of a good body: its body is good, and in preorder. Assumes nothing.
use mathlib.Core.Bool.{So}
use mathlib.Core.List.{List}
use mathlib.Core.Path.{◌∙◌, ◌≡◌, refl, subst, sym}
use Prim.Native.Nat.{ℕ, ◌≤◌}
use native.Mathlib.Omega.{arith}
use lib.ListN.{length}
use Rattle.sets.specs.Species.{Below}
use Rattle.trees.proofs.LooseTheorems.{dropped_62, final_formed, final_species}
use Rattle.trees.specs.Trees.{Tree, under, well_formed}
use Rattle.tables.proofs.Bytes.{entered_proper}
use Rattle.tables.specs.Bytes.{entered}
use Rattle.bodies.proofs.Back.{body_back, body_bad_length, body_good, body_length_lem, leaves_few, nodes_few}
use Rattle.bodies.proofs.Drawn.{tree_below, tree_formed}
use Rattle.bodies.proofs.Good.{length_good}
use Rattle.bodies.specs.Draws.{body_of, node_count, tree_of}
use Rattle.bodies.specs.Nodes.{longest, most_nodes, nodes}
use Rattle.answers.specs.Inputs.{Body, Count}
use Rattle.easing.specs.Eases.{eased}
use Rattle.sending.specs.Pulls.{InPreorder}

module _ {n : ℕ} {b : List ℕ} (g : Body n b) where
  pub built_formed : So (well_formed (tree_of b))
  built_formed = tree_formed n (nodes b) g.good (length_good b g.long).0

  pub built_below : Below n (under (tree_of b))
  built_below = tree_below n (nodes b) g.good (length_good b g.long).0

  module _ (c : Count n) (t : List ℕ) where
    abbrev F : Tree
    F = (eased n t b).final

    pub final_well : So (well_formed F)
    unfolding eased
    final_well = final_formed (entered t) (entered_proper t) n (tree_of b) built_formed built_below

    pub final_below : Below n (under F)
    unfolding eased
    final_below x h = built_below x (sym (final_species (entered t) (entered_proper t) n (tree_of b) built_formed built_below x) ∙ h)

    pub final_dropped : length (eased n t b).dropped ≤ 62
    unfolding eased
    final_dropped = dropped_62 (entered t) (entered_proper t) n (tree_of b) built_formed built_below c.most

    pub final_nodes : node_count F ≤ most_nodes
    final_nodes = omega (arith, nodes_few F final_well, leaves_few n F final_well final_below, c.most)

    pub final_long : length (body_of F) ≤ longest
    final_long = omega (arith, body_length_lem F, final_nodes)

    pub final_body_lem : Body n (body_of F)
    final_body_lem = record { good = body_good n F final_well final_below c.most; long = body_bad_length n F final_well final_below c.most }

    -- the body draws that tree
    pub final_tree : tree_of (body_of F) ≡ F
    final_tree = body_back n F final_well final_below c.most

    pub final_preorder : InPreorder (body_of F)
    final_preorder =
        let e : F ≡ tree_of (body_of F) = sym final_tree in
        record {
          formed = subst (λ (u : Tree). So (well_formed u)) e final_well;
          below = subst (λ (u : Tree). Below 64 (under u)) e (λ x h. omega (arith, final_below x h, c.most));
          body = subst (λ (u : Tree). body_of F ≡ body_of u) e refl;
        }
