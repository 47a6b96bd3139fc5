-- A good body that is written to the front of a room stands there, and nothing behind it has changed; so the body of a tree with exactly the species of a set,
-- in a room that a build of that set may be handed. Assumes nothing.
use mathlib.Core.Bool.{So}
use mathlib.Core.List.{List}
use mathlib.Core.Path.{◌∙◌, ◌≡◌, ap, subst, sym}
use Prim.Native.Nat.{◌≤◌, ℕ}
use native.Mathlib.Omega.{arith}
use lib.ListN.{drop, length, take}
use Rattle.sets.specs.Sets.{has}
use Rattle.sets.specs.Species.{Below}
use Rattle.trees.specs.Trees.{Tree, in_house_order, under, well_formed}
use Rattle.bodies.proofs.Back.{body_back, body_bad_length, body_good, body_length_lem, set_room}
use Rattle.bodies.proofs.Written.{written_behind, written_body}
use Rattle.bodies.specs.Draws.{body_of, node_count, tree_of, written}
use Rattle.bodies.specs.Nodes.{body_length, nodes}
use Rattle.answers.specs.Inputs.{Body}
use Rattle.admitting.proofs.Chosen.{set_below, set_small}
use Rattle.promises.specs.Demand2.{HouseBody, Wrote, front}
use Rattle.promises.specs.Inputs.{Buildable}

-- a body u of k nodes
module _ (n k : ℕ) (o u : List ℕ) (e : length u ≡ body_length k) (room : length u ≤ length o) where
  pub front_is : front k (written o u) ≡ u
  front_is = ap (λ (i : ℕ). take i (written o u)) (sym e) ∙ written_body o u room

  pub wrote : Body n u → Wrote n k o (written o u)
  wrote g = record {
    body = subst (λ (b : List ℕ). Body n b) (sym front_is) g;
    count = ap (λ (b : List ℕ). (nodes b).count) front_is ∙ count;
    behind = subst (λ (i : ℕ). drop i (written o u) ≡ drop i o) e (written_behind o u room);
  }
    where
      count : (nodes u).count ≡ k
      count = omega (arith, e)

-- a well-formed tree T with exactly the species of the set s
module _ (n s : ℕ) (t o : List ℕ) (g : Buildable n s t o) (T : Tree) (formed : So (well_formed T)) (species : (x : ℕ) → under T x ≡ has s x) where
  tree_below : Below n (under T)
  tree_below x h = set_below n s g.set x (sym (species x) ∙ h)

  tree_fits : length (body_of T) ≤ length o
  tree_fits = omega (arith, g.room, set_room n s (set_small n s g.set) T formed species)

  pub tree_stands : front (node_count T) (written o (body_of T)) ≡ body_of T
  tree_stands = front_is n (node_count T) o (body_of T) (body_length_lem T) tree_fits

  pub tree_back : tree_of (front (node_count T) (written o (body_of T))) ≡ T
  tree_back = ap tree_of tree_stands ∙ body_back n T formed tree_below g.count.most

  pub tree_wrote : Wrote n (node_count T) o (written o (body_of T))
  tree_wrote = wrote n (node_count T) o (body_of T) (body_length_lem T) tree_fits (record {
    good = body_good n T formed tree_below g.count.most;
    long = body_bad_length n T formed tree_below g.count.most;
  })

  pub tree_housed : So (in_house_order T) → HouseBody (front (node_count T) (written o (body_of T)))
  tree_housed h = record { preorder = tree_stands ∙ ap body_of (sym tree_back); children = subst (λ (u : Tree). So (in_house_order u)) (sym tree_back) h }
