-- Building from a good table: Aho's tree, with every species, which holds all that was entered, in house order; or a set that shows why there is
-- none. Assumes nothing.
use mathlib.Core.Bool.{So, false}
use mathlib.Core.List.{List, [], ◌∷◌}
use mathlib.Core.Logic.{inl, inr}
use mathlib.Core.Path.{◌∙◌, ◌≡◌, ap, refl, subst, sym}
use Prim.Native.Nat.{◌≤◌, ℕ}
use native.Mathlib.Omega.{arith}
use lib.ListN.{length}
use Rattle.sets.proofs.Least.{some_member}
use Rattle.sets.proofs.Members.{members_more}
use Rattle.sets.proofs.Sizes.{not_empty, size-members}
use Rattle.sets.proofs.Tests.{number_is, number_lt, true_has}
use Rattle.sets.specs.Sets.{Has, has, number, size}
use Rattle.sets.specs.Species.{Below, Inside, Species, members}
use Rattle.trees.proofs.Theorems.{StoppingSet, build_refuses, built_aho, built_tree, stopping_set}
use Rattle.trees.specs.Aho.{AhoTree}
use Rattle.trees.specs.Build.{Outcome, build, stop, tree}
use Rattle.trees.specs.Held.{HeldBy}
use Rattle.trees.specs.Links.{JoinedByWalks}
use Rattle.trees.specs.Trees.{Tree, in_house_order}
use Rattle.tables.proofs.Bytes.{entered_proper}
use Rattle.tables.specs.Bytes.{entered}
use Rattle.bodies.specs.Draws.{body_of, node_count, tree_of, written}
use Rattle.refusals.specs.Told as Answers
use Rattle.refusals.specs.Told.{looked_count, number_of_nodes, told, value}
use Rattle.answers.proofs.Answered.{first_on, then_nothing}
use Rattle.answers.specs.Looks.{first_refusal}
use Rattle.admitting.proofs.Chosen.{set_below}
use Rattle.admitting.specs.GoodSet.{input_looks}
use Rattle.building.specs.Builds.{build_looks, look_outcome, looked_by, outcome, outcome_by}
use Rattle.promises.specs.Operations.{Given, builds, gives}
use Rattle.promises.specs.Inputs.{Buildable}
use Rattle.promises.specs.Demand2.{BuildsRight, front}
use Rattle.promises.proofs.Accepted.{build_pass}
use Rattle.promises.proofs.Wrote.{tree_back, tree_housed, tree_wrote}

module _ (n s : ℕ) (t o : List ℕ) (g : Buildable n s t o) where
  -- ---- what the build came to, and what is given back

  first_is : (r : Outcome) → outcome n s t ≡ r → first_refusal (build_looks n s t (length o)) ≡ look_outcome r
  first_is r e = first_on (input_looks n s t (length o)) (look_outcome (outcome n s t) ∷ []) ((build_pass n s t o).1 g) ∙ then_nothing _ ∙ ap look_outcome e

  pub builds_tree : (T : Tree) → outcome n s t ≡ tree T → builds n s t o ≡ gives (told 0 (value number_of_nodes (node_count T) ∷ value looked_count (looked_by false n s t) ∷ [])) (written o (body_of T))
  builds_tree T e = rw (first_is (tree T) e, e) refl

  pub builds_stop : (U : Species) → outcome n s t ≡ stop U → builds n s t o ≡ gives (told 10 (value Answers.stopping_set (number 64 U) ∷ value looked_count (looked_by false n s t) ∷ [])) o
  builds_stop U e = rw (first_is (stop U) e) refl

  -- ---- a tree

  -- some species is in the set
  abbrev pub some : (x : ℕ) × Has s x
  some = some_member s (not_empty s g.set.some)

  pub in_below : Below n (has s)
  in_below = set_below n s g.set

  pub some_in : So (has s some.0)
  some_in = true_has s some.0 some.1

  module _ (T : Tree) (e : build (entered t) n (has s) ≡ tree T) where
    built : HeldBy (entered t) (has s) T × So (in_house_order T)
    built = built_tree (entered t) (entered_proper t) n (has s) in_below some.0 some_in T e

    back : tree_of (front (node_count T) (written o (body_of T))) ≡ T
    back = tree_back n s t o g T built.0.formed built.0.species

    tree_built : BuildsRight (entered t) n (has s) o (gives (told 0 (value number_of_nodes (node_count T) ∷ value looked_count (looked_by false n s t) ∷ [])) (written o (body_of T)))
    tree_built = record {
      one_of = inl refl;
      keeps = λ z. record {
        count = node_count T;
        looked = looked_by false n s t;
        told_is = refl;
        wrote = tree_wrote n s t o g T built.0.formed built.0.species;
        held = subst (λ (u : Tree). HeldBy (entered t) (has s) u) (sym back) built.0;
        aho = subst (λ (u : Tree). AhoTree (entered t) u) (sym back) (built_aho (entered t) (entered_proper t) n (has s) in_below some.0 some_in T e);
        housed = tree_housed n s t o g T built.0.formed built.0.species built.1;
      };
      refuses = ((λ z. absurd (omega (arith, z))), λ no. absurd (no (T, built.0)));
      shows = λ z. absurd (omega (arith, z));
    }

  -- ---- a set that stops

  module _ (U : Species) (e : build (entered t) n (has s) ≡ stop U) where
    stops : StoppingSet (entered t) n (has s) U
    stops = stopping_set (entered t) (entered_proper t) n (has s) in_below some.0 some_in U e

    stops_below : Below n U
    stops_below x h = in_below x (stops.inside x h)

    is : has (number 64 U) ≡ U
    is = number_is 64 U (λ x h. omega (arith, stops_below x h, g.count.most))

    three : 3 ≤ size (number 64 U)
    three = omega (
      arith,
      stops.three,
      size-members 64 (number 64 U) (number_lt 64 U)
          ∙ ap (λ (P : Species). length (members 64 P)) is
          ∙ ap length (members_more n 64 U g.count.most stops_below),
    )

    stop_built : BuildsRight (entered t) n (has s) o (gives (told 10 (value Answers.stopping_set (number 64 U) ∷ value looked_count (looked_by false n s t) ∷ [])) o)
    stop_built = record {
      one_of = inr refl;
      keeps = λ z. absurd (omega (arith, z));
      refuses = ((λ z. (build_refuses (entered t) (entered_proper t) n (has s) in_below some.0 some_in).0 (U, e)), λ no. refl);
      shows = λ z. record {
        set = number 64 U;
        looked = looked_by false n s t;
        told_is = refl;
        inside = subst (λ (P : Species). Inside P (has s)) (sym is) stops.inside;
        three = three;
        joined = subst (λ (P : Species). JoinedByWalks (entered t) P) (sym is) stops.walks;
      };
    }

  pub good_built : BuildsRight (entered t) n (has s) o (builds n s t o)
  unfolding outcome_by
  good_built = go (build (entered t) n (has s)) refl
    where
      go : (r : Outcome) → build (entered t) n (has s) ≡ r → BuildsRight (entered t) n (has s) o (builds n s t o)
      go (tree T) e = subst (λ (h : Given). BuildsRight (entered t) n (has s) o h) (sym (builds_tree T e)) (tree_built T e)
      go (stop U) e = subst (λ (h : Given). BuildsRight (entered t) n (has s) o h) (sym (builds_stop U e)) (stop_built U e)
