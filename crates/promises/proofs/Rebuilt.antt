-- Listing loses nothing: a good tree with exactly the species of a set is known by its table, and the builder, handed that set, gives it back in house order.
-- Assumes nothing.
use mathlib.Core.Bool.{So, false, false≢true}
use mathlib.Core.List.{List}
use mathlib.Core.Logic.{◌↔◌, ◌≢◌}
use mathlib.Core.Path.{◌∙◌, ◌≡◌, ap, refl, subst, sym}
use Prim.Native.Nat.{◌≤◌, ℕ}
use native.Mathlib.Omega.{arith}
use lib.ListN.{length}
use Rattle.sets.proofs.Sizes.{size-zero}
use Rattle.sets.proofs.Tests.{has_empty, true_has}
use Rattle.sets.specs.Sets.{has, size}
use Rattle.sets.specs.Species.{Below}
use Rattle.trees.proofs.Formed.{formed_e}
use Rattle.trees.proofs.Lowest.{lowest_in}
use Rattle.trees.proofs.Splits.{holds_e, holds_proper}
use Rattle.trees.proofs.Theorems.{rebuild}
use Rattle.trees.proofs.Triplets.{fan_in}
use Rattle.trees.specs.Build.{tree}
use Rattle.trees.specs.Trees.{SameGroups, house, lowest, under, well_formed}
use Rattle.trees.specs.Triplets.{holds}
use Rattle.tables.proofs.Bytes.{entered_proper}
use Rattle.tables.proofs.Known.{known_by_table}
use Rattle.tables.specs.Bytes.{entered}
use Rattle.tables.specs.Filled.{said_by, table_for}
use Rattle.triples.specs.Index.{C}
use Rattle.bodies.proofs.Drawn.{tree_below}
use Rattle.bodies.proofs.Houses.{good_formed}
use Rattle.bodies.proofs.Good.{length_good}
use Rattle.bodies.specs.Draws.{node_count, ordered, tree_of, written}
use Rattle.bodies.specs.Nodes.{nodes, room_for}
use Rattle.outside.specs.Reaches.{Enclosed}
use Rattle.building.specs.Builds.{looked_by, outcome, outcome_by}
use Rattle.admitting.specs.GoodSet.{GoodSet}
use Rattle.promises.specs.Operations.{Given, builds, lists}
use Rattle.answers.specs.Inputs.{Count, Table}
use Rattle.promises.specs.Inputs.{Buildable}
use Rattle.promises.specs.Demand2.{front}
use Rattle.promises.specs.Demand3.{Full, Returns, table_of}
use Rattle.promises.proofs.Alone.{alone_table}
use Rattle.promises.proofs.Built.{builds_tree}
use Rattle.promises.proofs.Ordered.{in_house, ordered_same}
use Rattle.promises.proofs.Tabled.{Speaks, table_enclosed, table_exact, table_good}
use Rattle.promises.proofs.Wrote.{tree_stands, tree_wrote}

module _ (n s : ℕ) (b : List ℕ) (c : Count n) (f : Full n s b) where
  pub formed : So (well_formed (tree_of b))
  formed = good_formed n c.most b f.body.good f.body.long

  tree_in_lem : Below n (under (tree_of b))
  tree_in_lem = tree_below n (nodes b) f.body.good (length_good b f.body.long).0

  -- the set is one that a build may be handed
  pub full_set : GoodSet n s
  full_set =
      let l = lowest_in (tree_of b) (formed_e (tree_of b) formed) in
      let z : size s ≢ 0 = λ e. false≢true (sym (has_empty (lowest (tree_of b))) ∙ ap (λ (u : ℕ). has u (lowest (tree_of b))) (sym (size-zero s e)) ∙ sym (f.every (lowest (tree_of b))) ∙ l) in
      record { some = omega (arith, z); below = λ x h. tree_in_lem x (f.every x ∙ true_has s x h) }

  set_in : Below n (has s)
  set_in x h = tree_in_lem x (f.every x ∙ h)

  -- the table of the tree
  abbrev its : List ℕ
  its = table_for n (said_by (tree_of b))

  its_good : Table n its
  its_good = table_good n (said_by (tree_of b))

  speaks : Speaks n (holds (tree_of b))
  speaks x y z h = let o = holds_e (tree_of b) x y z h in (tree_in_lem x o.in_a, tree_in_lem y o.in_b, tree_in_lem z o.in_c)

  pub its_exact : (x y z : ℕ) → entered its x y z ≡ holds (tree_of b) x y z
  its_exact = table_exact n (said_by (tree_of b)) (holds_proper (tree_of b)) speaks

  -- it says nothing of other species
  its_enclosed : Enclosed n s its
  its_enclosed = table_enclosed n s (said_by (tree_of b))
      (λ x y z h. let o = holds_e (tree_of b) x y z h in (sym (f.every x) ∙ o.in_a, sym (f.every y) ∙ o.in_b, sym (f.every z) ∙ o.in_c))
      (λ x y z h. let o = fan_in (tree_of b) x y z h in (sym (f.every x) ∙ o.0, sym (f.every y) ∙ o.1, sym (f.every z) ∙ o.2))

  its_outcome : outcome n s its ≡ tree (house (tree_of b))
  unfolding outcome_by
  its_outcome = rebuild (entered its) (entered_proper its) n (has s) set_in (tree_of b) formed f.every (λ x y z _ _ _. its_exact x y z)

  pub its_buildable : (o : List ℕ) → room_for (size s) ≤ length o → Buildable n s its o
  its_buildable o room = record { count = c; table = its_good; set = full_set; enclosed = its_enclosed; room = room }

  module _ (o : List ℕ) (room : room_for (size s) ≤ length o) where
    abbrev count : ℕ
    count = node_count (house (tree_of b))

    formed_house : So (well_formed (house (tree_of b)))
    formed_house = (in_house n b c f.body).formed

    species-house : (x : ℕ) → under (house (tree_of b)) x ≡ has s x
    species-house x = (in_house n b c f.body).species x ∙ f.every x

    stands : front count (written o (ordered b)) ≡ ordered b
    stands = tree_stands n s its o (its_buildable o room) (house (tree_of b)) formed_house species-house

    its_rebuilt : Returns n b o (builds n s its o)
    its_rebuilt = subst (λ (g : Given). Returns n b o g) (sym (builds_tree n s its o (its_buildable o room) (house (tree_of b)) its_outcome)) (record {
      count = count;
      looked = looked_by false n s its;
      told_is = refl;
      wrote = tree_wrote n s its o (its_buildable o room) (house (tree_of b)) formed_house species-house;
      body = stands;
      groups = subst (λ (u : List ℕ). SameGroups (tree_of u) (tree_of b)) (sym stands) (ordered_same n b c f.body);
    })

    pub full_rebuilt : (t : List ℕ) → length t ≡ C n 3 → Returns n b o (builds n s (table_of lists n b t) o)
    full_rebuilt t l = subst (λ (u : List ℕ). Returns n b o (builds n s u o)) (sym (alone_table n b c f.body t l)) its_rebuilt

pub full_known : (n s : ℕ) (b b' t t' : List ℕ) → Count n → Full n s b → Full n s b' → length t ≡ C n 3 → length t' ≡ C n 3
    → (table_of lists n b t ≡ table_of lists n b' t') ↔ SameGroups (tree_of b) (tree_of b')
full_known n s b b' t t' c f f' l l' =
    let k = known_by_table n (has s) (set_in n s b c f) (tree_of b) (tree_of b') (formed n s b c f) (formed n s b' c f') f.every f'.every in
    let p = alone_table n b c f.body t l in
    let q = alone_table n b' c f'.body t' l' in
    ((λ e. k.0 (sym p ∙ e ∙ q)), λ s. p ∙ k.1 s ∙ sym q)
