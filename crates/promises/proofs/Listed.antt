-- Listing a good collection: the table says what some tree of it holds or has as a fan, and nothing else. Assumes nothing.
use mathlib.Core.Bool.{Bool, So, ◌||◌, false≢true}
use mathlib.Core.List.{List}
use mathlib.Core.Logic.{◌↔◌}
use mathlib.Core.Path.{◌∙◌, ◌≡◌, ap, refl, subst, sym}
use Prim.Native.Nat.{◌<◌, suc, zero, ℕ}
use native.Mathlib.Omega.{arith}
use borrow.Author.Tests.{eqb-true}
use lib.Dec.{eqb}
use Rattle.sets.proofs.Bools.{ne_e, or_case, or_l, or_r, test}
use Rattle.trees.proofs.Splits.{holds_e, holds_proper}
use Rattle.sets.proofs.Tests.{number_is}
use Rattle.sets.specs.Sets.{has}
use Rattle.sets.specs.Species.{Below, Species}
use Rattle.trees.specs.Trees.{under}
use Rattle.trees.specs.Triplets.{Proper, fan, holds}
use Rattle.tables.proofs.Telling.{table_tells, told_as, told_is}
use Rattle.tables.specs.Bytes.{entered}
use Rattle.bodies.proofs.Drawn.{tree_below}
use Rattle.bodies.proofs.Good.{length_good}
use Rattle.bodies.specs.Draws.{tree_of}
use Rattle.bodies.specs.Nodes.{nodes}
use Rattle.refusals.specs.Told.{told}
use Rattle.answers.specs.Inputs.{Table}
use Rattle.collections.proofs.Whole.{read_pass, whole_long}
use Rattle.collections.specs.Collection.{Collection}
use Rattle.collections.specs.Layout.{body_at, species, trees}
use Rattle.collections.specs.Occurs.{occurring, occurs_up_to}
use Rattle.collections.specs.Reads.{count_values, counts_of}
use Rattle.listing.specs.Lists.{list_of, said_up_to}
use Rattle.promises.specs.Operations.{Given, gives, lists, reads}
use Rattle.promises.specs.Inputs.{Listable}
use Rattle.promises.specs.Demand2.{IsSet, ListsRight, ReadsRight, SomeTreeHas, SomeTreeHolds}
use Rattle.promises.proofs.Accepted.{list_pass}
use Rattle.promises.proofs.Tabled.{Speaks, table_exact, table_good}

-- what is so of the first m is so of some of them
module _ (P W : ℕ → Bool) (none : So (W 0) → ⊥) (step : (m : ℕ) → W (suc m) ≡ (W m || P m)) where
  some_below : (m : ℕ) → So (W m) ↔ ((k : ℕ) × (k < m) × So (P k))
  some_below zero = ((λ h. absurd (none h)), λ r. absurd (omega (arith, r.1)))
  some_below (suc m) =
      let ih = some_below m in (
        (λ h. or_case (W m) (P m) (sym (step m) ∙ h) (λ p. let r = ih.0 p in (r.0, omega (arith, r.1), r.2)) (λ p. (m, omega arith, p))),
        λ r. step m ∙ test (eqb r.0 m)
            (λ e. or_r (W m) _ (subst (λ (k : ℕ). So (P k)) (eqb-true r.0 m e) r.2))
            (λ e. let n = ne_e r.0 m e in or_l (W m) _ (ih.1 (r.0, omega (arith, n, r.1), r.2))),
      )

-- what the first m trees say is what some of them holds, or has as a fan
pub held_some : (b : List ℕ) (m x y z : ℕ) → So ((said_up_to b m).triplets x y z) ↔ ((k : ℕ) × (k < m) × So (holds (tree_of (body_at b k)) x y z))
unfolding said_up_to
held_some b m x y z = some_below (λ k. holds (tree_of (body_at b k)) x y z) (λ k. (said_up_to b k).triplets x y z) false≢true (λ k. refl) m

pub fanned_some : (b : List ℕ) (m x y z : ℕ) → So ((said_up_to b m).fans x y z) ↔ ((k : ℕ) × (k < m) × So (fan (tree_of (body_at b k)) x y z))
unfolding said_up_to
fanned_some b m x y z = some_below (λ k. fan (tree_of (body_at b k)) x y z) (λ k. (said_up_to b k).fans x y z) false≢true (λ k. refl) m

pub held_proper : (b : List ℕ) (m : ℕ) → Proper (said_up_to b m).triplets
held_proper b m =
    record {
      swap = λ x y z h. let r = (held_some b m x y z).0 h in (held_some b m y x z).1 (r.0, r.1, (holds_proper (tree_of (body_at b r.0))).swap x y z r.2);
      two = λ x y z h. let r = (held_some b m x y z).0 h in (holds_proper (tree_of (body_at b r.0))).two x y z r.2;
      third = λ x y z h. let r = (held_some b m x y z).0 h in (holds_proper (tree_of (body_at b r.0))).third x y z r.2;
    }

-- what occurs in the first m trees is under the root of some of them
pub occurs_some : (b : List ℕ) (m x : ℕ) → So (occurs_up_to b m x) ↔ ((k : ℕ) × (k < m) × So (under (tree_of (body_at b k)) x))
unfolding occurs_up_to
occurs_some b m x = some_below (λ k. under (tree_of (body_at b k)) x) (λ k. occurs_up_to b k x) false≢true (λ k. refl) m

module _ (b : List ℕ) (w : Collection b) where
  -- only species of the collection do
  pub occurs_below : Below (species b) (occurs_up_to b (trees b))
  occurs_below x h =
      let r = (occurs_some b (trees b) x).0 h in
      tree_below (species b) (nodes (body_at b r.0)) (w.good r.0 r.1) (length_good (body_at b r.0) (whole_long b w r.0 r.1)).0 x r.2

  pub occurring-has : has (occurring b) ≡ occurs_up_to b (trees b)
  occurring-has = number_is 64 (occurs_up_to b (trees b)) (λ x h. omega (arith, occurs_below x h, w.most))

  occurring_is : IsSet (occurring b) (SomeTreeHas b)
  occurring_is x = subst (λ (S : Species). So (S x) ↔ SomeTreeHas b x) (sym occurring-has) (occurs_some b (trees b) x)

  -- what reading tells of a collection
  pub good_read : ReadsRight b (reads b)
  good_read = subst (ReadsRight b) (sym (rw ((read_pass b).1 w) refl)) (record { set = occurring b; told_is = refl; occurs = occurring_is })

module _ (b t : List ℕ) (g : Listable b t) where
  pub lists_is : lists b t ≡ gives (told 0 (count_values (counts_of b))) (list_of b)
  lists_is = rw ((list_pass b t).1 g) refl

  pub good_listed : ListsRight b (lists b t)
  good_listed = subst (λ (h : Given). ListsRight b h) (sym lists_is) (record {
    reads = record { set = occurring b; told_is = refl; occurs = occurring_is b g.collection };
    table = told_as (species b) (list_of b) (held_some b (trees b)) (fanned_some b (trees b)) (table_tells (species b) (said_up_to b (trees b)));
  })

module _ (b : List ℕ) (w : Collection b) where
  pub held_speaks : Speaks (species b) (said_up_to b (trees b)).triplets
  held_speaks x y z h =
      let r = (held_some b (trees b) x y z).0 h in
      let v = nodes (body_at b r.0) in
      let o = holds_e (tree_of (body_at b r.0)) x y z r.2 in
      let u = tree_below (species b) v (w.good r.0 r.1) (length_good (body_at b r.0) (whole_long b w r.0 r.1)).0 in
      (u x o.in_a, u y o.in_b, u z o.in_c)

  -- what the demand asks of the table tells all of it: it is a good table, and what is entered in it is what some tree holds
  module _ (g : Given) (r : ListsRight b g) where
    pub listed_is : g.after ≡ list_of b
    listed_is = told_is (species b) (said_up_to b (trees b)) g.after (told_as (species b) g.after (λ x y z. let s = held_some b (trees b) x y z in (s.1, s.0))
        (λ x y z. let s = fanned_some b (trees b) x y z in (s.1, s.0)) r.table)

    pub listed_good : Table (species b) g.after
    listed_good = subst (Table (species b)) (sym listed_is) (table_good (species b) (said_up_to b (trees b)))

    pub listed_exact : (x y z : ℕ) → So (entered g.after x y z) ↔ SomeTreeHolds b x y z
    listed_exact x y z = subst (λ (q : Bool). So q ↔ SomeTreeHolds b x y z)
        (sym (ap (λ (t : List ℕ). entered t x y z) listed_is ∙ table_exact (species b) (said_up_to b (trees b)) (held_proper b (trees b)) held_speaks x y z)) (held_some b (trees b) x y z)
