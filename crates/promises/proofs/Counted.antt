-- The number of triples that a build looks at, as it is promised; but for the tables of nested trees it is shown of any operations that keep demand 1. Assumes nothing.
use mathlib.Core.Bool.{Bool, ◌||◌, cond, false, true}
use mathlib.Core.List.{List, [], ◌++◌, ◌∷◌}
use mathlib.Core.Logic.{◌↔◌, ◌≢◌, ◌⊎◌, inl, inr, ⊎_elim}
use mathlib.Core.Path.{◌∙◌, ◌≡◌, ap, refl, subst, sym}
use Prim.Native.Nat.{◌≤◌, suc, ℕ}
use native.Mathlib.Omega.{arith}
use borrow.Author.Tests.{eqb-false, eqb-true, ne_eqb}
use lib.Dec.{eqb}
use lib.ListN.{length}
use Rattle.sets.proofs.Least.{some_member}
use Rattle.sets.proofs.Sizes.{not_empty, size-members}
use Rattle.sets.proofs.Tests.{true_has}
use Rattle.sets.specs.Sets.{Has, has, size}
use Rattle.trees.proofs.CountTheorems.{looked_64, looked_most, nested_reach, plain_first}
use Rattle.trees.proofs.VisitRule.{triples-append}
use Rattle.trees.specs.Combinations.{C}
use Rattle.trees.specs.Visits.{looked, triples, visited}
use Rattle.tables.proofs.Bytes.{entered_proper}
use Rattle.tables.specs.Bytes.{entered}
use Rattle.bodies.specs.Draws.{tree_of}
use Rattle.refusals.specs.Told.{Told, Value, looked_count, value}
use Rattle.answers.specs.Looks.{first_refusal, look_told}
use Rattle.admitting.proofs.Chosen.{set_below, set_small}
use Rattle.admitting.specs.GoodSet.{input_looks}
use Rattle.building.specs.Builds.{build_looks, looked_by, outcome}
use Rattle.building.specs.Vetoes.{vetoed}
use Rattle.promises.specs.Counting.{AtMost, Counting, Counts, CountsAll, Looked, NestedReach, NoMore, OneCounting, OthersNone, SaysNested, TreesReach}
use Rattle.promises.specs.Demand1.{Demand1, with_looked}
use Rattle.promises.specs.Inputs.{Buildable}
use Rattle.promises.specs.Operations.{Builder, Operations, koodhaxil, lists}
use Rattle.promises.proofs.Accepted.{accepts, node_values, vetoes_never_10}
use Rattle.promises.proofs.Alone.{alone_table}
use Rattle.promises.proofs.Chosen.{last_same}
use Rattle.promises.proofs.Promises.{demand1}
use Rattle.promises.proofs.Rebuilt.{formed, its_buildable, its_exact}

-- ---- what is told for it is one

pub looked_one : (r : Told) (c d : ℕ) → Looked r c → Looked r d → c ≡ d
looked_one r c d x y = ap (λ (v : Value). v.number) (last_same x.0 y.0 (value looked_count c) (value looked_count d) (sym x.1 ∙ y.1)).1

pub one_counting : OneCounting
one_counting v f h a b n s t o g c d x y = looked_one (f n s t o).told c _ x (a n s t o g) ∙ looked_one (h n s t o).told _ d (b n s t o g) y

-- ---- with which numbers it is returned

abbrev returned : ℕ → ℕ → ℕ
returned c k = cond (eqb k 0 || eqb k 10) c 0

returned_it : (c k : ℕ) → (k ≡ 0) ⊎ (k ≡ 10) → returned c k ≡ c
returned_it c k h = ⊎_elim (λ z. rw z refl) (λ z. rw z refl) h

returned_none : (c k : ℕ) → k ≢ 0 → k ≢ 10 → returned c k ≡ 0
returned_none c k z w = rw (ne_eqb k 0 z, ne_eqb k 10 w) refl

tells_returned : (c : ℕ) (r x : Told) → r ≡ with_looked c x → Looked r (returned c r.number)
tells_returned c r x e = (x.values, ap (λ (y : Told). y.values) e ∙ ap (λ (k : ℕ). x.values ++ (value looked_count (returned c k) ∷ [])) (sym (ap (λ (y : Told). y.number) e)))

-- 0 or 10, or neither
either : {P : Type 0} (k : ℕ) → ((k ≡ 0) ⊎ (k ≡ 10) → P) → (k ≢ 0 → k ≢ 10 → P) → P
either {P} k so not = go (eqb k 0) (eqb k 10) refl refl
  where
    go : (a b : Bool) → eqb k 0 ≡ a → eqb k 10 ≡ b → P
    go true b p q = so (inl (eqb-true k 0 p))
    go false true p q = so (inr (eqb-true k 10 q))
    go false false p q = not (eqb-false k 0 p) (eqb-false k 10 q)

-- ---- good input

module _ (n s : ℕ) (t o : List ℕ) (g : Buildable n s t o) (v : Bool) where
  abbrev some : (x : ℕ) × Has s x
  some = some_member s (not_empty s g.set.some)

  good_most : (triples n (visited v (entered t) n (has s)) ≤ C (suc (size s)) 4) × (triples n (visited v (entered t) n (has s)) ≤ 677040)
  unfolding looked
  good_most =
      let i = true_has s some.0 some.1 in
      let bd = set_below n s g.set in (
        subst (λ (k : ℕ). triples n (visited v (entered t) n (has s)) ≤ C (suc k) 4) (sym (size-members n s (set_small n s g.set)))
            (looked_most (entered t) (entered_proper t) n (has s) bd some.0 i v),
        looked_64 (entered t) (entered_proper t) n (has s) bd some.0 i g.count.most v,
      )

  good_reached : SaysNested (entered t) (has s) → triples n (visited v (entered t) n (has s)) ≡ C (suc (size s)) 4
  unfolding looked
  good_reached q =
      nested_reach (entered t) (entered_proper t) n (has s) (set_below n s g.set) q.tree q.formed q.nested q.species q.says v
      ∙ ap (λ (k : ℕ). C (suc k) 4) (sym (size-members n s (set_small n s g.set)))

-- ---- either build: f tells x and what it looked at, and answers 0 or 10 exactly where the input is good

module _ (v : Bool) (f : Builder) (tells : (n s : ℕ) (t o : List ℕ) → (x : Told) × ((f n s t o).told ≡ with_looked (looked_by v n s t) x))
    (good : (n s : ℕ) (t o : List ℕ) → (((f n s t o).told.number ≡ 0) ⊎ ((f n s t o).told.number ≡ 10)) ↔ Buildable n s t o) where
  told_so : (n s : ℕ) (t o : List ℕ) → Looked (f n s t o).told (returned (looked_by v n s t) (f n s t o).told.number)
  told_so n s t o = let (x, e) = tells n s t o in tells_returned (looked_by v n s t) (f n s t o).told x e

  counts_all : CountsAll v f
  unfolding looked_by looked
  counts_all n s t o g = subst (Looked (f n s t o).told) (returned_it (looked_by v n s t) (f n s t o).told.number ((good n s t o).1 g)) (told_so n s t o)

  others_none : OthersNone f
  others_none n s t o z w = subst (Looked (f n s t o).told) (returned_none (looked_by v n s t) (f n s t o).told.number z w) (told_so n s t o)

  at_most : AtMost f
  at_most n s t o c q = either (f n s t o).told.number
      (λ z.
      let g = (good n s t o).0 z in
      subst (λ (k : ℕ). (k ≤ C (suc (size s)) 4) × (k ≤ 677040)) (looked_one (f n s t o).told _ c (counts_all n s t o g) q) (good_most n s t o g v))
      (λ z w. let e = looked_one (f n s t o).told c 0 q (others_none n s t o z w) in (omega (arith, e), omega (arith, e)))

  reach : NestedReach f
  reach n s t o g q = subst (Looked (f n s t o).told) (good_reached n s t o g v q) (counts_all n s t o g)

  counts : Counts v f
  counts = record { counting = counts_all; others = others_none; most = at_most; reached = reach }

-- ---- operations that keep demand 1

module _ (L : Operations) (keeps : Demand1 L) where
  plain_counts : Counts false L.build
  plain_counts = counts false L.build (λ n s t o. (look_told (first_refusal (build_looks n s t (length o))) (node_values (outcome n s t)), (keeps.building n s t o).told_is)) (accepts L keeps).building

  veto_counts : Counts true L.veto
  veto_counts = counts true L.veto (λ n s t o. (look_told (first_refusal (input_looks n s t (length o))) (node_values (vetoed n s t)), (keeps.vetoing n s t o).told_is)) (λ n s t o.
      let a = (accepts L keeps).vetoing n s t o in
      (⊎_elim a.0 (λ z. absurd (vetoes_never_10 L keeps n s t o z)), λ g. inl (a.1 g)))

  plain_no_more : NoMore L.build L.veto
  plain_no_more n s t o c d x y = either (L.build n s t o).told.number
      (λ z.
      let g = ((accepts L keeps).building n s t o).0 z in
      let p = looked_one (L.build n s t o).told c _ x (plain_counts.counting n s t o g) in
      let q = looked_one (L.veto n s t o).told d _ y (veto_counts.counting n s t o g) in
      let (l, e) = plain_first (entered t) n (has s) in
      omega (arith, p, q, ap (triples n) e, triples-append n (visited false (entered t) n (has s)) l))
      (λ z w. omega (arith, looked_one (L.build n s t o).told c 0 x (plain_counts.others n s t o z w)))

-- ---- the table of a nested tree

trees-reach : (f : Builder) → NestedReach f → TreesReach lists f
trees-reach f reached n s b t o c u q l room =
    subst (λ (x : List ℕ). Looked (f n s x o).told (C (suc (size s)) 4)) (sym (alone_table n b c u.body t l)) (reached n s _ o (its_buildable n s b c u o room) (record {
      tree = tree_of b;
      formed = formed n s b c u;
      nested = q;
      species = u.every;
      says = λ x y z _ _ _. its_exact n s b c u x y z;
    }))

-- Each build returns the sum over the sets that it visits, with 0 and with 10; any other refusal returns 0. It is at most C(s+1,4), which fully nested trees reach, and the plain
-- build's is at most the veto build's.
pub counting : Counting koodhaxil
counting =
    let plain = plain_counts koodhaxil demand1 in
    let veto = veto_counts koodhaxil demand1 in
    record {
      building = plain;
      vetoing = veto;
      trees = trees-reach koodhaxil.build plain.reached;
      trees_veto = trees-reach koodhaxil.veto veto.reached;
      no_more = plain_no_more koodhaxil demand1;
    }
