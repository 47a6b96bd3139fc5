-- The set that occurs, as listing and entering return it, is one that the build takes with the table that they fill. Assumes nothing.
use mathlib.Core.Bool.{Bool, So, true, false, false≢true}
use mathlib.Core.List.{List, [], ◌∷◌}
use mathlib.Core.Logic.{◌≢◌}
use mathlib.Core.Path.{◌∙◌, ◌≡◌, ap, refl, subst, sym}
use Prim.Native.Nat.{ℕ, ◌<◌}
use native.Mathlib.Omega.{arith}
use borrow.Author.Tests.{eqb-false, eqb-true}
use lib.Dec.{eqb, ltb}
use lib.ListN.{get_or, length}
use Rattle.sets.proofs.Sizes.{size-zero}
use Rattle.sets.proofs.Tests.{true_has}
use Rattle.sets.specs.Sets.{has, number, size}
use Rattle.sets.specs.Species.{Below, Species}
use Rattle.trees.proofs.Splits.{holds_e}
use Rattle.trees.proofs.Triplets.{fan_in}
use Rattle.trees.specs.Build.{Outcome, stop, tree}
use Rattle.trees.specs.Trees.{under}
use Rattle.tables.specs.Filled.{plain, table_for}
use Rattle.bodies.specs.Draws.{tree_of}
use Rattle.bodies.specs.Nodes.{room_for}
use Rattle.outside.specs.Reaches.{Enclosed}
use Rattle.answers.proofs.Answered.{first_on}
use Rattle.answers.proofs.Good.{count_pass, table_pass}
use Rattle.refusals.specs.Told.{Told, Value, number_of_nodes, unnamed, value}
use Rattle.answers.specs.Inputs.{Count, Table}
use Rattle.answers.specs.Looks.{answered, first_refusal, look_bytes, look_count, look_room, look_table, look_told, refuse_if}
use Rattle.answers.specs.Looks.{Look}
use Rattle.refusals.specs.declared.Refusal.TheVariants.{BadSet, ShortRoom}
use Rattle.admitting.proofs.Chosen.{outside_pass, set_pass}
use Rattle.building.specs.Builds.{answer_told, build_answer, build_done, build_looks, counted_done, counted_refused, look_outcome, looked_by, nodes_in, outcome}
use Rattle.admitting.specs.GoodSet.{GoodSet, look_outside, look_set}
use Rattle.collections.specs.Collection.{Collection}
use Rattle.collections.specs.Layout.{body_at, species, trees}
use Rattle.collections.specs.Occurs.{occurring}
use Rattle.records.specs.Records.{in_records, occurs_in}
use Rattle.listing.specs.Lists.{list_of, said_up_to}
use Rattle.promises.specs.Inputs.{Triplet}
use Rattle.promises.specs.Operations.{Given, builds, enters, koodhaxil, lists}
use Rattle.promises.specs.Together.{OccurringTaken, Taken}
use Rattle.promises.proofs.Chosen.{told-looked}
use Rattle.promises.proofs.Entered.{enters_is, occurring_in_has, occurs_in_below, said_occurs}
use Rattle.promises.proofs.Listed.{fanned_some, held_some, lists_is, occurring-has, occurs_below, occurs_some}
use Rattle.promises.proofs.Promises.{accepted}
use Rattle.promises.proofs.Tabled.{table_enclosed, table_good}
use Rattle.std.specs.Prelude.{Ok, Err, Result}
use Rattle.refusals.specs.declared.Refusal.{Refusal}
use Rattle.answers.specs.declared.Written.{Written}

-- what is left once the table and the set are good: the room, and the outcome
last_number : (short : Bool) (R : Outcome) (vs : List Value) → ((look_told (first_refusal (refuse_if short ShortRoom ∷ look_outcome R ∷ [])) vs).number ≢ 15) × ((look_told (first_refusal (refuse_if short ShortRoom ∷ look_outcome R ∷ [])) vs).number ≢ 16)
last_number true R vs = ((λ e. omega (arith, e)), λ e. omega (arith, e))
last_number false (tree T) vs = ((λ e. omega (arith, e)), λ e. omega (arith, e))
last_number false (stop U) vs = ((λ e. omega (arith, e)), λ e. omega (arith, e))

-- a set below n that is not empty is good
pub good_set : (n u : ℕ) → Below n (has u) → u ≢ 0 → GoodSet n u
good_set n u bd h = let z : size u ≢ 0 = λ e. h (size-zero u e) in record { some = omega (arith, z); below = λ x k. bd x (true_has u x k) }

module _ (n u : ℕ) (t : List ℕ) (c : Count n) (g : Table n t) where
  abbrev front : List Look
  front = look_count n ∷ look_table n (length t) ∷ look_bytes t ∷ []

  front_pass : first_refusal front ≡ Ok tt
  front_pass = first_on (look_count n ∷ []) (look_table n (length t) ∷ look_bytes t ∷ []) (rw ((count_pass n).1 c) refl) ∙ (table_pass n t).1 g

  module _ (o : List ℕ) where
    abbrev counts : List Value
    counts = value number_of_nodes (nodes_in (outcome n u t)) ∷ []

    abbrev late : List Look
    late = look_set n u ∷ look_outside n u t ∷ look_room (room_for (size u)) (length o) ∷ look_outcome (outcome n u t) ∷ []

    told_late : (builds n u t o).told.number ≡ (look_told (first_refusal late) counts).number
    told_late = ap (λ (r : Told). r.number) (told-looked (looked_by false n u t) (build_done (outcome n u t)) (first_refusal (build_looks n u t (length o))))
        ∙ ap (λ (k : Look). (look_told k counts).number) (first_on front late front_pass)

    -- where the set is empty, the answer is 15
    pub empty_refused : u ≡ 0 → (build_answer n u t (length o)).answer ≡ Err BadSet
    empty_refused e =
        let q : first_refusal late ≡ Err BadSet = rw e refl in
        let c = looked_by false n u t in
        ap (λ (k : Look). (answered (counted_done c) (counted_refused c) k (build_done (outcome n u t))).answer) (first_on front late front_pass ∙ q)

    told_empty : u ≡ 0 → (builds n u t o).told.number ≡ 15
    told_empty e = ap (λ (a : Result Written Refusal). (answer_told a).number) (empty_refused e)

    told_taken : GoodSet n u → Enclosed n u t → ((builds n u t o).told.number ≢ 15) × ((builds n u t o).told.number ≢ 16)
    told_taken s e =
        let z : first_refusal late ≡ first_refusal (look_room (room_for (size u)) (length o) ∷ look_outcome (outcome n u t) ∷ []) = rw ((set_pass n u).1 s, (outside_pass n u t).1 e) refl in
        let q = told_late ∙ ap (λ (k : Look). (look_told k counts).number) z in
        let k = last_number (ltb (length o) (room_for (size u))) (outcome n u t) counts in
        ((λ z. k.0 (sym q ∙ z)), λ z. k.1 (sym q ∙ z))

  -- a set below n, outside of which the table says nothing
  pub is_taken : Below n (has u) → Enclosed n u t → Taken koodhaxil n u t
  is_taken bd e = record { empty = λ o. (λ z. by_size o z, told_empty o); outside = λ o. away o }
    where
      by_size : (o : List ℕ) → (builds n u t o).told.number ≡ 15 → u ≡ 0
      by_size o z = go (eqb u 0) refl
        where
          go : (p : Bool) → eqb u 0 ≡ p → u ≡ 0
          go true q = eqb-true u 0 q
          go false q = absurd ((told_taken o (good_set n u bd (eqb-false u 0 q)) e).0 z)

      away : (o : List ℕ) → (builds n u t o).told.number ≢ 16
      away o z = go (eqb u 0) refl
        where
          go : (p : Bool) → eqb u 0 ≡ p → ⊥
          go true q = let w = told_empty o (eqb-true u 0 q) in omega (arith, w, z)
          go false q = (told_taken o (good_set n u bd (eqb-false u 0 q)) e).1 z

-- of a collection
module _ (b : List ℕ) (w : Collection b) where
  pub occurring-below : Below (species b) (has (occurring b))
  occurring-below x h = occurs_below b w x (ap (λ (S : Species). S x) (sym (occurring-has b w)) ∙ h)

  pub occurring_enclosed : Enclosed (species b) (occurring b) (list_of b)
  occurring_enclosed = table_enclosed (species b) (occurring b) (said_up_to b (trees b))
      (λ x y z h. let r = (held_some b (trees b) x y z).0 h in let o = holds_e (tree_of (body_at b r.0)) x y z r.2 in (here r.0 r.1 x o.in_a, here r.0 r.1 y o.in_b, here r.0 r.1 z o.in_c))
      (λ x y z h. let r = (fanned_some b (trees b) x y z).0 h in let o = fan_in (tree_of (body_at b r.0)) x y z r.2 in (here r.0 r.1 x o.0, here r.0 r.1 y o.1, here r.0 r.1 z o.2))
    where
      here : (k : ℕ) → k < trees b → (v : ℕ) → So (under (tree_of (body_at b k)) v) → So (has (occurring b) v)
      here k l v h = ap (λ (S : Species). S v) (occurring-has b w) ∙ (occurs_some b (trees b) v).1 (k, l, h)

  listed_taken : Taken koodhaxil (species b) (occurring b) (list_of b)
  listed_taken = is_taken (species b) (occurring b) (list_of b) (record { some = w.some; most = w.most }) (table_good (species b) (said_up_to b (trees b))) occurring-below occurring_enclosed

-- of records
module _ (n : ℕ) (rs : List (List ℕ)) (c : Count n) (g : (i : ℕ) → i < length rs → Triplet n (get_or rs i [])) where
  entered_taken : Taken koodhaxil n (number 64 (occurs_in rs)) (table_for n (plain (in_records rs)))
  entered_taken = is_taken n (number 64 (occurs_in rs)) (table_for n (plain (in_records rs))) c (table_good n (plain (in_records rs)))
      (λ x h. occurs_in_below n rs c g x (ap (λ (S : Species). S x) (sym (occurring_in_has n rs c g)) ∙ h))
      (table_enclosed n (number 64 (occurs_in rs)) (plain (in_records rs)) all (λ x y z h. absurd (false≢true h)))
    where
      all : (x y z : ℕ) → So (in_records rs x y z) → So (has (number 64 (occurs_in rs)) x) × So (has (number 64 (occurs_in rs)) y) × So (has (number 64 (occurs_in rs)) z)
      all x y z h =
          let r = said_occurs n rs g x y z h in
          let i : (v : ℕ) → So (occurs_in rs v) → So (has (number 64 (occurs_in rs)) v) = λ v k. ap (λ (S : Species). S v) (occurring_in_has n rs c g) ∙ k in
          (i x r.0, i y r.1, i z r.2)

pub occurring_taken : OccurringTaken koodhaxil
occurring_taken = record {
  listed = λ b t u e.
      let g = (accepted.listing b t).0 (ap (λ (r : Told). r.number) e) in
      let q = lists_is b t g in
      let v = sym (ap (λ (h : Given). h.told.values) q) ∙ ap (λ (r : Told). r.values) e in
      let z : occurring b ≡ u = ap (λ (l : List Value). get_or (unnamed l) 2 0) v in
      subst (λ (k : ℕ). Taken koodhaxil (species b) k (lists b t).after) z
      (subst (λ (a : List ℕ). Taken koodhaxil (species b) (occurring b) a) (sym (ap (λ (h : Given). h.after) q)) (listed_taken b g.collection));
  entered = λ n rs t u e.
      let g = (accepted.entering n rs t).0 (ap (λ (r : Told). r.number) e) in
      let q = enters_is n rs t g in
      let v = sym (ap (λ (h : Given). h.told.values) q) ∙ ap (λ (r : Told). r.values) e in
      let z : number 64 (occurs_in rs) ≡ u = ap (λ (l : List Value). get_or (unnamed l) 1 0) v in
      subst (λ (k : ℕ). Taken koodhaxil n k (enters n rs t).after) z
      (subst (λ (a : List ℕ). Taken koodhaxil n (number 64 (occurs_in rs)) a) (sym (ap (λ (h : Given). h.after) q)) (entered_taken n rs g.count g.records));
}
