-- The set that occurs in a collection with a tree is one that the builds take, with the collection's table and a room for the longest body. Assumes nothing.
use mathlib.Core.Bool.{So, false≢true}
use mathlib.Core.List.{List, [], ◌∷◌}
use mathlib.Core.Logic.{◌≢◌}
use mathlib.Core.Path.{◌∙◌, ◌≡◌, ap, refl, subst, sym}
use Prim.Native.Nat.{ℕ, zero, suc, ◌≤◌}
use native.Mathlib.Omega.{arith}
use lib.ListN.{get_or, length}
use Rattle.sets.proofs.Bools.{or_case, or_l, or_r}
use Rattle.sets.proofs.Facts.{empty_e}
use Rattle.sets.proofs.Least.{some_member}
use Rattle.sets.proofs.Sizes.{size-le, size-zero}
use Rattle.sets.proofs.Tests.{has_true, number_is, number_lt, true_has}
use Rattle.sets.specs.Sets.{Has, has, size}
use Rattle.sets.specs.Species.{Below, Species}
use Rattle.trees.proofs.Formed.{formed_e}
use Rattle.trees.proofs.Lowest.{some_species}
use Rattle.trees.proofs.Splits.{holds_e}
use Rattle.trees.proofs.Triplets.{fan_in}
use Rattle.trees.specs.Trees.{under}
use Rattle.trees.specs.Triplets.{fan, holds}
use Rattle.tables.proofs.Fillings.{table_length, table_small}
use Rattle.tables.proofs.Telling.{table_tells}
use Rattle.tables.specs.Bytes.{fan_bit}
use Rattle.triples.specs.Index.{index}
use Rattle.bodies.proofs.Drawn.{tree_below, tree_formed}
use Rattle.bodies.proofs.Good.{length_good}
use Rattle.bodies.specs.Draws.{tree_of}
use Rattle.bodies.specs.Nodes.{longest, nodes, room_for}
use Rattle.outside.specs.Reaches.{Enclosed}
use Rattle.answers.proofs.Answered.{first_on, then_pass}
use Rattle.answers.proofs.Good.{count_pass, room_pass, table_pass}
use Rattle.answers.specs.Inputs.{Count, Table}
use Rattle.answers.specs.Looks.{first_refusal, look_bytes, look_count, look_room, look_table}
use Rattle.collections.proofs.Whole.{whole_long}
use Rattle.collections.specs.Collection.{Collection}
use Rattle.collections.specs.Layout.{body_at, species, trees}
use Rattle.collections.specs.Occurs.{occurring, occurs_up_to}
use Rattle.listing.specs.Lists.{list_of, said_up_to}
use Rattle.admitting.proofs.Chosen.{outside_pass, set_pass}
use Rattle.admitting.specs.GoodSet.{GoodSet, input_looks, look_outside, look_set}
use Rattle.std.specs.Prelude.{Ok}

module _ (c : List ℕ) where
  -- all three occur in the first m trees
  abbrev Three : ℕ → ℕ → ℕ → ℕ → Type 0
  Three m x y z = So (occurs_up_to c m x) × So (occurs_up_to c m y) × So (occurs_up_to c m z)

  -- what a tree holds, or has as a fan, it says of species that it has
  held_occurs : (m x y z : ℕ) → So ((said_up_to c m).triplets x y z) → Three m x y z
  unfolding said_up_to occurs_up_to
  held_occurs zero x y z h = absurd (false≢true h)
  held_occurs (suc m) x y z h = or_case ((said_up_to c m).triplets x y z) (holds (tree_of (body_at c m)) x y z) h
      (λ k. let r = held_occurs m x y z k in (or_l (occurs_up_to c m x) _ r.0, or_l (occurs_up_to c m y) _ r.1, or_l (occurs_up_to c m z) _ r.2))
      (λ k. let o = holds_e (tree_of (body_at c m)) x y z k in (or_r (occurs_up_to c m x) _ o.in_a, or_r (occurs_up_to c m y) _ o.in_b, or_r (occurs_up_to c m z) _ o.in_c))

  fanned_occurs : (m x y z : ℕ) → So ((said_up_to c m).fans x y z) → Three m x y z
  unfolding said_up_to occurs_up_to
  fanned_occurs zero x y z h = absurd (false≢true h)
  fanned_occurs (suc m) x y z h = or_case ((said_up_to c m).fans x y z) (fan (tree_of (body_at c m)) x y z) h
      (λ k. let r = fanned_occurs m x y z k in (or_l (occurs_up_to c m x) _ r.0, or_l (occurs_up_to c m y) _ r.1, or_l (occurs_up_to c m z) _ r.2))
      (λ k. let o = fan_in (tree_of (body_at c m)) x y z k in (or_r (occurs_up_to c m x) _ o.0, or_r (occurs_up_to c m y) _ o.1, or_r (occurs_up_to c m z) _ o.2))

  first_occurs : (m x : ℕ) → So (under (tree_of (body_at c 0)) x) → So (occurs_up_to c (suc m) x)
  unfolding occurs_up_to
  first_occurs zero x h = or_r (occurs_up_to c 0 x) _ h
  first_occurs (suc m) x h = or_l (occurs_up_to c (suc m) x) _ (first_occurs m x h)

  module _ (g : Collection c) where
    abbrev n : ℕ
    n = species c

    abbrev s : ℕ
    s = occurring c

    abbrev t : List ℕ
    t = list_of c

    occurs_below : (m : ℕ) → m ≤ trees c → Below n (occurs_up_to c m)
    unfolding occurs_up_to
    occurs_below zero l x h = absurd (false≢true h)
    occurs_below (suc m) l x h = or_case (occurs_up_to c m x) (under (tree_of (body_at c m)) x) h (λ k. occurs_below m (omega arith) x k)
        (λ k. tree_below n (nodes (body_at c m)) (g.good m (omega arith)) (length_good (body_at c m) (whole_long c g m (omega arith))).0 x k)

    occurring-has : has s ≡ occurs_up_to c (trees c)
    occurring-has = number_is 64 (occurs_up_to c (trees c)) (λ x h. omega (arith, occurs_below (trees c) (omega arith) x h, g.most))

    occurs_in_lem : (x : ℕ) → So (occurs_up_to c (trees c) x) → Has s x
    occurs_in_lem x h = has_true s x (ap (λ (S : Species). S x) occurring-has ∙ h)

    count : Count n
    count = record { some = g.some; most = g.most }

    table : Table n t
    table = record { long = table_length n (said_up_to c (trees c)); small = table_small n (said_up_to c (trees c)) }

    enclosed : Enclosed n s t
    enclosed x y z p q l h =
        let m = some_member (get_or t (index x y z) 0) h in
        let k = true_has (get_or t (index x y z) 0) m.0 m.1 in
        bit m.0 k (((table_tells n (said_up_to c (trees c))).bytes x y z p q l).no_other m.0 k)
      where
        three : Three (trees c) x y z → Has s x × Has s y × Has s z
        three r = (occurs_in_lem x r.0, occurs_in_lem y r.1, occurs_in_lem z r.2)

        bit : (i : ℕ) → So (has (get_or t (index x y z) 0) i) → i ≤ fan_bit → Has s x × Has s y × Has s z
        bit zero k e = three (held_occurs (trees c) x y z (((table_tells n (said_up_to c (trees c))).bytes x y z p q l).ab.0 k))
        bit (suc zero) k e = let r = held_occurs (trees c) x z y (((table_tells n (said_up_to c (trees c))).bytes x y z p q l).ac.0 k) in three (r.0, r.2, r.1)
        bit (suc (suc zero)) k e = let r = held_occurs (trees c) y z x (((table_tells n (said_up_to c (trees c))).bytes x y z p q l).bc.0 k) in three (r.2, r.0, r.1)
        bit (suc (suc (suc zero))) k e = three (fanned_occurs (trees c) x y z (((table_tells n (said_up_to c (trees c))).bytes x y z p q l).fan.0 k))
        bit (suc (suc (suc (suc i)))) k e = absurd (omega arith)

    room : room_for (size s) ≤ longest
    room = omega (arith, size-le 64 s (number_lt 64 (occurs_up_to c (trees c))))

    -- some tree is there, and so some species
    module _ (m : ℕ) (some : trees c ≡ suc m) where
      set : GoodSet n s
      set =
          let f = tree_formed n (nodes (body_at c 0)) (g.good 0 (omega arith)) (length_good (body_at c 0) (whole_long c g 0 (omega arith))).0 in
          let x = some_species (tree_of (body_at c 0)) (formed_e (tree_of (body_at c 0)) f) in
          let i : Has s x.0 = occurs_in_lem x.0 (subst (λ (k : ℕ). So (occurs_up_to c k x.0)) (sym some) (first_occurs m x.0 x.1)) in
          let z : size s ≢ 0 = λ e. empty_e x.0 (subst (λ (u : ℕ). So (has u x.0)) (size-zero s e) (true_has s x.0 i)) in
          record { some = omega (arith, z); below = λ y h. occurs_below (trees c) (omega arith) y (ap (λ (S : Species). S y) (sym occurring-has) ∙ true_has s y h) }

      pub looks_pass : first_refusal (input_looks n s t longest) ≡ Ok tt
      looks_pass =
          let late = look_set n s ∷ look_outside n s t ∷ look_room (room_for (size s)) longest ∷ [] in
          (then_pass (look_count n) _).1 (
            (count_pass n).1 count,
            first_on (look_table n (length t) ∷ look_bytes t ∷ []) late ((table_pass n t).1 table)
                ∙ (then_pass (look_set n s) _).1 (
                  (set_pass n s).1 set,
                  (then_pass (look_outside n s t) _).1 ((outside_pass n s t).1 enclosed, (then_pass (look_room (room_for (size s)) longest) (Ok tt)).1 ((room_pass (room_for (size s)) longest).1 room, refl)),
                ),
          )
