-- The set that a build starts from: the looks at it pass a good set, and a table in which nothing reaches outside it, and nothing else. Assumes nothing.
use mathlib.Core.Bool.{Bool, false, false≢true, not, true}
use mathlib.Core.List.{List, [], ◌∷◌}
use mathlib.Core.Logic.{◌↔◌, ◌≢◌}
use mathlib.Core.Path.{◌∙◌, ◌≡◌, refl, sym}
use Prim.Native.Nat.{ℕ, ◌<◌, ◌≤◌, ◌^◌}
use native.Mathlib.Omega.{arith}
use borrow.Author.Tests.{eqb-false, le-leb, le-ltb, leb-false, lt-leb, lt-ltb, ltb-false, ne_eqb}
use lib.Dec.{eqb, leb, ltb}
use lib.ListN.{length}
use Rattle.sets.proofs.Bools.{by_order, or-none}
use Rattle.sets.proofs.Digits.{has-lt, lt_of_has, lt-pow, upto_in}
use Rattle.sets.proofs.Sizes.{not_empty, size-zero}
use Rattle.sets.proofs.Tests.{has-below}
use Rattle.sets.specs.Sets.{Subset, has, size, upto}
use Rattle.sets.specs.Species.{Below}
use Rattle.triples.proofs.Find.{first_le}
use Rattle.triples.proofs.Indices.{index-lt}
use Rattle.triples.specs.Finds.{Finds, Hit}
use Rattle.triples.specs.Index.{C, index}
use Rattle.triples.specs.declared.Triple.{Triple}
use Rattle.outside.proofs.Reaching.{none_outside}
use Rattle.outside.specs.Reaches.{Enclosed, reaches}
use Rattle.bodies.specs.Nodes.{room_for}
use Rattle.answers.proofs.Answered.{first_on, pass_false, then_pass}
use Rattle.answers.proofs.Good.{count_pass, room_pass}
use Rattle.answers.specs.Inputs.{Count}
use Rattle.answers.specs.Looks.{first_refusal, look_bytes, look_count, look_room, look_table, look_then}
use Rattle.answers.specs.Looks.{Look}
use Rattle.refusals.specs.declared.Refusal.TheVariants.{Outside}
use Rattle.admitting.specs.GoodSet.{GoodSet, bad_set, first_outside, input_looks, look_outside, look_set}
use Rattle.std.specs.Prelude.{Ok, Err, None}

module _ (n s : ℕ) (g : GoodSet n s) where
  pub set_small : s < 2 ^ n
  set_small = lt_of_has n s g.below

  pub set_below : Below n (has s)
  set_below = has-below n s set_small

-- 15
pub set_pass : (n s : ℕ) → (look_set n s ≡ Ok tt) ↔ GoodSet n s
set_pass n s = (
  (λ e.
      let h = or-none (eqb s 0) _ (pass_false (bad_set n s) _ e) in
      let z : size s ≢ 0 = λ k. eqb-false s 0 h.0 (size-zero s k) in
      record { some = omega (arith, z); below = λ x i. has-lt n s x (leb-false (2 ^ n) s h.1) i }),
  λ g. rw (ne_eqb s 0 (not_empty s g.some), lt-leb (2 ^ n) s (set_small n s g)) refl,
)

-- 16
pub outside_pass : (n s : ℕ) (t : List ℕ) → (look_outside n s t ≡ Ok tt) ↔ Enclosed n s t
unfolding first_outside
outside_pass n s t = (
  (λ e. (none_outside n s t).0 (omega (arith, ltb-false (first_outside n s t) (C n 3) (pass_false (ltb (first_outside n s t) (C n 3)) _ e), first_le n (reaches t s)))),
  λ g. rw (le-ltb (first_outside n s t) (C n 3) (omega (arith, (none_outside n s t).1 g))) refl,
)

-- what is known of the count, the set and the room once nothing of the input was refused
pub input_good : (n s : ℕ) (t : List ℕ) (l : ℕ) → first_refusal (input_looks n s t l) ≡ Ok tt → Count n × GoodSet n s × (room_for (size s) ≤ l)
input_good n s t l e =
    let a = (then_pass (look_count n) _).0 e in
    let b = (then_pass (look_table n (length t)) _).0 a.1 in
    let c = (then_pass (look_bytes t) _).0 b.1 in
    let g = (then_pass (look_set n s) _).0 c.1 in
    let o = (then_pass (look_outside n s t) _).0 g.1 in
    let r = (then_pass (look_room (room_for (size s)) l) _).0 o.1 in
    ((count_pass n).0 a.0, (set_pass n s).0 g.0, (room_pass (room_for (size s)) l).0 r.0)

-- ---- as the code finds it

-- once the looks at the table have passed, 15, 16 and 9 are left
pub late : (n s : ℕ) (t : List ℕ) (l : ℕ) → first_refusal (look_count n ∷ look_table n (length t) ∷ look_bytes t ∷ []) ≡ Ok tt
    → first_refusal (input_looks n s t l) ≡ look_then (look_set n s) (look_then (look_outside n s t) (look_then (look_room (room_for (size s)) l) (Ok tt)))
late n s t l = first_on (look_count n ∷ look_table n (length t) ∷ look_bytes t ∷ []) (look_set n s ∷ look_outside n s t ∷ look_room (room_for (size s)) l ∷ [])

-- the looks were answered with k, which passes: what building the set asks for is there
pub input_asks : (n s : ℕ) (t : List ℕ) (l : ℕ) {k : Look} → k ≡ first_refusal (input_looks n s t l) → k ≡ Ok tt → (0 < size s) × (room_for (size s) ≤ l)
input_asks n s t l e p = let g = input_good n s t l (sym e ∙ p) in (g.1.some, g.2)

-- a bit at n or above is one that is not among all n species
pub bad_subset : (n s : ℕ) → s ≢ 0 → (r : Bool) → (r ≡ true) ↔ Subset s (upto n) → not r ≡ bad_set n s
bad_subset n s h r e = rw (ne_eqb s 0 h) (go r e)
  where
    go : (r : Bool) → (r ≡ true) ↔ Subset s (upto n) → not r ≡ leb (2 ^ n) s
    go true e = sym (lt-leb (2 ^ n) s (lt_of_has n s (λ i k. has-lt n (upto n) i (omega (arith, lt-pow n)) (e.0 refl i k))))
    go false e = by_order s (2 ^ n)
        (λ l. absurd (false≢true (e.1 (λ i k. upto_in n i (has-lt n s i l k)))))
        (λ k. sym (le-leb (2 ^ n) s (omega arith)))
        (λ k. sym (le-leb (2 ^ n) s (omega arith)))

module _ (n s : ℕ) (t : List ℕ) where
  pub outside_none : Finds n (reaches t s) None → look_outside n s t ≡ Ok tt
  unfolding first_outside
  outside_none h = rw (le-ltb (first_outside n s t) (C n 3) (omega (arith, h))) refl

  pub outside_some : (x : Triple) → Hit n (reaches t s) x → (i : ℕ) → i ≡ index x.low x.mid x.high → look_outside n s t ≡ Err (Outside i)
  unfolding first_outside
  outside_some x h i e =
      let l = index-lt x.low x.mid x.high n h.low_mid h.mid_high h.high_below in
      rw (h.is, lt-ltb (index x.low x.mid x.high) (C n 3) l, e) refl
