-- The loop over the parts of a set: its invariant, and each step over plain numbers and lists. Assumes nothing.
use mathlib.Core.Bool.{Bool, cond}
use mathlib.Core.List.{List, [], ◌∷◌}
use mathlib.Core.Path.{◌∙◌, ◌≡◌, ap, subst, sym}
use Prim.Native.Nat.{◌*◌, ◌+◌, ◌<◌, ◌≤◌, suc, zero, ℕ}
use native.Mathlib.Nat.{add-zero}
use native.Mathlib.Numerals.{add-one}
use native.Mathlib.Omega.{arith}
use lib.ListN.{drop, get_or, length}
use lib.Seq.{drop-cons, drop-length, sets}
use Rattle.sets.specs.Sets.{has, lowest, size}
use Rattle.trees.specs.Build.{Outcome, build_by, ending, next, stop}
use Rattle.trees.specs.Combinations.{C}
use Rattle.trees.specs.Triplets.{Triplets}
use Rattle.trees.specs.Visits.{looked, stopped}
use Rattle.bodies.specs.Nodes.{inner_bytes, longest, most_nodes, width}
use Rattle.splitting.specs.Split.{parts_of}
use Rattle.growing.specs.Grows.{Stands}
use Rattle.growing.specs.Waiting.{SameFrom}
use Rattle.growing.proofs.Finish.{End, done, finish, node_done, node_stop, turn, turn_stop}
use Rattle.growing.proofs.Numbered.{Part, Splits, children_of, length_total, looked_few, looked_for, node_looked, node_rule, one_total, part_at, parts_total, parts-two, total}

-- the children that the parts l become in the build v, written from node m on, under the node `at`
abbrev todo : Bool → Triplets → ℕ → List ℕ → ℕ → List ℕ → End
todo v E at l m o = finish (children_of v E l) at m o

-- the first k parts are built, and the next node is m: what is still to do equals the whole, and there is room for it
pub record Going (v : Bool) (E : Triplets) (s at : ℕ) (o₀ : List ℕ) (k m : ℕ) (o : List ℕ) : Type 0 where
  pub long : length o ≡ longest
  pub within : k ≤ length (parts_of E s)
  pub room : m + (2 * total (drop k (parts_of E s)) + k) ≤ at + 1 + 2 * size s
  pub whole : todo v E at (drop k (parts_of E s)) m o ≡ todo v E at (parts_of E s) (suc at) o₀

-- c triples were looked at so far, for the set and its first k parts: with those that are still to come they are all
abbrev pub Counting : Bool → Triplets → ℕ → ℕ → ℕ → Type 0
Counting v E s k c = c + looked_for v E (drop k (parts_of E s)) ≡ looked v E 64 (has s)

-- The loop has come to place i of the parts, which stand from `gap` on: so many of them are built, and those from i on still wait.
pub record Grew (v : Bool) (E : Triplets) (s at : ℕ) (o₀ : List ℕ) (gap : ℕ) (w₀ : List ℕ) (i m : ℕ) (o w : List ℕ) (c : ℕ) : Type 0 where
  pub built : ℕ
  pub place : i ≡ gap + built
  pub going : Going v E s at o₀ built m o
  pub same : SameFrom i w₀ w
  pub counting : Counting v E s built c

-- a part that is smaller than all of them fits
part-fits : (l : List ℕ) (k m b : ℕ) → k < length l → m + (2 * total (drop k l) + k) ≤ b + 1 → size (get_or l k 0) < total l → m + 2 * size (get_or l k 0) ≤ b
part-fits l zero m b h r q = omega arith
part-fits l (suc k) m b h r q = omega (arith, ap total (drop-cons l (suc k) 0 h))

parts_sum : (E : Triplets) (s : ℕ) → Splits E s → total (parts_of E s) ≡ size s
parts_sum E s w = parts_total E w.proper s w.fits

-- no part is empty, so they are no more than the species
parts_some : {E : Triplets} {s : ℕ} → Splits E s → (k : ℕ) → k < length (parts_of E s) → 0 < size (get_or (parts_of E s) k 0)
parts_some {E} {s} w k h = (part_at E w.proper s w.fits w.some w.several w.more k h).some

pub parts_within : {E : Triplets} {s : ℕ} → Splits E s → length (parts_of E s) ≤ size s
parts_within {E} {s} w = omega (arith, length_total (parts_of E s) (parts_some w), parts_sum E s w)

-- one turn: k parts are built, and p is the next one
pub record Turn (v : Bool) (E : Triplets) (s at : ℕ) (o₀ : List ℕ) (k m : ℕ) (o : List ℕ) (p : ℕ) : Type 0 where
  pub splits : Splits E s
  pub going : Going v E s at o₀ k m o
  pub left : k < length (parts_of E s)
  pub part : p ≡ get_or (parts_of E s) k 0

module _ {v : Bool} {E : Triplets} {s at : ℕ} {o₀ : List ℕ} {k m : ℕ} {o : List ℕ} {p : ℕ} (t : Turn v E s at o₀ k m o p) where
  abbrev w : Splits E s
  w = t.splits

  pub next-part : Part s p
  next-part = rw t.part (part_at E w.proper s w.fits w.some w.several w.more k t.left)

  pub part_room : at + 2 * size s ≤ most_nodes + 1 → m + 2 * size p ≤ most_nodes + 1
  part_room h =
      let z = ap size t.part in
      omega (arith, part-fits (parts_of E s) k m (most_nodes + 1) t.left (omega (arith, t.going.room)) (omega (arith, next-part.fewer, parts_sum E s w)))

  -- with one species for each other part, it is not larger than the set
  pub part_beside : size p + length (parts_of E s) ≤ size s + 1
  part_beside = omega (arith, ap size t.part, one_total (parts_of E s) (parts_some w) k t.left, parts_sum E s w)

  cut : drop k (parts_of E s) ≡ p ∷ drop (suc k) (parts_of E s)
  cut = rw t.part (drop-cons (parts_of E s) k 0 t.left)

  still : finish (next (build_by v E 64 (has p)) (children_of v E (drop (suc k) (parts_of E s)))) at m o ≡ todo v E at (parts_of E s) (suc at) o₀
  still = sym (ap (λ (l : List ℕ). todo v E at l m o) cut) ∙ t.going.whole

  -- the part stops
  pub going_stop : (u : ℕ) → build_by v E 64 (has p) ≡ stop (has u) → build_by v E 64 (has s) ≡ stop (has u)
  going_stop u h = node_rule E w.proper s w.fits w.some w.several w.more v
      ∙ node_stop (children_of v E (parts_of E s)) (lowest s) (ending v 64 (has s)) at o₀ (has u)
      (sym (turn_stop (children_of v E (drop (suc k) (parts_of E s))) at m o (build_by v E 64 (has p)) (has u) h) ∙ still)

  -- the part is built
  pub going_step : (m' : ℕ) (o' : List ℕ) → length o' ≡ longest → Stands (build_by v E 64 (has p)) (size p) at m o o' m' → Going v E s at o₀ (k + 1) m' o'
  going_step m' o' h r = subst (λ (j : ℕ). Going v E s at o₀ j m' o') (sym (add-one k)) (record {
    long = h;
    within = omega (arith, t.left);
    room = omega (arith, ap total cut, t.going.room, r.few);
    whole = sym (turn (children_of v E (drop (suc k) (parts_of E s))) (size p) at m m' o o' (build_by v E 64 (has p)) r) ∙ still;
  })

  -- what is still to come begins with the part
  part_count : looked_for v E (drop k (parts_of E s)) ≡ looked v E 64 (has p) + cond (stopped (build_by v E 64 (has p))) 0 (looked_for v E (drop (suc k) (parts_of E s)))
  part_count = ap (looked_for v E) cut

  module _ (c : ℕ) (h : Counting v E s k c) where
    pub counting_most : c + looked v E 64 (has p) ≤ 677040
    counting_most = omega (arith, h, part_count, looked_few E w.proper s w.fits w.some v)

    -- the part stops: nothing comes behind it
    pub counting_stop : (u : ℕ) → build_by v E 64 (has p) ≡ stop (has u) → c + looked v E 64 (has p) ≡ looked v E 64 (has s)
    counting_stop u e =
        let q = ap (λ (R : Outcome). cond (stopped R) 0 (looked_for v E (drop (suc k) (parts_of E s)))) e in
        omega (arith, h, part_count, q)

    -- the part is built
    pub counting_step : (m' : ℕ) (o' : List ℕ) → Stands (build_by v E 64 (has p)) (size p) at m o o' m' → Counting v E s (k + 1) (c + looked v E 64 (has p))
    counting_step m' o' r = subst (λ (j : ℕ). Counting v E s j (c + looked v E 64 (has p))) (sym (add-one k))
        (let q = ap (λ (R : Outcome). cond (stopped R) 0 (looked_for v E (drop (suc k) (parts_of E s)))) r.is in
        omega (arith, h, part_count, q))

module _ (v : Bool) (E : Triplets) (s : ℕ) (w : Splits E s) where
  pub counting_start : (c : ℕ) → c ≡ C (size s) 3 → Counting v E s 0 c
  counting_start c e = omega (arith, e, node_looked E w.proper s w.fits w.some w.several w.more v)

  pub counting_end : (k c : ℕ) → k ≤ length (parts_of E s) → length (parts_of E s) ≤ k → Counting v E s k c → c ≡ looked v E 64 (has s)
  counting_end k c h l g =
      let q : k ≡ length (parts_of E s) = omega arith in
      omega (arith, g, ap (looked_for v E) (ap (λ (j : ℕ). drop j (parts_of E s)) q ∙ drop-length (parts_of E s)))

module _ (v : Bool) (E : Triplets) (s : ℕ) (w : Splits E s) (at : ℕ) (o₀ : List ℕ) where
  pub going_start : length o₀ ≡ longest → Going v E s at o₀ 0 (at + 1) o₀
  going_start h = record {
    long = h;
    within = omega arith;
    room = omega (arith, parts_sum E s w);
    whole = ap (λ (m : ℕ). todo v E at (parts_of E s) m o₀) (add-one at);
  }

  pub going_end : (k m p : ℕ) (o o' : List ℕ) → length (parts_of E s) ≤ k → Going v E s at o₀ k m o' → o₀ ≡ sets o (width * at) (inner_bytes p)
      → Stands (build_by v E 64 (has s)) (size s) p at o o' m
  going_end k m p o o' h g e =
      let q : k ≡ length (parts_of E s) = omega (arith, g.within) in
      let n : drop k (parts_of E s) ≡ [] = ap (λ (j : ℕ). drop j (parts_of E s)) q ∙ drop-length (parts_of E s) in
      let d : done m o' ≡ todo v E at [] m o' = ap (λ (j : ℕ). done j o') (sym (add-zero m)) in
      subst (λ (R : Outcome). Stands R (size s) p at o o' m) (sym (node_rule E w.proper s w.fits w.some w.several w.more v))
      (node_done (children_of v E (parts_of E s)) (lowest s) (ending v 64 (has s)) at o₀ (size s) p m o o' e
      (d ∙ sym (ap (λ (l : List ℕ). todo v E at l m o') n) ∙ g.whole)
      (omega (arith, g.room, ap total n, parts-two E w.proper s w.fits w.some w.several w.more)))
