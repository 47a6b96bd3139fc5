-- Where a node begins, byte by byte, and what begins before it. Assumes nothing.
use mathlib.Core.Bool.{Bool, cond, false, true}
use mathlib.Core.List.{List, [], ◌∷◌}
use mathlib.Core.Path.{◌≡◌, refl}
use Prim.Native.Nat.{ℕ, suc, ◌+◌, ◌-◌, ◌<◌, ◌≤◌}
use native.Mathlib.Numerals.{add-one}
use native.Mathlib.Omega.{arith}
use borrow.Author.Tests.{le-ltb, lt-ltb, ltb-false, ltb-true}
use lib.Dec.{ltb}
use lib.ListN.{drop, get_or, length}
use lib.Seq.{drop-cons, drop-length}
use Rattle.newick.specs.Place.{Spot, elsewhere, fresh, in_number, node_begins, nodes_begun, onward, spot}
use Rattle.newick.specs.Signs.{Sign, closing, colon, comma, figure, foreign, opening, point, semicolon, sign, space}
use Rattle.places.specs.NodePlaces.{NodeAt, node_place, node_place_from}

module _ (p : Spot) (m b : ℕ) (w : List ℕ) where
  place_here : m < node_begins p (sign b) → node_place_from p m (b ∷ w) ≡ 0
  unfolding node_place_from
  place_here h = rw (lt-ltb m (node_begins p (sign b)) h) refl

  place_behind : node_begins p (sign b) ≤ m → node_place_from p m (b ∷ w) ≡ suc (node_place_from (onward p (sign b)) (m - node_begins p (sign b)) w)
  unfolding node_place_from
  place_behind h = rw (le-ltb m (node_begins p (sign b)) h) refl

-- from place i of w on, where x nodes begin with the byte there
module _ (w : List ℕ) (i : ℕ) (p : Spot) (m x : ℕ) (l : i < length w) (e : x ≡ node_begins p (sign (get_or w i 0))) where
  pub place_reached : m < x → i + node_place_from p m (drop i w) ≡ i
  place_reached h = let z = place_here p m (get_or w i 0) (drop (suc i) w) (omega (arith, e)) in rw (drop-cons w i 0 l) (omega (arith, z))

  pub place_passed : (n : ℕ) → x + n ≡ m → (i + 1) + node_place_from (onward p (sign (get_or w i 0))) n (drop (i + 1) w) ≡ i + node_place_from p m (drop i w)
  place_passed n h =
      let q : m - node_begins p (sign (get_or w i 0)) ≡ n = omega (arith, e) in
      let z = rw q at (place_behind p m (get_or w i 0) (drop (suc i) w) (omega (arith, e))) in
      rw (drop-cons w i 0 l, add-one i) (omega (arith, z))

-- no node is left
pub place_none : (w : List ℕ) (i : ℕ) (p : Spot) (m : ℕ) → i ≤ length w → length w ≤ i → i + node_place_from p m (drop i w) ≡ i
unfolding node_place_from
place_none w i p m h k = let e : i ≡ length w = omega arith in rw (e, drop-length w) (omega arith)

-- ---- what begins before it

pub place_within : (w : List ℕ) (p : Spot) (m : ℕ) → node_place_from p m w ≤ length w
unfolding node_place_from
place_within [] p m = omega arith
place_within (b ∷ w) p m = by (ltb m (node_begins p (sign b))) (place_within w (onward p (sign b)) (m - node_begins p (sign b)))
  where
    by : (o : Bool) {r : ℕ} → r ≤ length w → cond o 0 (suc r) ≤ suc (length w)
    by true h = omega arith
    by false h = omega arith

-- where more than m nodes begin, node m has its place in the text
pub place_inside : (w : List ℕ) (p : Spot) (m : ℕ) → m < nodes_begun p w → node_place_from p m w < length w
unfolding node_place_from nodes_begun
place_inside [] p m h = absurd (omega arith)
place_inside (b ∷ w) p m h = by (ltb m x) refl (place_inside w (onward p (sign b)) (m - x))
  where
    x : ℕ
    x = node_begins p (sign b)

    by : (o : Bool) → ltb m x ≡ o → {r : ℕ} → (m - x < nodes_begun (onward p (sign b)) w → r < length w) → cond o 0 (suc r) < suc (length w)
    by true e f = omega arith
    by false e f = let z = ltb-false m x e in let k = f (omega arith) in omega arith

-- one node at most begins with a sign
begins_one : (p : Spot) (g : Sign) → node_begins p g ≤ 1
begins_one fresh space = omega arith
begins_one fresh (figure x) = omega arith
begins_one fresh opening = omega arith
begins_one fresh closing = omega arith
begins_one fresh comma = omega arith
begins_one fresh colon = omega arith
begins_one fresh point = omega arith
begins_one fresh semicolon = omega arith
begins_one fresh foreign = omega arith
begins_one (in_number v) g = omega arith
begins_one elsewhere g = omega arith

node_from : (w : List ℕ) (p : Spot) (m : ℕ) → node_place_from p m w < length w → NodeAt p m w (node_place_from p m w)
unfolding node_place_from nodes_begun spot
node_from [] p m h = absurd (omega arith)
node_from (b ∷ w) p m h = by (ltb m (node_begins p (sign b))) refl (node_from w (onward p (sign b)) (m - node_begins p (sign b))) h
  where
    x : ℕ
    x = node_begins p (sign b)

    by : (o : Bool) → ltb m x ≡ o → {r : ℕ} → (r < length w → NodeAt (onward p (sign b)) (m - x) w r) → cond o 0 (suc r) < suc (length w) → NodeAt p m (b ∷ w) (cond o 0 (suc r))
    by true e f l = let z = ltb-true m x e in let k = begins_one p (sign b) in record { before = omega arith; begins = omega arith }
    by false e {r} f l = let n = f (omega arith) in let z = ltb-false m x e in record { before = omega (arith, n.before); begins = n.begins }

-- node m begins at its place
pub node_at : (w : List ℕ) (m : ℕ) → node_place w m < length w → NodeAt fresh m w (node_place w m)
node_at w m h = node_from w fresh m h
