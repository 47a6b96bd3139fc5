-- What the table says: its triplets are proper, entering adds one triplet and no other and no fan, and a place beyond the table says nothing. Assumes nothing.
use mathlib.Core.Bool.{Bool, So, ◌&&◌, ◌||◌, and-false, and-or_distrib_left, false, false≢true, or-false}
use mathlib.Core.List.{List, []}
use mathlib.Core.Logic.{◌≢◌}
use mathlib.Core.Path.{◌∙◌, ◌≡◌, ap, ap₂, refl, subst, sym}
use Prim.Native.Nat.{◌<◌, ◌≤◌, ℕ}
use native.Mathlib.Omega.{arith}
use borrow.Author.Tests.{eqb-true, ltb-false, ltb-true, ne_eqb, not-true}
use lib.Dec.{eqb, ltb}
use lib.ListN.{get_or-eq_default, get_or, length, length-set, replicate}
use lib.Seq.{get_or-set_other, get_or-set_same}
use Rattle.sets.proofs.Bools.{and_i, and_l, and_r, ne_e, not_i, test}
use Rattle.sets.proofs.Tests.{has_empty, has-single, has-union}
use Rattle.sets.proofs.Zeros.{zero-at}
use Rattle.sets.specs.Sets.{has, single}
use Rattle.trees.proofs.Triplets.{different_e, different_i, different_swap}
use Rattle.trees.specs.Triplets.{Proper, both, different, only}
use Rattle.trees.proofs.Combinations.{C-more}
use Rattle.tables.proofs.Places.{bit_ab, bit_ac, bit_bc, bit_most, bit_swap, place_ab, place_ac, place_bc, place_swap, same_only}
use Rattle.tables.specs.Bytes.{Byte, Entered, bit_of, disagree, enter, entered, fan_bit, fanned, fits, marked, place_of}
use Rattle.triples.specs.Index.{C, high, index}

-- ---- what is entered

module _ (t : List ℕ) (a b c : ℕ) (h : So (entered t a b c)) where
  pub entered-different : So (different a b c)
  unfolding entered
  entered-different = and_l (different a b c) _ h

  pub entered-has : So (has (get_or t (place_of a b c) 0) (bit_of a b c))
  unfolding entered
  entered-has = and_r (different a b c) _ h

pub entered_i : (t : List ℕ) (a b c : ℕ) → So (different a b c) → So (has (get_or t (place_of a b c) 0) (bit_of a b c)) → So (entered t a b c)
unfolding entered
entered_i t a b c d h = and_i (different a b c) _ d h

pub entered_proper : (t : List ℕ) → Proper (entered t)
entered_proper t = record {
  swap = λ a b c h. entered_i t b a c (different_swap a b c (entered-different t a b c h)) (rw (place_swap b a c, bit_swap b a c) (entered-has t a b c h));
  two = λ a b c h. (different_e a b c (entered-different t a b c h)).0;
  third = λ a b c h. (different_e a b c (entered-different t a b c h)).1;
}

-- fewer than three species say nothing
pub entered_same : (t : List ℕ) (a b c : ℕ) → (So (different a b c) → ⊥) → entered t a b c ≡ false
entered_same t a b c n = not-true (entered t a b c) (not_i (entered t a b c) (λ h. n (entered-different t a b c h)))

-- a byte 0 says nothing
pub entered-zero : (t : List ℕ) (a b c : ℕ) → get_or t (place_of a b c) 0 ≡ 0 → entered t a b c ≡ false
entered-zero t a b c e = not-true (entered t a b c)
    (not_i (entered t a b c) (λ h. false≢true (sym (has_empty (bit_of a b c)) ∙ subst (λ (v : ℕ). So (has v (bit_of a b c))) e (entered-has t a b c h))))

pub entered_empty : (a b c : ℕ) → entered [] a b c ≡ false
entered_empty a b c = entered-zero [] a b c refl

pub entered-zeros : (n a b c : ℕ) → entered (replicate n 0) a b c ≡ false
entered-zeros n a b c = entered-zero (replicate n 0) a b c (zero-at n (place_of a b c))

-- what is entered has its place in the table
pub entered_within : (t : List ℕ) (a b c : ℕ) → So (entered t a b c) → place_of a b c < length t
entered_within t a b c h = test (ltb (place_of a b c) (length t))
    (λ l. ltb-true _ _ l)
    (λ l. absurd (false≢true (sym (entered-zero t a b c (get_or-eq_default t 0 (ltb-false _ _ (not-true _ l)))) ∙ h)))

place_high : (a b c n : ℕ) → n ≤ high a b c → C n 3 ≤ place_of a b c
unfolding place_of index
place_high a b c n h = omega (arith, C-more 3 n (high a b c) h)

upto-high : (a b c n : ℕ) → high a b c < n → (a < n) × (b < n) × (c < n)
upto-high a b c n h = (omega arith, omega arith, omega arith)

pub entered_below : (t : List ℕ) (n : ℕ) → So (fits t n) → (a b c : ℕ) → So (entered t a b c) → (a < n) × (b < n) × (c < n)
entered_below t n f a b c h = upto-high a b c n (go (high a b c) refl)
  where
    go : (k : ℕ) → high a b c ≡ k → k < n
    go k e = test (ltb k n)
        (λ l. ltb-true k n l)
        (λ l. absurd (omega (arith, place_high a b c n (subst (λ (z : ℕ). n ≤ z) (sym e) (ltb-false k n (not-true (ltb k n) l))), eqb-true (length t) (C n 3) f, entered_within t a b c h)))

-- ---- the byte of a < b < c

-- the bit at its place, for three different species
marked_bit : (t : List ℕ) (x y z i k : ℕ) → So (different x y z) → place_of x y z ≡ i → has (get_or t i 0) k ≡ marked t k x y z
marked_bit t x y z i k d p = sym (ap₂ (λ (b : Bool) (j : ℕ). b && has (get_or t j 0) k) d p)

pub entered_bit : (t : List ℕ) (x y z i k : ℕ) → So (different x y z) → place_of x y z ≡ i → bit_of x y z ≡ k → has (get_or t i 0) k ≡ entered t x y z
unfolding entered
entered_bit t x y z i k d p q = marked_bit t x y z i k d p ∙ ap (λ (l : ℕ). marked t l x y z) (sym q)

pub byte_says : (t : List ℕ) (a b c v : ℕ) → a < b → b < c → v ≡ get_or t (index a b c) 0 → Byte t a b c v
unfolding fanned
byte_says t a b c v p q e = record {
  is = e;
  ab = ap (λ (x : ℕ). has x 0) e ∙ entered_bit t a b c (index a b c) 0 (different_i a b c (omega arith) (omega arith) (omega arith)) (place_ab a b c p q) (bit_ab a b c p q);
  ac = ap (λ (x : ℕ). has x 1) e ∙ entered_bit t a c b (index a b c) 1 (different_i a c b (omega arith) (omega arith) (omega arith)) (place_ac a b c p q) (bit_ac a b c p q);
  bc = ap (λ (x : ℕ). has x 2) e ∙ entered_bit t b c a (index a b c) 2 (different_i b c a (omega arith) (omega arith) (omega arith)) (place_bc a b c p q) (bit_bc a b c p q);
  fan = ap (λ (x : ℕ). has x fan_bit) e ∙ marked_bit t a b c (index a b c) fan_bit (different_i a b c (omega arith) (omega arith) (omega arith)) (place_ab a b c p q);
}

-- sources disagree exactly where two triplets on the triple are entered
pub disagree-says : (t : List ℕ) (a b c v : ℕ) → Byte t a b c v
    → disagree v ≡ ((entered t a b c && entered t a c b) || ((entered t a b c && entered t b c a) || (entered t a c b && entered t b c a)))
unfolding disagree
disagree-says t a b c v r = rw (r.ab, r.ac, r.bc)

-- ---- entering

module _ (t : List ℕ) (a b c : ℕ) where
  pub enter-length : length (enter t a b c) ≡ length t
  unfolding enter
  enter-length = length-set t (place_of a b c) _

  pub enter_stays : (i : ℕ) → i ≢ place_of a b c → get_or (enter t a b c) i 0 ≡ get_or t i 0
  unfolding enter
  enter_stays i n = get_or-set_other t (place_of a b c) i _ 0 n

  module _ (l : place_of a b c < length t) where
    has-enter : (i k : ℕ) → has (get_or (enter t a b c) i 0) k ≡ (has (get_or t i 0) k || (eqb i (place_of a b c) && eqb (bit_of a b c) k))
    unfolding enter
    has-enter i k = test (eqb i (place_of a b c))
        (λ e. let q = eqb-true i (place_of a b c) e in
        ap (λ (j : ℕ). has (get_or (enter t a b c) j 0) k) q
        ∙ ap (λ (v : ℕ). has v k) (get_or-set_same t (place_of a b c) _ 0 l)
        ∙ has-union (get_or t (place_of a b c) 0) (single (bit_of a b c)) k
        ∙ ap (λ (x : Bool). has (get_or t (place_of a b c) 0) k || x) (has-single (bit_of a b c) k)
        ∙ sym (ap₂ (λ (j : ℕ) (x : Bool). has (get_or t j 0) k || (x && eqb (bit_of a b c) k)) q e))
        (λ e. ap (λ (v : ℕ). has v k) (enter_stays i (ne_e i (place_of a b c) e))
        ∙ sym (or-false (has (get_or t i 0) k))
        ∙ sym (ap (λ (x : Bool). has (get_or t i 0) k || (x && eqb (bit_of a b c) k)) (not-true (eqb i (place_of a b c)) e)))

    -- that triplet and no other is new
    pub entered-enter : So (different a b c) → (x y z : ℕ) → entered (enter t a b c) x y z ≡ both (entered t) (only a b c) x y z
    unfolding entered
    entered-enter d x y z =
        ap (λ (w : Bool). different x y z && w) (has-enter (place_of x y z) (bit_of x y z))
        ∙ and-or_distrib_left (different x y z) _ _
        ∙ ap (λ (w : Bool). entered t x y z || w) (same_only a b c x y z d)

    -- no fan is new: the bit of a triplet is never the fan's
    fanned-enter : (x y z : ℕ) → fanned (enter t a b c) x y z ≡ fanned t x y z
    unfolding fanned
    fanned-enter x y z =
        ap (λ (w : Bool). different x y z && w) (has-enter (place_of x y z) fan_bit
        ∙ ap (λ (w : Bool). has (get_or t (place_of x y z) 0) fan_bit || (eqb (place_of x y z) (place_of a b c) && w)) (ne_eqb (bit_of a b c) fan_bit (λ e. omega (arith, e, bit_most a b c)))
        ∙ ap (λ (w : Bool). has (get_or t (place_of x y z) 0) fan_bit || w) (and-false (eqb (place_of x y z) (place_of a b c)))
        ∙ or-false (has (get_or t (place_of x y z) 0) fan_bit))

    pub enter-says : So (different a b c) → (t' : List ℕ) → t' ≡ enter t a b c → Entered t t' a b c
    enter-says d t' e = record {
      is = e;
      says = λ x y z. ap (λ (s : List ℕ). entered s x y z) e ∙ entered-enter d x y z;
      fans = λ x y z. ap (λ (s : List ℕ). fanned s x y z) e ∙ fanned-enter x y z;
      stays = λ i n. ap (λ (s : List ℕ). get_or s i 0) e ∙ enter_stays i n;
      long = ap length e ∙ enter-length;
    }
