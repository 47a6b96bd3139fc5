-- The table of entered triplets. Document 01, "Species, sets, triples": "A triplet table has exactly C(n,3) bytes"; "In a byte, 1 stands for
-- ab|c, 2 for ac|b, 4 for bc|a, added together; 0 says nothing. More than one bit means that sources disagree." Request T-05: "Listing adds 8 to a
-- table byte where some tree holds all three as a fan."
use Rattle.std.specs.Prelude.{◌≡◌, ◌≢◌, Bool, Option, None, Some, cond, not, ◌&&◌, ◌||◌, List, [], ◌∷◌, ℕ, suc, min, max, ◌≤◌, eqb, ltb, length, get_or, set}
use Rattle.sets.specs.Sets.{has, union, single}
use Rattle.trees.specs.Triplets.{Triplets, different, only, both}
use Rattle.triples.specs.Index.{C, index, low, mid, high}

-- "A triplet table has exactly C(n,3) bytes"
abbrev pub fits : List ℕ → ℕ → Bool
fits t n = eqb (length t) (C n 3)

-- refusal 7: a table of l bytes for n species, where "table length is not C(n,3)"
abbrev pub wrong_length : ℕ → ℕ → Bool
wrong_length n l = not (eqb l (C n 3))

-- "1 stands for ab|c, 2 for ac|b, 4 for bc|a", in the byte of the triple a < b < c
abbrev pub sign_ab : ℕ
sign_ab = 1

abbrev pub sign_ac : ℕ
sign_ac = 2

abbrev pub sign_bc : ℕ
sign_bc = 4

-- 8 stands for a fan of the three
abbrev pub sign_fan : ℕ
sign_fan = 8

-- a byte that a table may hold: at most all of them "added together"
abbrev pub top : ℕ
top = 15

abbrev pub Small : ℕ → Type 0
Small v = v ≤ top

-- the first place with a byte that it may not hold; the length where there is none
unfoldable pub over : List ℕ → ℕ
over [] = 0
over (v ∷ t) = cond (ltb top v) 0 (suc (over t))

-- refusal 8, "now for a byte over 15"
abbrev pub wrong_byte : List ℕ → Bool
wrong_byte t = ltb (over t) (length t)

-- the first place with a byte that it may not hold, if there is one
abbrev pub first_over : List ℕ → Option ℕ
first_over t = cond (wrong_byte t) (Some (over t)) None

-- where ab|c stands, for three species in any order: the place of their triple, and in its byte the bit 0 (which stands for 1) where c is the
-- highest of the three, 1 (for 2) where it is the middle one, 2 (for 4) where it is the lowest
unfoldable pub place_of : ℕ → ℕ → ℕ → ℕ
place_of a b c = index (low a b c) (mid a b c) (high a b c)

unfoldable pub bit_of : ℕ → ℕ → ℕ → ℕ
bit_of a b c = cond (ltb (max a b) c) 0 (cond (ltb (min a b) c) 1 2)

-- the bit that stands for a fan of the three
abbrev pub fan_bit : ℕ
fan_bit = 3

-- What a table says is read here and nowhere else: the byte of three different species has the bit k. A place that the table does not have says nothing.
abbrev pub marked : List ℕ → ℕ → ℕ → ℕ → ℕ → Bool
marked t k a b c = different a b c && has (get_or t (place_of a b c) 0) k

-- ab|c is entered
unfoldable pub entered : List ℕ → Triplets
entered t a b c = marked t (bit_of a b c) a b c

-- some tree has a, b and c as a fan
unfoldable pub fanned : List ℕ → Triplets
fanned t a b c = marked t fan_bit a b c

-- the table with the bits of v added to the byte at place i
abbrev pub added : List ℕ → ℕ → ℕ → List ℕ
added t i v = set t i (union (get_or t i 0) v)

-- the table with ab|c entered as well
unfoldable pub enter : List ℕ → ℕ → ℕ → ℕ → List ℕ
enter t a b c = added t (place_of a b c) (single (bit_of a b c))

-- more than one bit: "sources disagree"
unfoldable pub disagree : ℕ → Bool
disagree v = (has v 0 && has v 1) || ((has v 0 && has v 2) || (has v 1 && has v 2))

-- What the byte v of the triple a < b < c tells.
pub record Byte (t : List ℕ) (a b c v : ℕ) : Type 0 where
  pub is : v ≡ get_or t (index a b c) 0
  pub ab : has v 0 ≡ entered t a b c
  pub ac : has v 1 ≡ entered t a c b
  pub bc : has v 2 ≡ entered t b c a
  pub fan : has v fan_bit ≡ fanned t a b c

-- What the table t' tells once ab|c was entered into t: that triplet and no other is new, and no fan. "Entering never sets 8."
pub record Entered (t t' : List ℕ) (a b c : ℕ) : Type 0 where
  pub is : t' ≡ enter t a b c
  pub says : (x y z : ℕ) → entered t' x y z ≡ both (entered t) (only a b c) x y z
  pub fans : (x y z : ℕ) → fanned t' x y z ≡ fanned t x y z
  pub stays : (i : ℕ) → i ≢ place_of a b c → get_or t' i 0 ≡ get_or t i 0
  pub long : length t' ≡ length t
