-- A set of species as a 64-bit number. Document 01, "Species, sets, triples": "A set of species is a 64-bit number, bit i for species i; the size of
-- a set is its number of ones, its lowest species the count of zeros below the first one."
use Rattle.std.specs.Prelude.{◌≡◌, ℕ, zero, suc, ◌+◌, ◌-◌, ◌*◌, ◌/◌, ◌%◌, ◌^◌, ◌<◌, cond, ◌≢◌, ◌==◌, bit_and, bit_or, bit_xor, count_ones}
use Rattle.std.specs.Int.Count.{count_trailing_zeros}
use Rattle.sets.specs.Species.{Species}

-- binary digit i of s, 0 or 1
unfoldable pub digit : ℕ → ℕ → ℕ
digit s i = s / 2 ^ i % 2

-- the set as the test of being in it
abbrev pub has : ℕ → Species
has s i = digit s i == 1

-- the same as facts
abbrev pub Has : ℕ → ℕ → Type 0
Has s i = digit s i ≡ 1

abbrev pub Lacks : ℕ → ℕ → Type 0
Lacks s i = digit s i ≡ 0

abbrev pub Subset : ℕ → ℕ → Type 0
Subset s t = (i : ℕ) → Has s i → Has t i

abbrev pub union : ℕ → ℕ → ℕ
union s t = bit_or s t

abbrev pub meet : ℕ → ℕ → ℕ
meet s t = bit_and s t

abbrev pub minus : ℕ → ℕ → ℕ
minus s t = bit_xor s (bit_and s t)

-- species i alone
abbrev pub single : ℕ → ℕ
single i = 2 ^ i

-- all species below n
abbrev pub upto : ℕ → ℕ
upto n = 2 ^ n - 1

abbrev pub size : ℕ → ℕ
size s = count_ones s

-- 64 for the empty set
abbrev pub lowest : ℕ → ℕ
lowest s = count_trailing_zeros 64 s

-- s without its lowest species
abbrev pub rest : ℕ → ℕ
rest s = minus s (single (lowest s))

-- the number of a set that is given as a test, of its species below n
unfoldable pub number : ℕ → Species → ℕ
number zero P = 0
number (suc n) P = 2 * number n (λ i. P (suc i)) + cond (P 0) 1 0

-- What a walk from the lowest species up is told of a set s that is not empty: its lowest species is one of 64 and in s; the rest is smaller.
pub record Lowest (s r : ℕ) : Type 0 where
  pub is : r ≡ lowest s
  pub small : s ≢ 0 → r < 64
  pub member : s ≢ 0 → Has s r

pub record Rest (s r : ℕ) : Type 0 where
  pub is : r ≡ rest s
  pub fewer : s ≢ 0 → size r + 1 ≡ size s
