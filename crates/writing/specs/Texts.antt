-- Text as bytes: numbers in decimal, and what ends a line.
use Rattle.std.specs.Prelude.{cond, List, [], ◌∷◌, ◌++◌, ℕ, zero, suc, ◌+◌, ◌/◌, ◌%◌, ◌-◌, ltb, length, take}

-- the digit d as a byte
abbrev pub glyph : ℕ → ℕ
glyph d = 48 + d

-- the decimal digits of n, the last k of them
unfoldable pub digits_in : ℕ → ℕ → List ℕ
digits_in zero n = []
digits_in (suc k) n = cond (ltb n 10) (glyph n ∷ []) (digits_in k (n / 10) ++ (glyph (n % 10) ∷ []))

-- a 64-bit number has at most 20
abbrev pub decimal : ℕ → List ℕ
decimal n = digits_in 20 n

-- numbers, each after a space
abbrev pub spaced : List ℕ → List ℕ
spaced [] = []
spaced (n ∷ l) = 32 ∷ (decimal n ++ spaced l)

-- a line ends with byte 10
abbrev pub ended : List ℕ → List ℕ
ended l = l ++ (10 ∷ [])

-- the text o, and as much of w behind it as a room of so many bytes has room for
unfoldable pub wrote : ℕ → List ℕ → List ℕ → List ℕ
wrote room o w = o ++ take (room - length o) w
