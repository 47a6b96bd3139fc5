-- Numbers of four and of eight bytes, big-endian.
use Rattle.std.specs.Prelude.{List, ℕ, ◌+◌, ◌*◌, ◌^◌, get_or}

-- the four bytes of b from i on
abbrev pub four_at : List ℕ → ℕ → ℕ
four_at b i = 256 * (256 * (256 * get_or b i 0 + get_or b (i + 1) 0) + get_or b (i + 2) 0) + get_or b (i + 3) 0

-- the eight bytes of b from i on
abbrev pub eight_at : List ℕ → ℕ → ℕ
eight_at b i = 2 ^ 32 * four_at b i + four_at b (i + 4)
