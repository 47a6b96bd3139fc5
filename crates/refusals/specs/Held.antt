-- Up to four numbers in a place for four: what stands behind them is 0, so that the numbers say all of it.
use Rattle.std.specs.Prelude.{ℕ, ◌≡◌, ◌≤◌, ◌-◌, List, ◌++◌, length, take, replicate}

-- the numbers, and zeros behind them to the fourth place
abbrev pub with_zeros : List ℕ → List ℕ
with_zeros l = l ++ replicate (4 - length l) 0

-- held is its first c numbers, of four, and zeros behind them
pub record Holds (held : List ℕ) (c : ℕ) : Type 0 where
  pub few : c ≤ 4
  pub long : length (take c held) ≡ c
  pub whole : with_zeros (take c held) ≡ held
