-- A walk over the species of a set, from the lowest up.
use Rattle.std.specs.Prelude.{List, MatchOption, Option, ◌<◌, ◌≡◌, ◌≢◌, ℕ}
use Rattle.std.specs.Iterator.{YieldsFirst}
use Rattle.sets.specs.Sets.{Has, Lowest, Rest, has}
use Rattle.sets.specs.Species.{members}

-- the species of s as a list
abbrev pub in_order : ℕ → List ℕ
in_order s = members 64 (has s)

-- a turn of the walk: of s, which is not empty, it gives the lowest species i, and t is left
pub record Turn (s i t : ℕ) : Type 0 where
  pub some : s ≢ 0
  pub below : i < 64
  pub member : Has s i
  pub lowest : Lowest s i
  pub rest : Rest s t

-- what `next` gives: a turn, or the end, where nothing is left
abbrev pub Walks : ℕ → Option ℕ → ℕ → Type 0
Walks s r t = YieldsFirst in_order s r t × MatchOption r (s ≡ 0) (λ i. Turn s i t)
