-- The list of the sets that wait to be built: one list for all levels of the build.
use Rattle.std.specs.Prelude.{List, ◌≡◌, ℕ, drop, length}

-- the list was w before: it has 64 places, and those from i on are as they were
pub record SameFrom (i : ℕ) (w w' : List ℕ) : Type 0 where
  pub long : length w' ≡ 64
  pub same : drop i w' ≡ drop i w
