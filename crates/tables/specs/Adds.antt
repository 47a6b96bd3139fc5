-- How a table grows: by the byte of each triple.
use Rattle.std.specs.Prelude.{List, ◌≡◌, ℕ, ◌<◌, ◌≤◌, get_or, length}
use Rattle.sets.specs.Sets.{union}
use Rattle.triples.specs.Index.{index}

-- t' is t with the bits of w a b c added to the byte of each triple a < b < c from place lo on and before hi; every other byte is as it was
pub record Adds (w : ℕ → ℕ → ℕ → ℕ) (lo hi : ℕ) (t t' : List ℕ) : Type 0 where
  pub long : length t' ≡ length t
  pub within : (a b c : ℕ) → a < b → b < c → lo ≤ index a b c → index a b c < hi → get_or t' (index a b c) 0 ≡ union (get_or t (index a b c) 0) (w a b c)
  pub before : (i : ℕ) → i < lo → get_or t' i 0 ≡ get_or t i 0
  pub behind : (i : ℕ) → hi ≤ i → get_or t' i 0 ≡ get_or t i 0
