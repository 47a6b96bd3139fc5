-- Good input, in document 01's sentences.
use Rattle.std.specs.Prelude.{false, List, ◌≡◌, ℕ, ◌<◌, ◌≤◌, get_or, length}
use Rattle.tables.specs.Bytes.{Small}
use Rattle.triples.specs.Index.{C}
use Rattle.bodies.specs.Nodes.{Good, bad_length, nodes}

-- n species: "A run has n species, 1 to 64"
pub record Count (n : ℕ) : Type 0 where
  pub some : 0 < n
  pub most : n ≤ 64

-- a table of n species: "exactly C(n,3) bytes", each of which a table may hold
pub record Table (n : ℕ) (t : List ℕ) : Type 0 where
  pub long : length t ≡ C n 3
  pub small : (i : ℕ) → Small (get_or t i 0)

-- a body of a tree with species below n
pub record Body (n : ℕ) (b : List ℕ) : Type 0 where
  pub good : Good n (nodes b)
  pub long : bad_length (length b) ≡ false
