-- Triples that reach outside a set of species. Request T-03.
use Rattle.std.specs.Prelude.{◌&&◌, not, List, ◌≢◌, ℕ, ◌<◌, eqb, get_or}
use Rattle.sets.specs.Sets.{Has, has}
use Rattle.trees.specs.Triplets.{Triplets}
use Rattle.tables.specs.Bytes.{place_of}
use Rattle.triples.specs.Index.{index}

-- "a byte that isn't 0 on a triple reaching outside the set", for the table t and the set s
unfoldable pub reaches : List ℕ → ℕ → Triplets
reaches t s a b c = not (eqb (get_or t (place_of a b c) 0) 0) && not (has s a && (has s b && has s c))

-- no triple of n species does so: where its byte is not 0, its three species are in s
abbrev pub Enclosed : ℕ → ℕ → List ℕ → Type 0
Enclosed n s t = (a b c : ℕ) → a < b → b < c → c < n → get_or t (index a b c) 0 ≢ 0 → Has s a × Has s b × Has s c
