-- The first triple in index order for which something is so, as the searches answer it.
use Rattle.std.specs.Prelude.{Option, None, Some, ◌≡◌, ℕ, ◌<◌}
use Rattle.trees.specs.Triplets.{Triplets}
use Rattle.triples.specs.Find.{first_triple}
use Rattle.triples.specs.Index.{C, index}
use Rattle.triples.specs.declared.Triple.{Triple}

-- x is the first triple of n species on which P speaks
pub record Hit (n : ℕ) (P : Triplets) (x : Triple) : Type 0 where
  pub low_mid : x.low < x.mid
  pub mid_high : x.mid < x.high
  pub high_below : x.high < n
  pub is : first_triple n P ≡ index x.low x.mid x.high

abbrev pub Finds : ℕ → Triplets → Option Triple → Type 0
Finds n P None = first_triple n P ≡ C n 3
Finds n P (Some x) = Hit n P x
