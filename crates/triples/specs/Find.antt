-- The first triple in index order for which something is so. Document 01, "The check": "the first such triple in index order".
use Rattle.std.specs.Prelude.{Bool, cond, ℕ, zero, suc}
use Rattle.trees.specs.Triplets.{Triplets, on_triple}
use Rattle.triples.specs.Index.{C, high_at, mid_at, low_at}

-- P speaks of the triple with index i, of species up to m
unfoldable pub at : ℕ → Triplets → ℕ → Bool
at m P i = on_triple P (low_at m i) (mid_at m i) (high_at m i)

-- the first of the k indices from i on for which P is so; i + k where there is none
unfoldable pub first_from : ℕ → Triplets → ℕ → ℕ → ℕ
first_from m P zero i = i
first_from m P (suc k) i = cond (at m P i) i (first_from m P k (suc i))

-- over the C(n,3) triples of n species; C(n,3) where there is none
unfoldable pub first_triple : ℕ → Triplets → ℕ
first_triple n P = first_from n P (C n 3) 0
