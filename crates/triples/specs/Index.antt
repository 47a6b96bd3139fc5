-- Triples and their indices. Document 01, "Species, sets, triples": "A triple is three species a < b < c. Its index is C(c,3) + C(b,2) + a, where
-- C counts combinations."
use Rattle.std.specs.Prelude.{cond, ℕ, zero, suc, ◌+◌, ◌-◌, min, max, leb}
unfoldable pub use Rattle.trees.specs.Combinations.{C}

unfoldable pub index : ℕ → ℕ → ℕ → ℕ
index a b c = C c 3 + C b 2 + a

-- three species in order
abbrev pub low : ℕ → ℕ → ℕ → ℕ
low a b c = min a (min b c)

abbrev pub high : ℕ → ℕ → ℕ → ℕ
high a b c = max a (max b c)

abbrev pub mid : ℕ → ℕ → ℕ → ℕ
mid a b c = a + b + c - (low a b c + high a b c)

-- the largest number m or below with at most i sets of k
unfoldable pub largest : ℕ → ℕ → ℕ → ℕ
largest k zero i = 0
largest k (suc m) i = cond (leb (C (suc m) k) i) (suc m) (largest k m i)

-- the triple with index i, of species up to m: the highest species first, then the middle one, then the lowest
unfoldable pub high_at : ℕ → ℕ → ℕ
high_at m i = largest 3 m i

unfoldable pub mid_at : ℕ → ℕ → ℕ
mid_at m i = largest 2 m (i - C (high_at m i) 3)

unfoldable pub low_at : ℕ → ℕ → ℕ
low_at m i = i - C (high_at m i) 3 - C (mid_at m i) 2
