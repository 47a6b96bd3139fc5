-- The triple that an index stands for, as the function `triple_at` names it. Document 01, "Species, sets, triples".
use Rattle.std.specs.Prelude.{Option, None, Some, cond, ℕ, ltb}
use Rattle.triples.specs.Index.{C, low_at, mid_at, high_at}
use Rattle.triples.specs.declared.Triple.{Triple}

-- the three species of index i, of 64
unfoldable pub triple_at : ℕ → Triple
triple_at i = record { low = low_at 64 i; mid = mid_at 64 i; high = high_at 64 i }

-- beyond the C(64,3) triples there is none
unfoldable pub named : ℕ → Option Triple
named i = cond (ltb i (C 64 3)) (Some (triple_at i)) None
