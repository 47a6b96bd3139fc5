-- The calls that a search for the first triple makes of its test: R f a b c r g says that a call at a, b and c may answer r and take the test from f to g.
use Rattle.std.specs.Prelude.{Bool, false, true, Option, None, Some, ◌≡◌, ℕ, zero, suc, ◌<◌}
use Rattle.triples.specs.Index.{C, high_at, index, low_at, mid_at}
use Rattle.triples.specs.declared.Triple.{Triple}

-- the test was asked of the first k triples of n species, in index order, and did not hold: that took it from f to g
unfoldable pub Passes : {F : Type 0} → ℕ → (F → ℕ → ℕ → ℕ → Bool → F → Type 0) → ℕ → F → F → Type 0
Passes n R zero f g = f ≡ g
Passes {F} n R (suc k) f g = (h : F) × Passes n R k f h × R h (low_at n k) (mid_at n k) (high_at n k) false g

-- it did not hold of a triple before x, and then held of x
pub record Holds {F : Type 0} (n : ℕ) (R : F → ℕ → ℕ → ℕ → Bool → F → Type 0) (f : F) (x : Triple) : Type 0 where
  pub low_mid : x.low < x.mid
  pub mid_high : x.mid < x.high
  pub high_below : x.high < n
  pub before : F
  pub after : F
  pub passed : Passes n R (index x.low x.mid x.high) f before
  pub held : R before x.low x.mid x.high true after

-- or it held of none
abbrev pub Tries : {F : Type 0} → ℕ → (F → ℕ → ℕ → ℕ → Bool → F → Type 0) → F → Option Triple → Type 0
Tries {F} n R f None = (g : F) × Passes n R (C n 3) f g
Tries n R f (Some x) = Holds n R f x
