-- What is reached from a species, step by step, where L tells which species are linked to which.
use Rattle.std.proofs.Math.Bool.{So}
use Rattle.std.specs.Prelude.{ℕ, ◌<◌}
use Rattle.sets.specs.Species.{Species}
use Rattle.sets.specs.Sets.{has}

-- a set that has, with a species, all that it is linked to
abbrev pub Kept : (ℕ → Species) → Species → Type 0
Kept L X = (i j : ℕ) → So (X i) → j < 64 → So (L i j) → So (X j)

-- r is the least such set with a
pub record Flooded (L : ℕ → Species) (a r : ℕ) : Type 0 where
  pub start : So (has r a)
  pub kept : Kept L (has r)
  pub least : (X : Species) → Kept L X → So (X a) → (j : ℕ) → So (has r j) → So (X j)
