-- What a byte tells of its triple, and a table of its triples. Document 01, "In a byte, 1 stands for ab|c, 2 for ac|b, 4 for bc|a, added together;
-- 0 says nothing." Request T-05: "Listing adds 8 to a table byte where some tree holds all three as a fan."
use Rattle.std.proofs.Math.Bool.{So}
use Rattle.std.specs.Prelude.{List, ◌↔◌, ◌≡◌, ℕ, ◌<◌, ◌≤◌, get_or, length}
use Rattle.sets.specs.Sets.{has}
use Rattle.tables.specs.Bytes.{fan_bit}
use Rattle.triples.specs.Index.{C, index}

-- the bits of the byte v are exactly those that P, for the triplets, and F, for the fan, tell of the triple a < b < c, and it has no other
pub record Tells (v : ℕ) (P F : ℕ → ℕ → ℕ → Type 0) (a b c : ℕ) : Type 0 where
  pub ab : So (has v 0) ↔ P a b c
  pub ac : So (has v 1) ↔ P a c b
  pub bc : So (has v 2) ↔ P b c a
  pub fan : So (has v fan_bit) ↔ F a b c
  pub no_other : (k : ℕ) → So (has v k) → k ≤ fan_bit

-- t is as long as a table of n species, and each byte tells what P and F tell of its triple
pub record TableTells (n : ℕ) (P F : ℕ → ℕ → ℕ → Type 0) (t : List ℕ) : Type 0 where
  pub long : length t ≡ C n 3
  pub bytes : (a b c : ℕ) → a < b → b < c → c < n → Tells (get_or t (index a b c) 0) P F a b c
