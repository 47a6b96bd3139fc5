-- Induction and non-contradiction in the paper's own words. Source 004, Definitions 2, 4, 6 and 7; request T-08: "a set of triplets induces t when some part of it can
-- be held by one tree, and that part together with either other triplet on the same species cannot. PI: R induces every triplet of the tree. PC: R induces neither of
-- the others." Trees have exactly the species S. Definition 6 is `R`. (In print the collection's triplets stand for the tree's once in 6, the second time, and throughout 7.)
use Rattle.std.proofs.Math.Bool.{So}
use Rattle.std.specs.Prelude.{ℕ}
use Rattle.sets.specs.Species.{Species}
use Rattle.trees.specs.Trees.{Tree}
use Rattle.trees.specs.Triplets.{Proper, Triplets, holds}
use Rattle.trees.specs.Held.{CanBeHeld}
use Rattle.trees.specs.Check.{Forced, R}

-- E' is a part of E: every triplet of E' is one of E
abbrev pub Among : Triplets → Triplets → Type 0
Among E' E = (a b c : ℕ) → So (E' a b c) → So (E a b c)

-- Definition 4: E induces ab|c. That the part induces it by Definition 2 is `held` and `forced`.
pub record Induces (E : Triplets) (S : Species) (a b c : ℕ) : Type 0 where
  -- "some part of it", a set of triplets as E is one
  pub some : Triplets
  pub proper : Proper some
  pub among : Among some E
  -- "can be held by one tree"
  pub held : CanBeHeld some S
  -- "and that part together with either other triplet on the same species cannot": with the one, and with the other
  pub forced : Forced some S a b c

-- Definition 7. "PI: R induces every triplet of the tree."
abbrev pub PaperPI : Triplets → Species → Tree → Type 0
PaperPI E S T = (a b c : ℕ) → So (holds T a b c) → Induces (R E T) S a b c

-- "PC: R induces neither of the others."
abbrev pub PaperPC : Triplets → Species → Tree → Type 0
PaperPC E S T = (a b c : ℕ) → So (holds T a b c) → (Induces (R E T) S a c b → ⊥) × (Induces (R E T) S b c a → ⊥)
