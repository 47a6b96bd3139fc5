-- The check of a candidate tree T against the entered triplets E, over trees with exactly the species S. Document 01, "The check"; source 000,
-- Definition 1 (l.147).
use Rattle.std.proofs.Math.Bool.{So}
use Rattle.std.specs.Prelude.{not, ◌&&◌, ℕ, zero, suc}
use Rattle.sets.specs.Species.{Inside, Species, either}
use Rattle.trees.specs.Trees.{Siblings, Tree, under}
use Rattle.trees.specs.Triplets.{Triplets, holds, resolves, only, both}
use Rattle.trees.specs.Links.{Closed, part}
use Rattle.trees.specs.Held.{CanBeHeld}

-- "R is the set of entered triplets on triples that T resolves (where T holds one of the three triplets)."
abbrev pub R : Triplets → Tree → Triplets
R E T a b c = E a b c && resolves T a b c

-- "PC: T's triplets and R together can be held by one tree."
abbrev pub PC : Triplets → Species → Tree → Type 0
PC E S T = CanBeHeld (both (holds T) (R E T)) S

-- ab|c is forced by E: E "together with either of the two other triplets on that triple can be held by no tree"
pub record Forced (E : Triplets) (S : Species) (a b c : ℕ) : Type 0 where
  pub no_ac : CanBeHeld (both E (only a c b)) S → ⊥
  pub no_bc : CanBeHeld (both E (only b c a)) S → ⊥

-- "PI: for each triplet of T, R together with either of the two other triplets on that triple can be held by no tree."
abbrev pub PI : Triplets → Species → Tree → Type 0
PI E S T = (a b c : ℕ) → So (holds T a b c) → Forced (R E T) S a b c

-- ---- what decides them, computed

-- "some entered bit differs from what T holds on a resolved triple"
abbrev pub differs : Triplets → Tree → Triplets
differs E T a b c = R E T a b c && not (holds T a b c)

-- the species in the parts of a and of c
abbrev pub pair : Triplets → ℕ → Species → ℕ → ℕ → Species
pair E N S a c = either (part E N S a) (part E N S c)

-- the same taken again k times, each time on what was left
abbrev pub core : Triplets → ℕ → ℕ → Species → ℕ → ℕ → Species
core E N zero S a c = S
core E N (suc k) S a c = core E N k (pair E N S a c) a c

-- ab|c, which T holds: b is in the core of a and c, and a in the core of b and c
abbrev pub sure : Triplets → ℕ → Tree → Triplets
sure E N T a b c = core (R E T) N N (under T) a c b && core (R E T) N N (under T) b c a

abbrev pub unsure : Triplets → ℕ → Tree → Triplets
unsure E N T a b c = holds T a b c && not (sure E N T a b c)

-- ---- groups that are earned

-- the links on S join all of A
abbrev pub Joins : Triplets → Species → Species → Type 0
Joins E S A = (X : Species) → Closed E S X → (u : ℕ) → So (A u) → So (X u) → Inside A X

-- the links on the groups of s and s' join that of s
abbrev pub JoinedBeside : Triplets → Tree → Tree → Type 0
JoinedBeside E s s' = Joins E (either (under s) (under s')) (under s)

-- each group but the root's is earned: joined by the links on it and any one sibling group
abbrev pub Earned : Triplets → Tree → Type 0
Earned E T = (s s' : Tree) → Siblings T s s' → JoinedBeside E s s'
