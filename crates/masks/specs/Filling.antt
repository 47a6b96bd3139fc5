-- How masks grow triple by triple, which species they link on a set, and what the private functions tell of both.
use Rattle.std.specs.Prelude.{not, ◌&&◌, ◌||◌, List, ◌≡◌, ℕ, ◌<◌, eqb, length}
use Rattle.sets.specs.Sets.{has, meet}
use Rattle.sets.specs.Species.{Species, any}
use Rattle.trees.specs.Check.{R}
use Rattle.trees.specs.Trees.{Tree}
use Rattle.trees.specs.Triplets.{Triplets, on_triple, only}
use Rattle.tables.specs.Bytes.{entered}
use Rattle.groups.specs.Groups.{Meets, cell, cells, set_of}

-- m' has what m has, and z in the mask of x and y where P tells xy|z
pub record Masked (P : Triplets) (m m' : List ℕ) : Type 0 where
  pub cells : (x y z : ℕ) → y < 64 → has (cell m' x y) z ≡ (has (cell m x y) z || P x y z)

-- ab|c is in E, and it is xy|z
abbrev pub shown : Triplets → ℕ → ℕ → ℕ → Triplets
shown E x y z a b c = E a b c && only a b c x y z

-- xy|z is in E, on the triple a, b and c; on a triple with b and c whose lowest species is below k; on one whose highest species is c and whose
-- middle one is below k; on one whose highest species is below k
abbrev pub in_triple : Triplets → ℕ → ℕ → ℕ → Triplets
in_triple E a b c x y z = on_triple (shown E x y z) a b c

abbrev pub in_row : Triplets → ℕ → ℕ → ℕ → Triplets
in_row E k b c x y z = any k (λ a. in_triple E a b c x y z)

abbrev pub in_level : Triplets → ℕ → ℕ → Triplets
in_level E k c x y z = any k (λ b. in_row E b b c x y z)

abbrev pub in_triples : Triplets → ℕ → Triplets
in_triples E k x y z = any k (λ c. in_level E c c x y z)

-- m' grew from m by what P tells of R, for every tree T with these species and these smallest common groups
pub record Noted (t : List ℕ) (whole : ℕ) (meets : List ℕ) (P : Triplets → Triplets) (m m' : List ℕ) : Type 0 where
  pub size : length m' ≡ cells
  pub grown : (T : Tree) → Meets T meets → whole ≡ set_of T → Masked (P (R (entered t) T)) m m'

-- ---- links on a set

-- the mask of i and j has a species of s
abbrev pub touch : List ℕ → ℕ → ℕ → Species
touch m s i j = not (eqb (meet (cell m i j) s) 0)

-- i and j are in s, and so is a species of their mask
abbrev pub ties : List ℕ → ℕ → ℕ → Species
ties m s i j = has s i && (has s j && touch m s i j)
