-- The groups of the nodes as sets, the smallest common group of each two species, and what a tree says of three species.
use Rattle.std.specs.Prelude.{◌↔◌, ◌≡◌, Bool, cond, not, ◌&&◌, List, ℕ, ◌+◌, ◌*◌, ◌≤◌, ◌<◌, length, get_or}
use Rattle.std.proofs.Math.Bool.{So}
use Rattle.sets.specs.Species.{Species, Below}
use Rattle.sets.specs.Sets.{number}
use Rattle.trees.specs.Trees.{Tree, under, groups, well_formed}
use Rattle.trees.specs.Triplets.{cut_by, fan, holds}
use Rattle.groups.specs.declared.Says.{Says}
use Rattle.groups.specs.declared.Says.TheVariants.{AB, AC, BC, Absent, Fan}
use Rattle.bodies.specs.Nodes.{Nodes, most_nodes}
use Rattle.bodies.specs.Draws.{subtree}

-- the species of a tree as a number
abbrev pub set_of : Tree → ℕ
set_of t = number 64 (under t)

-- entry i is the group of node i; behind the last node there is nothing
pub record Groups (v : Nodes) (out : List ℕ) : Type 0 where
  pub size : length out ≡ most_nodes
  pub group : (i : ℕ) → i < v.count → get_or out i 0 ≡ set_of (subtree v i)
  pub rest : (i : ℕ) → v.count ≤ i → get_or out i 0 ≡ 0

-- the smallest group of t with a and b: no group has those two but not x
abbrev pub common : Tree → ℕ → ℕ → Species
common t a b x = (under t a && under t b) && (under t x && not (cut_by (groups t) a b x))

-- a row of 64 entries for each of 64 species
abbrev pub cells : ℕ
cells = 64 * 64

-- the entry of two species in rows of 64
abbrev pub cell : List ℕ → ℕ → ℕ → ℕ
cell m a b = get_or m (a * 64 + b) 0

-- the entries of the pairs that P chooses are g, and the others as they were
abbrev pub Stamped : (ℕ → ℕ → Bool) → ℕ → List ℕ → List ℕ → Type 0
Stamped P g old out = (length out ≡ cells) × ((x y : ℕ) → y < 64 → cell out x y ≡ cond (P x y) g (cell old x y))

pub record Meets (t : Tree) (m : List ℕ) : Type 0 where
  pub size : length m ≡ cells
  pub pair : (a b : ℕ) → a < 64 → b < 64 → cell m a b ≡ number 64 (common t a b)

-- whole is the set of a good tree's species, and meets has the smallest common group of each two of them
pub record Drawn (T : Tree) (whole : ℕ) (meets : List ℕ) : Type 0 where
  pub formed : So (well_formed T)
  pub all : whole ≡ set_of T
  pub meet : Meets T meets

-- such a tree, with species below n
pub record Candidate (n : ℕ) (T : Tree) (whole : ℕ) (meets : List ℕ) : Type 0 where
  pub drawn : Drawn T whole meets
  pub below : Below n (under T)

-- what t says of a, b and c. Request T-05: "asking a tree about three species must now tell 'fan' from 'not all here'"
abbrev pub says : Tree → ℕ → ℕ → ℕ → Says
says t a b c = cond (holds t a b c) AB (cond (holds t a c b) AC (cond (holds t b c a) BC (cond (fan t a b c) Fan Absent)))

-- what each of the five answers about three different species means, for a good tree
pub record SaysRight (t : Tree) (a b c : ℕ) (s : Says) : Type 0 where
  pub ab : (s ≡ AB) ↔ So (holds t a b c)
  pub ac : (s ≡ AC) ↔ So (holds t a c b)
  pub bc : (s ≡ BC) ↔ So (holds t b c a)
  pub fan : (s ≡ Fan) ↔ So (fan t a b c)
  pub absent : (s ≡ Absent) ↔ (So (under t a) × So (under t b) × So (under t c) → ⊥)
