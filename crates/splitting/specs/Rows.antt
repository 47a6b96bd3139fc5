-- The links on a set as rows, one set of species for each of 64 species, and what the private functions tell of them.
use Rattle.std.specs.Prelude.{Bool, List, ◌↔◌, ◌⊎◌, ◌≡◌, ◌≤◌, ℕ, get_or, length}
use Rattle.std.proofs.Math.Bool.{So}
use Rattle.sets.specs.Sets.{has, meet, upto}
use Rattle.sets.specs.Species.{Species}
use Rattle.trees.specs.Links.{linked}
use Rattle.trees.specs.Triplets.{Triplets}

-- row i is the set of the species that are linked to i
abbrev pub Rows : Type 0
Rows = List ℕ

-- species j is in row i
abbrev pub flag : Rows → ℕ → Species
flag g i j = has (get_or g i 0) j

-- the rows say which species are linked on s
unfoldable pub RowsShow : Rows → Triplets → ℕ → Type 0
RowsShow g E s = (x y : ℕ) → flag g x y ≡ linked E 64 (has s) x y

-- ---- what is linked on the way

-- x and y are a and b, and it is on
abbrev pub Pair : Bool → ℕ → ℕ → ℕ → ℕ → Type 0
Pair on a b x y = So on × (x ≡ a) × (y ≡ b)

-- a triplet on the three species puts x and y together, x the lower
abbrev pub Ties : Triplets → ℕ → ℕ → ℕ → ℕ → ℕ → Type 0
Ties E a b c x y = Pair (E a b c) a b x y ⊎ (Pair (E a c b) a c x y ⊎ Pair (E b c a) b c x y)

-- Q of some species of s
abbrev pub Some : ℕ → (ℕ → ℕ → ℕ → Type 0) → ℕ → ℕ → Type 0
Some s Q x y = (k : ℕ) × So (has s k) × Q k x y

-- what triples tell: those with b and c, the lowest from s; those with c, the two others from s
abbrev pub InRow : Triplets → ℕ → ℕ → ℕ → ℕ → ℕ → Type 0
InRow E s b c = Some s (λ a. Ties E a b c)

abbrev pub InLevel : Triplets → ℕ → ℕ → ℕ → ℕ → Type 0
InLevel E s c = Some s (λ b. InRow E (meet s (upto b)) b c)

-- species a, laid into the rows of the species of `row`
abbrev pub Laid : ℕ → ℕ → ℕ → ℕ → Type 0
Laid row a x y = So (has row x) × (y ≡ a)

-- the row of y, a species of s, has x, which is not lower
abbrev pub Mirrored : Rows → ℕ → ℕ → ℕ → Type 0
Mirrored g s x y = So (has s y) × So (flag g y x) × (y ≤ x)

-- g' has the flags of g, and those that R tells
pub record Flagged (R : ℕ → ℕ → Type 0) (g g' : Rows) : Type 0 where
  pub size : length g' ≡ 64
  pub flags : (x y : ℕ) → So (flag g' x y) ↔ (So (flag g x y) ⊎ R x y)
