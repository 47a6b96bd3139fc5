-- Links on a set of species, its connected parts, and joined sets. Document 01, "Triplets, links, building"; source 000, l.198.
-- E: the entered triplets; N: a number that every species is below; S: the set.
use Rattle.std.specs.Prelude.{Bool, true, false, not, ◌&&◌, ◌||◌, List, [], ◌∷◌, map, ℕ, zero, suc, eqb}
use Rattle.std.proofs.Math.Bool.{So}
use Rattle.sets.specs.Species.{Species, any, members}
use Rattle.trees.specs.Triplets.{Triplets}

-- exactly one
module _ {ℓ} {A : Type ℓ} where
  abbrev pub lone : List A → Bool
  lone [] = false
  lone (x ∷ []) = true
  lone (x ∷ (y ∷ l)) = false

module _ (E : Triplets) (N : ℕ) (S : Species) where
  -- "a and b are linked when some entered triplet ab|c has all three species in S"
  abbrev pub linked : ℕ → ℕ → Bool
  linked a b = S a && (S b && any N (λ c. S c && E a b c))

  -- a and b are the same, or linked by way of species below k (Warshall's recursion)
  abbrev pub reach : ℕ → ℕ → ℕ → Bool
  reach zero a b = eqb a b || linked a b
  reach (suc k) a b = reach k a b || (reach k a k && reach k k b)

  -- the connected part of a
  unfoldable pub part : ℕ → Species
  part a b = reach N a b

  -- i is the lowest species of its part
  unfoldable pub leads : Species
  leads i = S i && not (any i (λ j. S j && part j i))

  -- "the connected parts", by lowest species
  unfoldable pub parts : List Species
  parts = map part (members N leads)

  -- the links on S join all of S: there is one part
  abbrev pub joined : Bool
  joined = lone parts

-- The same said without the parts. By closed sets: a set that has one species of U and, with a species, all that the links on U link it to,
-- has all of U.
abbrev pub Closed : Triplets → Species → Species → Type 0
Closed E U X = (a b c : ℕ) → So (X a) → So (U a) → So (U b) → So (U c) → So (E a b c) → So (X b)

abbrev pub Joined : Triplets → Species → Type 0
Joined E U = (X : Species) → Closed E U X → (u : ℕ) → So (U u) → So (X u) → (x : ℕ) → So (U x) → So (X x)

-- By walks: any two species of U are linked step by step, each step by a triplet inside U.
pub data Walk (E : Triplets) (U : Species) : ℕ → ℕ → Type 0 where
  stay : (a : ℕ) → Walk E U a a
  via : (a b c : ℕ) {d : ℕ} → So (U a) → So (U b) → So (U c) → So (E a b c) → Walk E U b d → Walk E U a d

abbrev pub JoinedByWalks : Triplets → Species → Type 0
JoinedByWalks E U = (a b : ℕ) → So (U a) → So (U b) → Walk E U a b
