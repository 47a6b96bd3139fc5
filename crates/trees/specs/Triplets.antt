-- Triplets. ab|c says that of three species a and b are closer to each other than either is to c.
-- Document 01, "Triplets, links, building"; source 000, l.67.
use Rattle.std.specs.Prelude.{Bool, false, not, ◌&&◌, ◌||◌, List, [], ◌∷◌, ◌≢◌, ℕ, eqb}
use Rattle.std.proofs.Math.Bool.{So}
use Rattle.sets.specs.Species.{Species}
use Rattle.trees.specs.Trees.{Tree, under, groups}

-- triplets as a test: `E a b c` where ab|c is among them
abbrev pub Triplets : Type 0
Triplets = ℕ → ℕ → ℕ → Bool

-- ab|c is ba|c, and it speaks of three species
pub record Proper (E : Triplets) : Type 0 where
  pub swap : (a b c : ℕ) → So (E a b c) → So (E b a c)
  pub two : (a b c : ℕ) → So (E a b c) → a ≢ b
  pub third : (a b c : ℕ) → So (E a b c) → a ≢ c

-- G has a and b but not c
abbrev pub cuts : Species → ℕ → ℕ → ℕ → Bool
cuts G a b c = G a && (G b && not (G c))

abbrev pub cut_by : List Species → Triplets
cut_by [] a b c = false
cut_by (G ∷ l) a b c = cuts G a b c || cut_by l a b c

-- "A tree holds ab|c when some group has a and b but not c, and c is in the tree too." a and b are two species.
abbrev pub holds : Tree → Triplets
holds t a b c = not (eqb a b) && (under t c && cut_by (groups t) a b c)

-- one of the three triplets on a, b and c
abbrev pub on_triple : Triplets → Triplets
on_triple P a b c = P a b c || (P a c b || P b c a)

-- "triples that T resolves (where T holds one of the three triplets)"
abbrev pub resolves : Tree → Triplets
resolves t = on_triple (holds t)

abbrev pub different : ℕ → ℕ → ℕ → Bool
different a b c = not (eqb a b || (eqb a c || eqb b c))

-- "Three species that meet at one node without such a group are a fan."
abbrev pub fan : Tree → Triplets
fan t a b c = (under t a && (under t b && under t c)) && (different a b c && not (resolves t a b c))

-- the one triplet ab|c
abbrev pub only : ℕ → ℕ → ℕ → Triplets
only a b c x y z = eqb z c && ((eqb x a && eqb y b) || (eqb x b && eqb y a))

-- the triplets of both
abbrev pub both : Triplets → Triplets → Triplets
both E E' a b c = E a b c || E' a b c
