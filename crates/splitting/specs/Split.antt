-- Splitting a set of species. Document 01, "Triplets, links, building": "With two or more, take the connected parts."
use Rattle.std.specs.Prelude.{List, map, ℕ}
use Rattle.sets.specs.Sets.{has, number}
use Rattle.trees.specs.Links.{parts}
use Rattle.trees.specs.Triplets.{Triplets}

-- the connected parts of s as numbers, by lowest species
unfoldable pub parts_of : Triplets → ℕ → List ℕ
parts_of E s = map (number 64) (parts E 64 (has s))
