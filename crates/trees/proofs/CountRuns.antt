-- Small runs of the sets that a build visits and of the triples that it looks at, computed on the definitions. Assumes nothing.
use mathlib.Core.Bool.{false, true}
use mathlib.Core.List.{List, [], ◌∷◌, map}
use mathlib.Core.Path.{◌≡◌, refl}
use Prim.Native.Nat.{ℕ}
use Rattle.sets.specs.Species.{below, members}
use Rattle.trees.proofs.VetoRuns.{quarrel}
use Rattle.trees.specs.Build.{build_in}
use Rattle.trees.specs.Combinations.{C}
use Rattle.trees.specs.Links.{leads, part, parts}
use Rattle.trees.specs.Triplets.{Triplets, both, holds, only}
use Rattle.trees.specs.Visits.{looked, nest, visited, visited_in}

abbrev three : List ℕ
three = 0 ∷ 1 ∷ 2 ∷ []

-- n=4, the triplets of (((0,1),2),3): 4 + 1 + 0 triples, C(5,4), by either build
pub nested_visits : map (members 4) (visited false (holds (nest 3)) 4 (below 4)) ≡ (0 ∷ 1 ∷ 2 ∷ 3 ∷ []) ∷ three ∷ (0 ∷ 1 ∷ []) ∷ []
unfolding visited visited_in build_in parts part leads members
nested_visits = refl

pub nested_looked : (looked false (holds (nest 3)) 4 (below 4) ≡ 5) × (looked true (holds (nest 3)) 4 (below 4) ≡ 5)
unfolding looked visited visited_in build_in parts part leads members C
nested_looked = (refl, refl)

-- n=4, nothing entered: (0,1,2,3), and the 4 triples of the whole
pub none-looked : looked false (λ a b c. false) 4 (below 4) ≡ 4
unfolding looked visited visited_in build_in parts part leads members C
none-looked = refl

-- n=4, 01|2 and 02|1, document 01's table 3 0 0 0: the plain build stops at {0,1,2}, with 4 triples of the whole and 1 of that set
pub stop_visits : map (members 4) (visited false quarrel 4 (below 4)) ≡ (0 ∷ 1 ∷ 2 ∷ 3 ∷ []) ∷ three ∷ []
unfolding visited visited_in build_in parts part leads members
stop_visits = refl

-- and the veto build, which gives ((0,1,2),3), looks at as many
pub stop_looked : (looked false quarrel 4 (below 4) ≡ 5) × (looked true quarrel 4 (below 4) ≡ 5)
unfolding looked visited visited_in build_in parts part leads members C
stop_looked = (refl, refl)

-- n=6, and the same among 3, 4 and 5: the plain build stops at the first of the two sets, the veto build goes on to the other
abbrev quarrels : Triplets
quarrels = both quarrel (both (only 3 4 5) (only 3 5 4))

pub quarrels_visits : map (members 6) (visited true quarrels 6 (below 6)) ≡ (0 ∷ 1 ∷ 2 ∷ 3 ∷ 4 ∷ 5 ∷ []) ∷ three ∷ (3 ∷ 4 ∷ 5 ∷ []) ∷ []
unfolding visited visited_in build_in parts part leads members
quarrels_visits = refl

pub quarrels_looked : (looked false quarrels 6 (below 6) ≡ 21) × (looked true quarrels 6 (below 6) ≡ 22)
unfolding looked visited visited_in build_in parts part leads members C
quarrels_looked = (refl, refl)
