-- What is said of the operations together.
use Rattle.std.specs.Prelude.{List, [], ◌∷◌, ◌↔◌, ◌≢◌, ◌⊎◌, ◌≡◌, ℕ}
use Rattle.refusals.specs.Told.{looked_count, number_of_nodes, occurring_set, species_count, told, tree_count, value}
use Rattle.collections.specs.Layout.{species, trees}
use Rattle.promises.specs.Operations.{Builder, Checker, Operations}
use Rattle.promises.specs.Accepts.{Accepts}
use Rattle.promises.specs.Demand1.{Demand1}
use Rattle.promises.specs.Demand2.{Demand2, front}
use Rattle.promises.specs.Demand3.{Demand3}

-- all three demands, of one and the same operations
abbrev pub AllDemands : Operations → Type 0
AllDemands L = Demand1 L × Demand2 L × Demand3 L

-- whatever keeps demand 1 refuses input exactly when it is not good
abbrev pub RefusesBadAlone : Type 0
RefusesBadAlone = (L : Operations) → Demand1 L → Accepts L

-- where a build f answers 0 with m nodes, the check c of their bytes against the same table answers 0 or 12
abbrev pub OwnChecked : Builder → Checker → Type 0
OwnChecked f c = (n s m l : ℕ) (t o : List ℕ) → (f n s t o).told ≡ told 0 (value number_of_nodes m ∷ value looked_count l ∷ [])
    → ((c n t (front m (f n s t o).after)).number ≡ 0) ⊎ ((c n t (front m (f n s t o).after)).number ≡ 12)

-- of the plain build
abbrev pub BuiltChecked : Operations → Type 0
BuiltChecked L = OwnChecked L.build L.check

-- a set u with a table t of n species is one that the build takes: 15 comes only where the set is empty, and 16 never
pub record Taken (L : Operations) (n u : ℕ) (t : List ℕ) : Type 0 where
  pub empty : (o : List ℕ) → ((L.build n u t o).told.number ≡ 15) ↔ (u ≡ 0)
  pub outside : (o : List ℕ) → (L.build n u t o).told.number ≢ 16

-- so is the set that occurs, as listing and entering return it, with the table that they fill
pub record OccurringTaken (L : Operations) : Type 0 where
  pub listed : (b t : List ℕ) (u : ℕ) → (L.list b t).told ≡ told 0 (value species_count (species b) ∷ value tree_count (trees b) ∷ value occurring_set u ∷ []) → Taken L (species b) u (L.list b t).after
  pub entered : (n : ℕ) (rs : List (List ℕ)) (t : List ℕ) (u : ℕ) → (L.enter n rs t).told ≡ told 0 (value species_count n ∷ value occurring_set u ∷ []) → Taken L n u (L.enter n rs t).after
