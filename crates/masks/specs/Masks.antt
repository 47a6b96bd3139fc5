-- Triplets as masks: for each two species x and y the set of all z with xy|z. So x and y are linked on a set s exactly when their mask has a species of s.
use Rattle.std.specs.Prelude.{List, ◌≡◌, ℕ, ◌<◌, length}
use Rattle.sets.specs.Sets.{number}
use Rattle.trees.specs.Triplets.{Triplets}
use Rattle.groups.specs.Groups.{cell, cells}

pub record Masks (E : Triplets) (m : List ℕ) : Type 0 where
  pub size : length m ≡ cells
  pub mask : (x y : ℕ) → x < 64 → y < 64 → cell m x y ≡ number 64 (E x y)
