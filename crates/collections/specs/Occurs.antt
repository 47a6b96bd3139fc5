-- The species that occur in a collection. Request T-03: "Listing and entering now also return the set that occurs". A species occurs where it is under the root
-- of some tree, fans and lone leaves too.
use Rattle.std.specs.Prelude.{◌||◌, false, List, suc, zero, ℕ}
use Rattle.sets.specs.Sets.{number}
use Rattle.sets.specs.Species.{Species}
use Rattle.trees.specs.Trees.{under}
use Rattle.bodies.specs.Draws.{tree_of}
use Rattle.collections.specs.Layout.{body_at, trees}

module _ (b : List ℕ) where
  -- in one of the first k trees
  unfoldable pub occurs_up_to : ℕ → Species
  occurs_up_to zero x = false
  occurs_up_to (suc k) x = occurs_up_to k x || under (tree_of (body_at b k)) x

  -- the set that occurs, as a number
  abbrev pub occurring : ℕ
  occurring = number 64 (occurs_up_to (trees b))
