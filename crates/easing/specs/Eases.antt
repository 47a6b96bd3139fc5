-- What loosening comes to. Request T-07: "While an unearned one exists, drop the first in house order [..]. Write the final tree in house order and the dropped
-- sets in the order they went; return the node count and how many were dropped."
use Rattle.std.specs.Prelude.{List, [], ◌∷◌, ℕ, length}
use Rattle.std.proofs.lemmas.List.Edits.{sets}
use Rattle.sets.specs.Sets.{number}
use Rattle.sets.specs.Species.{Species}
use Rattle.trees.specs.Loosen.{Loosened, loosened}
use Rattle.tables.specs.Bytes.{entered}
use Rattle.bodies.specs.Draws.{body_of, node_count, tree_of, written}
use Rattle.easing.specs.declared.Tally.{Tally}

-- what is lent: the room for the tree, and the list for the dropped sets
pub record Lent : Type 0 where
  pub room : List ℕ
  pub list : List ℕ

abbrev pub lent : List ℕ → List ℕ → Lent
lent o d = record { room = o; list = d }

-- "a 64-bit number, bit i for species i", of each set
abbrev pub numbers : List Species → List ℕ
numbers [] = []
numbers (G ∷ l) = number 64 G ∷ numbers l

-- what loosening the tree of the body b by the table t comes to
unfoldable pub eased : ℕ → List ℕ → List ℕ → Loosened
eased n t b = loosened (entered t) n (tree_of b)

-- on 0: how many nodes the final tree has, and how many sets were dropped
abbrev pub tally : Loosened → Tally
tally L = record { nodes = node_count L.final; dropped = length L.dropped }

-- the final tree stands at the front of the room, the dropped sets at the front of the list, and nothing behind them is changed
abbrev pub laid_out : Loosened → Lent → Lent
laid_out L o = lent (written o.room (body_of L.final)) (sets o.list 0 (numbers L.dropped))
