-- What may stand at a place, in the words of the form and its limits.
use Rattle.std.specs.Prelude.{List, ◌≡◌, ℕ, ◌+◌, ◌≤◌}
use Rattle.bodies.specs.Nodes.{most_nodes}
use Rattle.newick.specs.Place.{Begins, closes, fresh, in_number, nodes_begun, opens, spot}

-- some text of the form begins with u, and at its last byte no limit is passed: "63 open brackets, 127 nodes, species number 254"
pub record GoesOn (u : List ℕ) : Type 0 where
  pub begins : Begins u
  pub depth : opens u ≤ 63 + closes u
  pub count : nodes_begun fresh u ≤ most_nodes
  pub number : (v : ℕ) → spot fresh u ≡ in_number v → v ≤ 254
