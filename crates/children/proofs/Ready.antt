-- What the walk asks of a body, of one that breaks no rule. Assumes nothing.
use mathlib.Core.Bool.{false}
use mathlib.Core.List.{List}
use mathlib.Core.Path.{◌≡◌}
use Prim.Native.Nat.{◌<◌, ◌≤◌, ℕ}
use lib.ListN.{length}
use Rattle.bodies.proofs.Counts.{all_nodes}
use Rattle.bodies.proofs.Good.{good_more, length_good}
use Rattle.bodies.specs.Draws.{node_count, tree_of}
use Rattle.bodies.specs.Nodes.{Good, bad_length, body_length, most_nodes, nodes}

pub record Ready (b : List ℕ) : Type 0 where
  pub good : Good 64 (nodes b)
  pub some : 0 < (nodes b).count
  pub few : (nodes b).count ≤ most_nodes
  pub tree : node_count (tree_of b) ≡ (nodes b).count
  pub whole : length b ≡ body_length (nodes b).count

pub is_ready : (n : ℕ) (b : List ℕ) → n ≤ 64 → Good n (nodes b) → bad_length (length b) ≡ false → Ready b
is_ready n b m h l =
    let g = good_more n 64 (nodes b) m h in
    let k = length_good b l in
    record { good = g; some = k.0; few = k.1; tree = all_nodes 64 (nodes b) g k.0; whole = k.2 }
