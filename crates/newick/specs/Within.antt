-- The limits, said of a tree. Request T-01: "Limits: 63 open brackets, 127 nodes, species number 254."
use Rattle.std.specs.Prelude.{ℕ, suc, max, ◌≤◌}
use Rattle.trees.specs.Trees.{Tree, Forest, leaf, node, nil, cons}
use Rattle.bodies.specs.Draws.{node_count}
use Rattle.bodies.specs.Nodes.{most_nodes}

-- how many brackets are open at a time, at most
abbrev mutual
  pub height : Tree → ℕ
  height (leaf x) = 0
  height (node f) = suc (height_f f)

  pub height_f : Forest → ℕ
  height_f nil = 0
  height_f (cons t f) = max (height t) (height_f f)

-- the largest species number
abbrev mutual
  pub largest_species : Tree → ℕ
  largest_species (leaf x) = x
  largest_species (node f) = largest_species_f f

  pub largest_species_f : Forest → ℕ
  largest_species_f nil = 0
  largest_species_f (cons t f) = max (largest_species t) (largest_species_f f)

pub record Within (t : Tree) : Type 0 where
  pub depth : height t ≤ 63
  pub count : node_count t ≤ most_nodes
  pub numbers : largest_species t ≤ 254
