-- The veto build's tree, said over trees and without the build. Request T-06: "as ours, but where a set's links join it all, every species of that set
-- becomes a leaf under it"; source 004, l.125 (Build_PC).
use Rattle.std.specs.Prelude.{◌≡◌, ℕ}
use Rattle.sets.specs.Species.{Species}
use Rattle.trees.specs.Trees.{Child, Forest, Tree, cons, leaf, nil, node, under_f}
use Rattle.trees.specs.Triplets.{Triplets}
use Rattle.trees.specs.Links.{JoinedByWalks}
use Rattle.trees.specs.Aho.{Parted}

-- every child is a leaf
abbrev pub Leaves : Forest → Type 0
Leaves f = (s : Tree) → Child s f → (x : ℕ) × (s ≡ leaf x)

-- the children of a node whose group is S: leaves, "where a set's links join it all"; else "as ours", the parts
pub record VetoParted (E : Triplets) (S : Species) (f : Forest) : Type 0 where
  pub joined : JoinedByWalks E S → Leaves f
  pub else_parted : (JoinedByWalks E S → ⊥) → Parted E S f

-- so at each node
abbrev mutual
  pub VetoTree : Triplets → Tree → Type 0
  VetoTree E (leaf x) = Unit {0}
  VetoTree E (node f) = VetoParted E (under_f f) f × VetoForest E f

  pub VetoForest : Triplets → Forest → Type 0
  VetoForest E nil = Unit {0}
  VetoForest E (cons t f) = VetoTree E t × VetoForest E f
