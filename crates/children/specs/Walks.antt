-- What a step of a walk over the children of a node gives.
use Rattle.std.specs.Prelude.{Option, ◌≡◌, ℕ}
use Rattle.bodies.specs.Nodes.{nodes}
use Rattle.children.specs.Children.{Gives}
use Rattle.children.specs.declared.Children.{Children}

-- s gave r, and goes on as s' over the children of the same node
pub record Steps (s : Children) (r : Option ℕ) (s' : Children) : Type 0 where
  pub tree : s'.tree ≡ s.tree
  pub node : s'.node ≡ s.node
  pub gives : Gives (nodes s.tree.body.now) s.tree.groups.now s.node s.rest r s'.rest
