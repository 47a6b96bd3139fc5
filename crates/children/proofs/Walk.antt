-- A walk over the children of node i, step by step. Assumes nothing.
use Rattle.std.proofs.Common.{Option, ◌≡◌, ◌∙◌, ℕ}
use Rattle.bodies.specs.Nodes.{nodes}
use Rattle.groups.specs.declared.Grouped.{Grouped}
use Rattle.children.specs.Children.{Gives}
use Rattle.children.specs.Walks.{Steps}
use Rattle.children.specs.declared.Children.{Children}

-- s walks over the children of node i of T
pub record Over (T : Grouped) (i : ℕ) (s : Children) : Type 0 where
  pub tree : s.tree ≡ T
  pub node : s.node ≡ i

module _ {T : Grouped} {i : ℕ} {s : Children} {r : Option ℕ} {s' : Children} (o : Over T i s) (t : Steps s r s') where
  pub over_on : Over T i s'
  over_on = record { tree = t.tree ∙ o.tree; node = t.node ∙ o.node }

  pub over_gives : Gives (nodes T.body.now) T.groups.now i s.rest r s'.rest
  over_gives = rw (← o.tree, ← o.node) t.gives
