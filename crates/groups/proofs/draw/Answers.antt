-- `groups::draw` meets its contract: the group of node 0 is the set of all species. Assumes nothing.
use Rattle.bodies.proofs.Drawn.{tree_formed}
use Rattle.bodies.specs.Nodes.{nodes}
use Rattle.groups.proofs.draw.Goals as goal

pub returns-clause-drawn : goal.returns-clause-drawn
returns-clause-drawn c = record {
  formed = tree_formed 64 (nodes c.args.body.now) c.requires.good c.requires.count_nonzero.0;
  all = c.groups.ensures.group 0 c.requires.count_nonzero.0;
  meet = c.pairs.ensures;
}
