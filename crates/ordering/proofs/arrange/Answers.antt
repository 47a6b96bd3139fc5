-- `ordering::arrange` meets its contract: the whole tree is the one under node 0. Assumes nothing.
use Rattle.std.proofs.Common.{arith}
use Rattle.bodies.proofs.Counts.{all_nodes}
use Rattle.bodies.specs.Nodes.{nodes}
use Rattle.ordering.proofs.arrange.Goals as goal

pub put-requires-clause-i_bound_2 : goal.put-requires-clause-i_bound_2
put-requires-clause-i_bound_2 c = omega (arith, all_nodes 64 (nodes c.args.body.now) c.requires.good c.requires.count_nonzero.0)

pub put-requires-clause-i_in_bounds : goal.put-requires-clause-i_in_bounds
put-requires-clause-i_in_bounds c = omega (arith, all_nodes 64 (nodes c.args.body.now) c.requires.good c.requires.count_nonzero.0)

pub returns-clause-value : goal.returns-clause-value
returns-clause-value c = omega (arith, c.put.ensures.value, all_nodes 64 (nodes c.args.body.now) c.requires.good c.requires.count_nonzero.0)
