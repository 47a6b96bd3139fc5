-- The group of node 0 is what stands under the root. Assumes nothing.
use borrow.Author.Rules.{rules}
use mathlib.Core.Path.{refl}
use Rattle.bodies.proofs.Good.{length_good}
use Rattle.collections.proofs.tree_set.Statement.{statement}
use Rattle.collections.proofs.tree_set.Tie as tie

groups-requires : tie.Need-groups-requires
groups-requires c κs =
    let s = c.before.before in
    (s.requires.0, ((length_good s.args.body.now s.requires.1).1, refl))

array-read-result : tie.Need-bounds-g-0
array-read-result c = search rules

returns : tie.Need-returns
returns c =
    let s = c.before.before.before in
    c.groups.ensures.group 0 (length_good s.args.body.now s.requires.1).0

pub tree_set_spec : {M : Type 1} → statement M
tree_set_spec = tie.close (tie.spec groups-requires array-read-result returns)
