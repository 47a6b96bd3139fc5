-- Small runs of the veto build, computed on the definitions. Assumes nothing.
use mathlib.Core.Path.{◌∙◌, ◌≡◌, refl, sym}
use Rattle.sets.specs.Species.{below, members}
use Rattle.trees.specs.Build.{build, build_by, build_in, tree, veto}
use Rattle.trees.specs.Links.{leads, part, parts}
use Rattle.trees.specs.Trees.{Forest, Tree, cons, leaf, nil, node}
use Rattle.trees.specs.Triplets.{Triplets, both, only}

abbrev pub quarrel : Triplets
quarrel = both (only 0 1 2) (only 0 2 1)

-- the leaves 0, 1 and 2
abbrev three : Forest
three = cons (leaf 0) (cons (leaf 1) (cons (leaf 2) nil))

-- n=3, 01|2 and 02|1: (0,1,2), the quarrel of all
pub veto_all : veto quarrel 3 (below 3) ≡ tree (node three)
unfolding build_by build_in parts part leads members
veto_all = refl

-- n=4, the same, document 01's table 3 0 0 0: ((0,1,2),3)
pub veto-part : veto quarrel 4 (below 4) ≡ tree (node (cons (node three) (cons (leaf 3) nil)))
unfolding build_by build_in parts part leads members
veto-part = refl

-- n=6, and 03|4: (((0,1,2),3),4,5), a quarrel two levels down
pub veto_deep : veto (both quarrel (only 0 3 4)) 6 (below 6) ≡ tree (node (cons (node (cons (node three) (cons (leaf 3) nil))) (cons (leaf 4) (cons (leaf 5) nil))))
unfolding build_by build_in parts part leads members
veto_deep = refl

-- n=4, 01|2 and 01|3: no quarrel, and the plain build's tree, ((0,1),2,3)
abbrev calm : Triplets
calm = both (only 0 1 2) (only 0 1 3)

abbrev pair_first : Tree
pair_first = node (cons (node (cons (leaf 0) (cons (leaf 1) nil))) (cons (leaf 2) (cons (leaf 3) nil)))

calm_vetoed : veto calm 4 (below 4) ≡ tree pair_first
unfolding build_by build_in parts part leads members
calm_vetoed = refl

calm_built : build calm 4 (below 4) ≡ tree pair_first
unfolding build_by build_in parts part leads members
calm_built = refl

pub veto_calm : (veto calm 4 (below 4) ≡ tree pair_first) × (build calm 4 (below 4) ≡ veto calm 4 (below 4))
veto_calm = (calm_vetoed, calm_built ∙ sym calm_vetoed)
