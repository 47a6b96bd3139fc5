-- Small runs of loosening, computed on the definitions. Assumes nothing.
use mathlib.Core.List.{[], ◌∷◌, map}
use mathlib.Core.Path.{◌≡◌, refl}
use Rattle.sets.specs.Species.{members}
use Rattle.trees.specs.Links.{part}
use Rattle.trees.specs.Loosen.{loosen_in, loosened}
use Rattle.trees.specs.Trees.{Tree, cons, leaf, nil, node}
use Rattle.trees.specs.Triplets.{Triplets, both, holds, only}

abbrev two : Tree → Tree → Tree
two s t = node (cons s (cons t nil))

-- n=6, the trees ((0,1),2) and ((0,1),(3,(4,5))): of ((0,1),2,(3,(4,5))) first {3,4,5} goes, then {4,5}
abbrev papers : Triplets
papers = both (holds (two (two (leaf 0) (leaf 1)) (leaf 2))) (holds (two (two (leaf 0) (leaf 1)) (two (leaf 3) (two (leaf 4) (leaf 5)))))

abbrev built : Tree
built = node (cons (two (leaf 0) (leaf 1)) (cons (leaf 2) (cons (two (leaf 3) (two (leaf 4) (leaf 5))) nil)))

pub papers_final : (loosened papers 6 built).final ≡ node (cons (two (leaf 0) (leaf 1)) (cons (leaf 2) (cons (leaf 3) (cons (leaf 4) (cons (leaf 5) nil)))))
unfolding loosened loosen_in part members
papers_final = refl

pub papers_dropped : map (members 6) (loosened papers 6 built).dropped ≡ (3 ∷ 4 ∷ 5 ∷ []) ∷ (4 ∷ 5 ∷ []) ∷ []
unfolding loosened loosen_in part members
papers_dropped = refl

-- n=4, only 01|2 entered: of (((0,1),2),3) the outer group goes first; {0,1} then has a new sibling, and goes too
pub one_dropped : map (members 4) (loosened (only 0 1 2) 4 (two (two (two (leaf 0) (leaf 1)) (leaf 2)) (leaf 3))).dropped ≡ (0 ∷ 1 ∷ 2 ∷ []) ∷ (0 ∷ 1 ∷ []) ∷ []
unfolding loosened loosen_in part members
one_dropped = refl

-- n=4, 12|0 and 12|3 entered: of ((0,3),(1,2)) the group {0,3} goes, and 3 comes to stand behind (1,2)
pub inner_opened : (loosened (both (only 1 2 0) (only 1 2 3)) 4 (two (two (leaf 0) (leaf 3)) (two (leaf 1) (leaf 2)))).final
    ≡ node (cons (leaf 0) (cons (two (leaf 1) (leaf 2)) (cons (leaf 3) nil)))
unfolding loosened loosen_in part members
inner_opened = refl

-- n=5, 01|2, 23|4 and 12|4 entered: of ((((0,1),2),3),4) first {0,1,2} goes, then {0,1}; with it 01|2 leaves R, and {0,1,2,3}, which stands before both and was
-- earned until then, goes last
pub cascade : map (members 5) (loosened (both (only 0 1 2) (both (only 2 3 4) (only 1 2 4))) 5 (two (two (two (two (leaf 0) (leaf 1)) (leaf 2)) (leaf 3)) (leaf 4))).dropped
    ≡ (0 ∷ 1 ∷ 2 ∷ []) ∷ (0 ∷ 1 ∷ []) ∷ (0 ∷ 1 ∷ 2 ∷ 3 ∷ []) ∷ []
unfolding loosened loosen_in part members
cascade = refl
