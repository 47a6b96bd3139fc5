-- Small cuts, computed on the definitions. Assumes nothing.
use mathlib.Core.List.{[], ◌∷◌}
use mathlib.Core.Path.{◌≡◌, refl}
use Rattle.trees.specs.Cut.{cut}
use Rattle.trees.specs.Trees.{Tree, cons, elem, leaf, nil, node}

abbrev two : Tree → Tree → Tree
two s t = node (cons s (cons t nil))

-- ((0,(1,5)),(2,3),4)
abbrev paper : Tree
paper = node (cons (two (leaf 0) (two (leaf 1) (leaf 5))) (cons (two (leaf 2) (leaf 3)) (cons (leaf 4) nil)))

pub cuts-made :
    -- to 0, 1, 3 and 5: ((0,(1,5)),3)
    (cut (λ x. elem x (0 ∷ 1 ∷ 3 ∷ 5 ∷ [])) paper ≡ cons (two (two (leaf 0) (two (leaf 1) (leaf 5))) (leaf 3)) nil)
    -- to 0 and 5, which one child has: (0,5)
    × (cut (λ x. elem x (0 ∷ 5 ∷ [])) paper ≡ cons (two (leaf 0) (leaf 5)) nil)
    -- to 3 alone, and 7, which is not there
    × (cut (λ x. elem x (3 ∷ 7 ∷ [])) paper ≡ cons (leaf 3) nil)
    -- to 6, which is not there
    × (cut (λ x. elem x (6 ∷ [])) paper ≡ nil)
    -- to all of them: the tree itself
    × (cut (λ x. elem x (0 ∷ 1 ∷ 2 ∷ 3 ∷ 4 ∷ 5 ∷ [])) paper ≡ cons paper nil)
cuts-made = (refl, refl, refl, refl, refl)
