-- Bodies with the texts of their cuts, computed on the definitions. Assumes nothing.
use mathlib.Core.List.{List, [], ◌∷◌}
use mathlib.Core.Path.{◌≡◌, refl}
use Prim.Native.Nat.{ℕ}
use Rattle.trees.specs.Trees.{elem, house}
use Rattle.bodies.specs.Draws.{tree_at, tree_of}
use Rattle.bodies.specs.Nodes.{children}
use Rattle.writing.specs.Texts.{digits_in}
use Rattle.cutting.specs.Texts.{cut_text}

-- ((0,(1,5)),(2,3),4);
abbrev paper : List ℕ
paper = 255 ∷ 255 ∷ 0 ∷ 255 ∷ 1 ∷ 0 ∷ 1 ∷ 255 ∷ 3 ∷ 1 ∷ 3 ∷ 5 ∷ 0 ∷ 255 ∷ 6 ∷ 2 ∷ 6 ∷ 3 ∷ 0 ∷ 4 ∷ []

abbrev cut_to : List ℕ → List ℕ
cut_to l = cut_text (λ x. elem x l) (house (tree_of paper))

pub texts-cut :
    -- ((0,(1,5)),3)
    (cut_to (0 ∷ 1 ∷ 3 ∷ 5 ∷ []) ≡ 40 ∷ 40 ∷ 48 ∷ 44 ∷ 40 ∷ 49 ∷ 44 ∷ 53 ∷ 41 ∷ 41 ∷ 44 ∷ 51 ∷ 41 ∷ [])
    -- (5,2): in the order of the paper's line
    × (cut_to (2 ∷ 5 ∷ []) ≡ 40 ∷ 53 ∷ 44 ∷ 50 ∷ 41 ∷ [])
    -- (1,5)
    × (cut_to (1 ∷ 5 ∷ []) ≡ 40 ∷ 49 ∷ 44 ∷ 53 ∷ 41 ∷ [])
    -- 3
    × (cut_to (3 ∷ []) ≡ 51 ∷ [])
    -- nothing
    × (cut_to (6 ∷ []) ≡ [])
unfolding tree_at children digits_in
texts-cut = (refl, refl, refl, refl, refl)
