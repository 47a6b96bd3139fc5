-- A collection with the lines of its papers, computed on the definitions. Assumes nothing.
use mathlib.Core.List.{List, [], ◌∷◌, ◌++◌}
use mathlib.Core.Path.{◌≡◌, refl}
use Prim.Native.Nat.{ℕ}
use lib.Count.{ones}
use Rattle.sets.specs.Sets.{digit, number}
use Rattle.bodies.specs.Draws.{tree_at}
use Rattle.bodies.specs.Nodes.{children}
use Rattle.collections.specs.Layout.{start}
use Rattle.writing.specs.Texts.{digits_in}
use Rattle.papers_text.specs.Lines.{papers_text, sides_text}

abbrev first : List ℕ
first = 255 ∷ 255 ∷ 0 ∷ 255 ∷ 1 ∷ 255 ∷ 2 ∷ 0 ∷ 2 ∷ 1 ∷ 1 ∷ 2 ∷ 0 ∷ 3 ∷ []

-- not in house order
abbrev second : List ℕ
second = 255 ∷ 255 ∷ 0 ∷ 3 ∷ 0 ∷ 255 ∷ 2 ∷ 1 ∷ 2 ∷ 255 ∷ 4 ∷ 2 ∷ 4 ∷ 0 ∷ []

abbrev third : List ℕ
third = 255 ∷ 255 ∷ 0 ∷ 0 ∷ 0 ∷ 3 ∷ []

-- three papers of four species
abbrev papers : List ℕ
papers = (1 ∷ 4 ∷ 3 ∷ []) ++ ((0 ∷ 14 ∷ first) ++ ((0 ∷ 14 ∷ second) ++ (0 ∷ 6 ∷ third)))

pub papers_printed : papers_text papers 3 ≡
    -- paper 1: (((0,1),2),3);
    112 ∷ 97 ∷ 112 ∷ 101 ∷ 114 ∷ 32 ∷ 49 ∷ 58 ∷ 32 ∷ 40 ∷ 40 ∷ 40 ∷ 48 ∷ 44 ∷ 49 ∷ 41 ∷ 44 ∷ 50 ∷ 41 ∷ 44 ∷ 51 ∷ 41 ∷ 59 ∷ 10 ∷
    -- paper 2: (((0,2),1),3);
    112 ∷ 97 ∷ 112 ∷ 101 ∷ 114 ∷ 32 ∷ 50 ∷ 58 ∷ 32 ∷ 40 ∷ 40 ∷ 40 ∷ 48 ∷ 44 ∷ 50 ∷ 41 ∷ 44 ∷ 49 ∷ 41 ∷ 44 ∷ 51 ∷ 41 ∷ 59 ∷ 10 ∷
    -- paper 3: (0,3);
    112 ∷ 97 ∷ 112 ∷ 101 ∷ 114 ∷ 32 ∷ 51 ∷ 58 ∷ 32 ∷ 40 ∷ 48 ∷ 44 ∷ 51 ∷ 41 ∷ 59 ∷ 10 ∷ []
unfolding papers_text start tree_at children digits_in
papers_printed = refl

-- of the species 0, 1 and 2
pub sides_printed : sides_text 7 papers 3 ≡
    -- paper 1 says of these: ((0,1),2);
    112 ∷ 97 ∷ 112 ∷ 101 ∷ 114 ∷ 32 ∷ 49 ∷ 32 ∷ 115 ∷ 97 ∷ 121 ∷ 115 ∷ 32 ∷ 111 ∷ 102 ∷ 32 ∷ 116 ∷ 104 ∷ 101 ∷ 115 ∷ 101 ∷ 58 ∷ 32 ∷ 40 ∷ 40 ∷ 48 ∷ 44 ∷ 49 ∷ 41 ∷ 44 ∷ 50 ∷ 41 ∷ 59 ∷ 10 ∷
    -- paper 2 says of these: ((0,2),1);
    112 ∷ 97 ∷ 112 ∷ 101 ∷ 114 ∷ 32 ∷ 50 ∷ 32 ∷ 115 ∷ 97 ∷ 121 ∷ 115 ∷ 32 ∷ 111 ∷ 102 ∷ 32 ∷ 116 ∷ 104 ∷ 101 ∷ 115 ∷ 101 ∷ 58 ∷ 32 ∷ 40 ∷ 40 ∷ 48 ∷ 44 ∷ 50 ∷ 41 ∷ 44 ∷ 49 ∷ 41 ∷ 59 ∷ 10 ∷
    -- paper 3 says nothing of these
    112 ∷ 97 ∷ 112 ∷ 101 ∷ 114 ∷ 32 ∷ 51 ∷ 32 ∷ 115 ∷ 97 ∷ 121 ∷ 115 ∷ 32 ∷ 110 ∷ 111 ∷ 116 ∷ 104 ∷ 105 ∷ 110 ∷ 103 ∷ 32 ∷ 111 ∷ 102 ∷ 32 ∷ 116 ∷ 104 ∷ 101 ∷ 115 ∷ 101 ∷ 10 ∷ []
unfolding sides_text start tree_at children digits_in number ones digit
sides_printed = refl
