-- The lines of two worked examples: computed on the definitions. Assumes nothing.
use mathlib.Core.List.{List, [], ◌∷◌, ◌++◌}
use mathlib.Core.Path.{◌≡◌, refl}
use Prim.Native.Nat.{ℕ}
use Rattle.sets.specs.Sets.{digit, number}
use Rattle.sets.specs.Species.{members}
use Rattle.bodies.specs.Draws.{tree_at}
use Rattle.bodies.specs.Nodes.{children}
use Rattle.writing.specs.Texts.{digits_in, ended}
use Rattle.sending.specs.Pulls.{groups_text}
use Rattle.sending.specs.Sends.{lines_text}
use Rattle.sending.specs.Words.{nothing_words}

-- ((0,1),2,3,4,5), of which 3 4 5 and 4 5 were dropped
abbrev gap : List ℕ
gap = 255 ∷ 255 ∷ 0 ∷ 255 ∷ 1 ∷ 0 ∷ 1 ∷ 1 ∷ 0 ∷ 2 ∷ 0 ∷ 3 ∷ 0 ∷ 4 ∷ 0 ∷ 5 ∷ []

pub lines-written :
    lines_text gap (56 ∷ 48 ∷ [])
    -- may be sent: ((0,1),2,3,4,5);
    ≡ ((109 ∷ 97 ∷ 121 ∷ 32 ∷ 98 ∷ 101 ∷ 32 ∷ 115 ∷ 101 ∷ 110 ∷ 116 ∷ 58 ∷ 32 ∷ 40 ∷ 40 ∷ 48 ∷ 44 ∷ 49 ∷ 41 ∷ 44 ∷ 50 ∷ 44 ∷ 51 ∷ 44 ∷ 52 ∷ 44 ∷ 53 ∷ 41 ∷ 59 ∷ 10 ∷ [])
    -- dropped: 3 4 5
    ++ ((100 ∷ 114 ∷ 111 ∷ 112 ∷ 112 ∷ 101 ∷ 100 ∷ 58 ∷ 32 ∷ 51 ∷ 32 ∷ 52 ∷ 32 ∷ 53 ∷ 10 ∷ [])
    -- dropped: 4 5
    ++ ((100 ∷ 114 ∷ 111 ∷ 112 ∷ 112 ∷ 101 ∷ 100 ∷ 58 ∷ 32 ∷ 52 ∷ 32 ∷ 53 ∷ 10 ∷ [])
    -- pull together: 0 1
    ++ (112 ∷ 117 ∷ 108 ∷ 108 ∷ 32 ∷ 116 ∷ 111 ∷ 103 ∷ 101 ∷ 116 ∷ 104 ∷ 101 ∷ 114 ∷ 58 ∷ 32 ∷ 48 ∷ 32 ∷ 49 ∷ 10 ∷ []))))
unfolding tree_at children digits_in digit number members
lines-written = refl

-- of (0,1,2) nothing is pulled
pub nothing_pulled : groups_text (255 ∷ 255 ∷ 0 ∷ 0 ∷ 0 ∷ 1 ∷ 0 ∷ 2 ∷ []) ≡ ended nothing_words
unfolding tree_at children
nothing_pulled = refl
