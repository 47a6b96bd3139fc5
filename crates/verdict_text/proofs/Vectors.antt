-- The line of a worked example: computed on the definitions. Assumes nothing.
use mathlib.Core.List.{[], ◌∷◌}
use mathlib.Core.Path.{◌≡◌, refl}
use Rattle.triples.specs.Index.{C, high_at, largest, low_at, mid_at}
use Rattle.triples.specs.Named.{named, triple_at}
use Rattle.bodies.specs.Draws.{tree_at}
use Rattle.bodies.specs.Nodes.{children}
use Rattle.refusals.specs.declared.Refusal.TheVariants.{Unforced}
use Rattle.checking.specs.Checks.{check_told}
use Rattle.writing.specs.Texts.{digits_in}
use Rattle.verdict_text.specs.Verdict.{told_text}
use Rattle.std.specs.Prelude.{Err}

-- where the check of ((0,1),2,(3,(4,5))) names the triple with index 9
pub gap-written :
    told_text (255 ∷ 255 ∷ 0 ∷ 255 ∷ 1 ∷ 0 ∷ 1 ∷ 1 ∷ 0 ∷ 2 ∷ 0 ∷ 255 ∷ 5 ∷ 3 ∷ 5 ∷ 255 ∷ 7 ∷ 4 ∷ 7 ∷ 5 ∷ []) (check_told (Err (Unforced 9)))
    -- not forced by the papers: 3 and 4 closer to each other than to 2
    ≡ 110 ∷ 111 ∷ 116 ∷ 32 ∷ 102 ∷ 111 ∷ 114 ∷ 99 ∷ 101 ∷ 100 ∷ 32 ∷ 98 ∷ 121 ∷ 32 ∷ 116 ∷ 104 ∷ 101 ∷ 32 ∷ 112 ∷ 97 ∷ 112 ∷ 101 ∷ 114 ∷ 115 ∷ 58 ∷ 32 ∷ 51 ∷ 32 ∷ 97 ∷ 110 ∷ 100 ∷ 32 ∷ 52 ∷ 32 ∷ 99 ∷ 108 ∷ 111 ∷ 115 ∷ 101 ∷ 114 ∷ 32 ∷ 116 ∷ 111 ∷ 32 ∷ 101 ∷ 97 ∷ 99 ∷ 104 ∷ 32 ∷ 111 ∷ 116 ∷ 104 ∷ 101 ∷ 114 ∷ 32 ∷ 116 ∷ 104 ∷ 97 ∷ 110 ∷ 32 ∷ 116 ∷ 111 ∷ 32 ∷ 50 ∷ 10 ∷ []
unfolding tree_at children digits_in named triple_at high_at mid_at low_at largest C
gap-written = refl
