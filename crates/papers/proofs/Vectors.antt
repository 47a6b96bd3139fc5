-- Inputs with their answers, and one with its collection: computed. Assumes nothing.
use mathlib.Core.List.{List, [], ◌∷◌}
use mathlib.Core.Path.{◌≡◌, refl}
use Prim.Native.Nat.{ℕ}
use Rattle.rules.specs.Faults.{fault, first_break, seen}
use Rattle.bodies.specs.Nodes.{children}
use Rattle.bodies.specs.declared.Fault.TheVariants.{BadSpecies}
use Rattle.refusals.specs.declared.Refusal.TheVariants.{BadText, BadTree}
use Rattle.newick.proofs.Vectors.{times}
use Rattle.newick.specs.Scan.{act, past_limit, scan_from}
use Rattle.newick.specs.Signs.{sign}
use Rattle.highest.specs.Bound.{top_among, top_of_all}
use Rattle.papers.specs.Bundled.{bundled, chained}
use Rattle.papers.specs.Reads.{bodies_of, papers_answer, read_from, text_answer}
use Rattle.texts.specs.Texts.{all_blank, span, texts, texts_in}
use Rattle.papers.specs.declared.Unread.TheVariants.{Bad, Empty, Many}
use Rattle.std.specs.Prelude.{Ok, Err}

-- ((0,1),2);((0,1),(3,(4,5))); and a byte 10
abbrev two : List ℕ
two = 40 ∷ 40 ∷ 48 ∷ 44 ∷ 49 ∷ 41 ∷ 44 ∷ 50 ∷ 41 ∷ 59 ∷ 40 ∷ 40 ∷ 48 ∷ 44 ∷ 49 ∷ 41 ∷ 44 ∷ 40 ∷ 51 ∷ 44 ∷ 40 ∷ 52 ∷ 44 ∷ 53 ∷ 41 ∷ 41 ∷ 41 ∷ 59 ∷ 10 ∷ []

-- the bytes of the worked example
pub papers-bundled : bundled 6 (bodies_of two)
    ≡ 1 ∷ 6 ∷ 2 ∷ 0 ∷ 10 ∷ 255 ∷ 255 ∷ 0 ∷ 255 ∷ 1 ∷ 0 ∷ 1 ∷ 1 ∷ 0 ∷ 2 ∷ 0 ∷ 18 ∷ 255 ∷ 255 ∷ 0 ∷ 255 ∷ 1 ∷ 0 ∷ 1 ∷ 1 ∷ 0 ∷ 255 ∷ 4 ∷ 3 ∷ 4 ∷ 255 ∷ 6 ∷ 4 ∷ 6 ∷ 5 ∷ []
unfolding texts texts_in span all_blank chained scan_from act past_limit sign
papers-bundled = refl

pub papers-answered :
    (papers_answer two ≡ Ok (record { n = 6; trees = 2; end = 35 }))
    -- nothing, and a space and a byte 10
    × (papers_answer [] ≡ (Err Empty))
    × (papers_answer (32 ∷ 10 ∷ []) ≡ (Err Empty))
    -- 0; sixteen times, and seventeen times
    × (papers_answer (times 16 (48 ∷ 59 ∷ []) []) ≡ Ok (record { n = 1; trees = 16; end = 67 }))
    × (papers_answer (times 17 (48 ∷ 59 ∷ []) []) ≡ (Err Many))
    -- ((0,1),2;
    × (papers_answer (40 ∷ 40 ∷ 48 ∷ 44 ∷ 49 ∷ 41 ∷ 44 ∷ 50 ∷ 59 ∷ []) ≡ Err (Bad (record { paper = 1; start = 0; end = 9; why = BadText 8 })))
    -- 0;1 without a second semicolon
    × (papers_answer (48 ∷ 59 ∷ 49 ∷ []) ≡ Err (Bad (record { paper = 2; start = 2; end = 3; why = BadText 1 })))
    -- 0; 64;
    × (papers_answer (48 ∷ 59 ∷ 32 ∷ 54 ∷ 52 ∷ 59 ∷ []) ≡ Err (Bad (record { paper = 2; start = 2; end = 6; why = BadTree (record { tree = 0; node = 0; fault = BadSpecies 64 }) })))
unfolding papers_answer read_from text_answer texts texts_in span all_blank top_among top_of_all chained scan_from act past_limit sign fault first_break seen children
papers-answered = (refl, refl, refl, refl, refl, refl, refl, refl)
