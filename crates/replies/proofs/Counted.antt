-- The answer of a build, and behind its values the triples looked at: three at most. Assumes nothing.
use mathlib.Core.List.{[], ◌++◌, ◌∷◌}
use mathlib.Core.Path.{◌≡◌}
use Rattle.refusals.specs.Told.{looked_count, unnamed, value}
use Rattle.building.specs.Builds.{answer_told, build_told}
use Rattle.building.specs.declared.Counted.{Counted}
use Rattle.refusals.proofs.Replying.{unnamed_behind}

-- what is told of a build: the values of its answer, and the count behind them
pub counted_values : (a : Counted) → unnamed (build_told a).values ≡ unnamed (answer_told a.answer).values ++ (a.looked ∷ [])
counted_values a = unnamed_behind (answer_told a.answer).values (value looked_count a.looked)
