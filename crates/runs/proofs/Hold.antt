-- Every run holds, by computing the definitions themselves. Assumes nothing.
use mathlib.Core.Path.{refl}
use Rattle.sets.specs.Species.{members}
use Rattle.sets.specs.Sets.{digit, number}
use Rattle.trees.specs.Links.{part, leads, parts}
use Rattle.trees.specs.Build.{build_in, build_by}
use Rattle.triples.specs.Index.{C, index, largest, high_at, mid_at, low_at}
use Rattle.tables.specs.Bytes.{place_of, bit_of, entered}
use Rattle.triples.specs.Find.{at, first_from, first_triple}
use Rattle.building.specs.Builds.{outcome_by}
use Rattle.checking.specs.Checks.{first_differs, first_unsure}
use Rattle.runs.specs.Runs.{Holds, example4, papers, readings}

pub readings_hold : Holds readings
unfolding members digit number part leads parts build_in build_by C index largest high_at mid_at low_at place_of bit_of entered at first_from first_triple first_differs first_unsure outcome_by
readings_hold = (refl, (refl, (refl, tt)))

pub papers_hold : Holds papers
unfolding members digit number part leads parts build_in build_by C index largest high_at mid_at low_at place_of bit_of entered at first_from first_triple first_differs first_unsure outcome_by
papers_hold = (refl, (refl, (refl, (refl, (refl, (refl, (refl, (refl, tt))))))))

pub example4_hold : Holds example4
unfolding members digit number part leads parts build_in build_by C index largest high_at mid_at low_at place_of bit_of entered at first_from first_triple first_differs first_unsure outcome_by
example4_hold = (refl, (refl, tt))
