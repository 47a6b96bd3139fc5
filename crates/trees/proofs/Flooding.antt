-- What is reached over the links on a set is the connected part. Assumes nothing.
use mathlib.Core.Bool.{So}
use mathlib.Core.Path.{◌∙◌, ◌≡◌, sym}
use Prim.Native.Nat.{◌<◌, ◌^◌, ℕ}
use Rattle.sets.proofs.Tests.{has-below}
use Rattle.sets.specs.Floods.{Flooded}
use Rattle.sets.specs.Sets.{has}
use Rattle.sets.specs.Species.{Below, Species}
use Rattle.trees.proofs.Parts.{linked_e, linked_i, part_closed, part_refl}
use Rattle.trees.proofs.Stopping.{part_unique}
use Rattle.trees.specs.Links.{linked, part}
use Rattle.trees.specs.Triplets.{Proper, Triplets}

pub flooded_part : (E : Triplets) → Proper E → (s : ℕ) → s < 2 ^ 64 → (L : ℕ → Species) (a r : ℕ) → So (has s a) → ((x y : ℕ) → L x y ≡ linked E 64 (has s) x y)
    → Flooded L a r → has r ≡ part E 64 (has s) a
flooded_part E pr s hs L a r ha sh f =
    let bd : Below 64 (has s) = has-below 64 s hs in
    part_unique E 64 pr (has s) bd a (has r) f.start
    (f.least (part E 64 (has s) a)
    (λ i j p l h. let w = linked_e E 64 (has s) bd i j (sym (sh i j) ∙ h) in part_closed E 64 (has s) bd pr a i j w.2.0 p w.0 w.1 w.2.1 w.2.2)
    (part_refl E 64 (has s) bd pr a))
    (λ p q c h hp hq hc e. f.kept p q h (bd q hq) (sh p q ∙ linked_i E 64 (has s) bd p q c hp hq hc e))
