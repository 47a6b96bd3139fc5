-- The first places of the check, computed: there is none exactly when PC, and then PI, hold over trees. Assumes nothing.
use mathlib.Core.Bool.{So}
use mathlib.Core.List.{List}
use mathlib.Core.Logic.{◌↔◌}
use Prim.Native.Nat.{◌<◌, ◌≤◌, ℕ}
use native.Mathlib.Omega.{arith}
use Rattle.sets.proofs.Members.{all_below}
use Rattle.sets.specs.Species.{Inside, below}
use Rattle.trees.proofs.Theorems.{pc_exactly, pi_exactly}
use Rattle.trees.proofs.Triples.{differs_in, differs_proper, nowhere_e, nowhere_i, unsure_in, unsure_proper}
use Rattle.trees.specs.Check.{PC, PI, differs, unsure}
use Rattle.trees.specs.Trees.{Tree, under, well_formed}
use Rattle.trees.specs.Triplets.{Triplets}
use Rattle.tables.proofs.Bytes.{entered_proper}
use Rattle.triples.proofs.Find.{first_le, first_none}
use Rattle.tables.specs.Bytes.{entered}
use Rattle.triples.specs.Index.{C}
use Rattle.checking.specs.Checks.{first_differs, first_unsure}

module _ (n : ℕ) (t : List ℕ) (T : Tree) (f : So (well_formed T)) (sub : Inside (under T) (below n)) where
  abbrev E : Triplets
  E = entered t

  three : (a b c : ℕ) → So (under T a) × So (under T b) × So (under T c) → (a < n) × (b < n) × (c < n)
  three a b c i = (all_below n a (sub a i.0), all_below n b (sub b i.1), all_below n c (sub c i.2))

  pub pc_first : PC E (below n) T ↔ (C n 3 ≤ first_differs n t T)
  unfolding first_differs
  pc_first =
      let P = differs E T in
      let pr = entered_proper t in
      let k = pc_exactly E pr n (below n) (all_below n) T f sub in (
        (λ pc. let e = (first_none n P).1 (nowhere_i n P (k.0 pc)) in omega arith),
        λ l. k.1 (nowhere_e n P (differs_proper E pr T) (λ a b c h. three a b c (differs_in E pr T a b c h)) ((first_none n P).0 (omega (arith, first_le n P)))),
      )

  pub pi_first : PC E (below n) T → PI E (below n) T ↔ (C n 3 ≤ first_unsure n t T)
  unfolding first_unsure
  pi_first pc =
      let P = unsure E n T in
      let k = pi_exactly E (entered_proper t) n (below n) (all_below n) T f sub pc in (
        (λ pi. let e = (first_none n P).1 (nowhere_i n P (k.0 pi)) in omega arith),
        λ l. k.1 (nowhere_e n P (unsure_proper E n T) (λ a b c h. three a b c (unsure_in E n T a b c h)) ((first_none n P).0 (omega (arith, first_le n P)))),
      )
