-- What can be held by one tree, said over trees and without the build. Document 01, "Triplets, links, building": "a tree here has the n species as
-- leaves and at least two children at each inner node"; source 000, l.69 (compatible).
use Rattle.std.specs.Prelude.{◌≡◌, ℕ}
use Rattle.std.proofs.Math.Bool.{So}
use Rattle.sets.specs.Species.{Species}
use Rattle.trees.specs.Trees.{Tree, under, well_formed}
use Rattle.trees.specs.Triplets.{Triplets, holds}

-- t is a tree with exactly the species S, and holds every triplet of E on them
pub record HeldBy (E : Triplets) (S : Species) (t : Tree) : Type 0 where
  pub species : (x : ℕ) → under t x ≡ S x
  pub formed : So (well_formed t)
  pub keeps : (a b c : ℕ) → So (S a) → So (S b) → So (S c) → So (E a b c) → So (holds t a b c)

abbrev pub CanBeHeld : Triplets → Species → Type 0
CanBeHeld E S = (t : Tree) × HeldBy E S t
