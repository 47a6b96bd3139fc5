-- What is promised of the veto build. Request T-06: "as ours, but where a set's links join it all, every species of that set becomes a leaf under it. It never
-- gives 10. Its tree always passes the PC part of the check. Where a tree holding everything exists, it equals the plain build."
use Rattle.std.proofs.Math.Bool.{So}
use Rattle.std.specs.Prelude.{true, List, [], ◌∷◌, ◌≢◌, ◌≡◌, ℕ}
use Rattle.sets.specs.Sets.{has}
use Rattle.sets.specs.Species.{Species, below}
use Rattle.trees.specs.Check.{PC}
use Rattle.trees.specs.Held.{CanBeHeld}
use Rattle.trees.specs.Trees.{under, well_formed}
use Rattle.trees.specs.Triplets.{Triplets}
use Rattle.trees.specs.Veto.{VetoTree}
use Rattle.tables.specs.Bytes.{entered}
use Rattle.bodies.specs.Draws.{tree_of}
use Rattle.refusals.specs.Told.{looked_count, number_of_nodes, told, value}
use Rattle.promises.specs.Operations.{Builder, Checker, Given, Operations}
use Rattle.promises.specs.Inputs.{Buildable}
use Rattle.promises.specs.Demand2.{HouseBody, Wrote, front}
use Rattle.promises.specs.Together.{OwnChecked}
use Rattle.promises.specs.Counting.{CountsAll}

-- a good tree with exactly the species S, in house order: at each node whose group the links join all children are leaves, at every other they are the parts
-- (`VetoTree`); and it passes PC against the entered triplets E, over all n species as in the check
pub record VetoesRight (E : Triplets) (n : ℕ) (S : Species) (o : List ℕ) (g : Given) : Type 0 where
  pub count : ℕ
  pub looked : ℕ
  pub told_is : g.told ≡ told 0 (value number_of_nodes count ∷ value looked_count looked ∷ [])
  pub wrote : Wrote n count o g.after
  pub species : (x : ℕ) → under (tree_of (front count g.after)) x ≡ S x
  pub formed : So (well_formed (tree_of (front count g.after)))
  pub housed : HouseBody (front count g.after)
  pub rule : VetoTree E (tree_of (front count g.after))
  pub pc : PC E (below n) (tree_of (front count g.after))

-- whatever is entered: to good input there is no other answer than 0
abbrev pub VetoesAll : Builder → Type 0
VetoesAll f = (n s : ℕ) (t o : List ℕ) → Buildable n s t o → VetoesRight (entered t) n (has s) o (f n s t o)

-- with the number of triples looked at that leaves nothing open: any two that keep both give the same to good input
abbrev pub OneVeto : Type 0
OneVeto = (f h : Builder) → VetoesAll f → VetoesAll h → CountsAll true f → CountsAll true h → (n s : ℕ) (t o : List ℕ) → Buildable n s t o → f n s t o ≡ h n s t o

-- "It never gives 10": to no input whatever
abbrev pub NeverTen : Builder → Type 0
NeverTen f = (n s : ℕ) (t o : List ℕ) → (f n s t o).told.number ≢ 10

-- "Its tree always passes the PC part of the check": where f answers 0 with m nodes, the check of their bytes against the same table, where papers quarrel
-- too, does not answer 11
abbrev pub Uncontradicted : Builder → Checker → Type 0
Uncontradicted f c = (n s m l : ℕ) (t o : List ℕ) → (f n s t o).told ≡ told 0 (value number_of_nodes m ∷ value looked_count l ∷ []) → (c n t (front m (f n s t o).after)).number ≢ 11

-- "Where a tree holding everything exists, it equals the plain build" b: the answer, and the room
abbrev pub AsBuilt : Builder → Builder → Type 0
AsBuilt f b = (n s : ℕ) (t o : List ℕ) → Buildable n s t o → CanBeHeld (entered t) (has s) → f n s t o ≡ b n s t o

-- "Refusals: as the plain build without 10": whatever else the plain build b answers, and leaves
abbrev pub AsBuiltButTen : Builder → Builder → Type 0
AsBuiltButTen f b = (n s : ℕ) (t o : List ℕ) → (b n s t o).told.number ≢ 10 → f n s t o ≡ b n s t o

pub record Veto (L : Operations) : Type 0 where
  pub vetoing : VetoesAll L.veto
  pub never_10 : NeverTen L.veto
  pub uncontradicted : Uncontradicted L.veto L.check
  -- the same by what the check does answer
  pub checked : OwnChecked L.veto L.check
  pub as_built : AsBuilt L.veto L.build
  pub but_10 : AsBuiltButTen L.veto L.build
