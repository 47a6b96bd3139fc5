-- Useless functions in place of the veto build, by what is wrong with them, and which promise of request T-06 each breaks. As in `Useless`, each kind is said on good
-- input alone.
use Rattle.std.proofs.Math.Bool.{So}
use Rattle.std.specs.Prelude.{List, [], ◌∷◌, ◌≡◌, ℕ}
use Rattle.trees.specs.Trees.{Tree}
use Rattle.trees.specs.Triplets.{resolves}
use Rattle.tables.specs.Bytes.{entered}
use Rattle.bodies.specs.Draws.{tree_of}
use Rattle.refusals.specs.Told.{looked_count, number_of_nodes, told, value}
use Rattle.answers.specs.Inputs.{Body}
use Rattle.promises.specs.Operations.{Builder, builds, checks, vetoes}
use Rattle.promises.specs.Inputs.{Buildable}
use Rattle.promises.specs.Demand2.{BuildsAll, front}
use Rattle.promises.specs.Useless.{Gives, cherry_at, starry}
use Rattle.promises.specs.Veto.{AsBuilt, NeverTen, Uncontradicted}

-- one that takes a side: somewhere its tree resolves three species of which two triplets are entered
pub record TakesSide (f : Builder) : Type 0 where
  pub n : ℕ
  pub s : ℕ
  pub t : List ℕ
  pub o : List ℕ
  pub good : Buildable n s t o
  pub count : ℕ
  pub looked : ℕ
  pub told_is : (f n s t o).told ≡ told 0 (value number_of_nodes count ∷ value looked_count looked ∷ [])
  pub body : Body n (front count (f n s t o).after)
  pub a : ℕ
  pub b : ℕ
  pub c : ℕ
  pub one : So (entered t a b c)
  pub other : So (entered t a c b)
  pub resolved : So (resolves (tree_of (front count (f n s t o).after)) a b c)

-- one of the kind: as ours, but where 01|2 and 02|1 are entered of three species it makes up the group of 0 and 1
abbrev pub siding : Builder
siding n s t o = cherry_at 3 vetoes n s t o

-- a plain build: it answers 10 where papers quarrel
abbrev pub PlainBreaks : Type 0
PlainBreaks = (f : Builder) → BuildsAll f → NeverTen f → ⊥

-- one that gives a fixed tree for each set, whatever is entered: it is not the plain build's where some tree holds all
abbrev pub FixedBreaksVeto : Type 0
FixedBreaksVeto = (f : Builder) (T : ℕ → Tree) → Gives T f → AsBuilt f builds → ⊥

-- so the star of all species, always, which nothing contradicts
abbrev pub StarryBreaksVeto : Type 0
StarryBreaksVeto = AsBuilt (starry vetoes) builds → ⊥

-- one that takes a side: the check of its tree answers 11
abbrev pub TakingSideBreaks : Type 0
TakingSideBreaks = (f : Builder) → TakesSide f → Uncontradicted f checks → ⊥

abbrev pub SidingBreaks : Type 0
SidingBreaks = Uncontradicted siding checks → ⊥
