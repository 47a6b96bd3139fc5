-- What is promised of the number of triples that a build looks at. Request T-09: "Each build now also returns the number of triples it looked at: for every set split, or found
-- joined, the combinations of three of its species, added up. It equals that sum over the sets visited in order, up to any stop. For s species it is at most
-- C(s+1,4), 677,040 at 64; fully nested trees reach it. Both builds promise this, once over s. [..] refusal 10 returns it, any other returns 0 for it."
use Rattle.std.specs.Prelude.{Bool, false, true, List, [], ◌∷◌, ◌++◌, ◌≢◌, ◌≡◌, ℕ, ◌≤◌, suc, length}
use Rattle.std.proofs.Math.Bool.{So}
use Rattle.sets.specs.Sets.{has, size}
use Rattle.sets.specs.Species.{Species}
use Rattle.trees.specs.Combinations.{C}
use Rattle.trees.specs.Trees.{Tree, under, well_formed}
use Rattle.trees.specs.Triplets.{Triplets, holds}
use Rattle.trees.specs.Visits.{Nested, triples, visited}
use Rattle.tables.specs.Bytes.{entered}
use Rattle.bodies.specs.Draws.{tree_of}
use Rattle.bodies.specs.Nodes.{room_for}
use Rattle.refusals.specs.Told.{Told, Value, looked_count, value}
use Rattle.answers.specs.Inputs.{Count}
use Rattle.promises.specs.Operations.{Builder, Lister, Operations}
use Rattle.promises.specs.Inputs.{Buildable}
use Rattle.promises.specs.Demand3.{Full, table_of}

-- r tells c as the number of triples looked at: behind all else
abbrev pub Looked : Told → ℕ → Type 0
Looked r c = (vs : List Value) × (r.values ≡ vs ++ (value looked_count c ∷ []))

-- ---- of a build f: v is false for the plain build, true for the veto build

-- "that sum over the sets visited in order, up to any stop": to good input, with 0 and, of the plain build, with 10
abbrev pub CountsAll : Bool → Builder → Type 0
CountsAll v f = (n s : ℕ) (t o : List ℕ) → Buildable n s t o → Looked (f n s t o).told (triples n (visited v (entered t) n (has s)))

-- that leaves nothing open: any two that keep it tell the same number to good input
abbrev pub OneCounting : Type 0
OneCounting = (v : Bool) (f h : Builder) → CountsAll v f → CountsAll v h → (n s : ℕ) (t o : List ℕ) → Buildable n s t o → (c d : ℕ) → Looked (f n s t o).told c → Looked (h n s t o).told d → c ≡ d

-- "any other returns 0 for it": to whatever is handed in
abbrev pub OthersNone : Builder → Type 0
OthersNone f = (n s : ℕ) (t o : List ℕ) → (f n s t o).told.number ≢ 0 → (f n s t o).told.number ≢ 10 → Looked (f n s t o).told 0

-- "For s species it is at most C(s+1,4), 677,040 at 64": to whatever is handed in
abbrev pub AtMost : Builder → Type 0
AtMost f = (n s : ℕ) (t o : List ℕ) (c : ℕ) → Looked (f n s t o).told c → (c ≤ C (suc (size s)) 4) × (c ≤ 677040)

-- of the species S the entered triplets E are those of a fully nested tree with exactly these species
pub record SaysNested (E : Triplets) (S : Species) : Type 0 where
  pub tree : Tree
  pub formed : So (well_formed tree)
  pub nested : Nested tree
  pub species : (x : ℕ) → under tree x ≡ S x
  pub says : (a b c : ℕ) → So (S a) → So (S b) → So (S c) → E a b c ≡ holds tree a b c

-- "fully nested trees reach it"
abbrev pub NestedReach : Builder → Type 0
NestedReach f = (n s : ℕ) (t o : List ℕ) → Buildable n s t o → SaysNested (entered t) (has s) → Looked (f n s t o).told (C (suc (size s)) 4)

-- so does the table of such a tree, listed alone by l as in demand 3
abbrev pub TreesReach : Lister → Builder → Type 0
TreesReach l f = (n s : ℕ) (b t o : List ℕ) → Count n → Full n s b → Nested (tree_of b) → length t ≡ C n 3 → room_for (size s) ≤ length o → Looked (f n s (table_of l n b t) o).told (C (suc (size s)) 4)

pub record Counts (v : Bool) (f : Builder) : Type 0 where
  pub counting : CountsAll v f
  pub others : OthersNone f
  pub most : AtMost f
  pub reached : NestedReach f

-- ---- "Both builds promise this"

-- the plain build f looks at no more triples than the veto build h; where it does not answer 10 they give the same (`AsBuiltButTen`), and so look at as many
abbrev pub NoMore : Builder → Builder → Type 0
NoMore f h = (n s : ℕ) (t o : List ℕ) (c d : ℕ) → Looked (f n s t o).told c → Looked (h n s t o).told d → c ≤ d

pub record Counting (L : Operations) : Type 0 where
  pub building : Counts false L.build
  pub vetoing : Counts true L.veto
  pub trees : TreesReach L.list L.build
  pub trees_veto : TreesReach L.list L.veto
  pub no_more : NoMore L.build L.veto
