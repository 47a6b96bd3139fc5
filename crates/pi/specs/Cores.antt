-- What the search for an unforced triplet is told, and what it keeps: the core of two species, once it was found.
use Rattle.std.specs.Prelude.{Bool, not, List, ◌≢◌, ◌≡◌, ℕ, ◌+◌, ◌<◌, ◌≤◌, length}
use Rattle.std.proofs.Math.Bool.{So}
use Rattle.sets.specs.Sets.{has}
use Rattle.trees.specs.Check.{R, core, differs, unsure}
use Rattle.trees.specs.Trees.{Tree}
use Rattle.trees.specs.Triplets.{Proper, Triplets, on_triple}
use Rattle.groups.specs.Groups.{Candidate, cell, cells}
use Rattle.masks.specs.Masks.{Masks}

-- x is the core of a and c in s, where s has both: the chain of their parts comes to x and stays there
abbrev pub IsCore : Triplets → ℕ → ℕ → ℕ → ℕ → Type 0
IsCore E s a c x = So (has s a) → So (has s c) → (j : ℕ) × ((k : ℕ) → has x ≡ core E 64 (j + k) (has s) a c)

-- an entry that is not 0 is the core of its two species in their entry of meets
pub record Memo (E : Triplets) (meets cores : List ℕ) : Type 0 where
  pub size : length cores ≡ cells
  pub known : (a c : ℕ) → a < 64 → c < 64 → cell cores a c ≢ 0 → IsCore E (cell meets a c) a c (cell cores a c)

-- a good tree that nothing contradicts, with the masks of the entered triplets on the triples that it resolves
pub record Uncontradicted (E : Triplets) (n : ℕ) (T : Tree) (whole : ℕ) (meets masks : List ℕ) : Type 0 where
  pub few : n ≤ 64
  pub proper : Proper E
  pub tree : Candidate n T whole meets
  pub masked : Masks (R E T) masks
  pub none : (a b c : ℕ) → So (differs E T a b c) → ⊥

-- cores are still what was found of E once r was looked for, and r is the core of a and c in their entry of meets
abbrev pub Recalls : List ℕ → List ℕ → List ℕ → List ℕ → ℕ → ℕ → ℕ → Type 0
Recalls masks meets cores cores' a c r = (E : Triplets) → Proper E → Masks E masks → Memo E meets cores → Memo E meets cores' × IsCore E (cell meets a c) a c r

-- and r tells whether the triplet of the tree on a, b and c is sure, where it has one
abbrev pub Decides : ℕ → List ℕ → List ℕ → List ℕ → List ℕ → ℕ → ℕ → ℕ → Bool → Type 0
Decides whole meets masks cores cores' a b c r = (E : Triplets) (n : ℕ) (T : Tree) → Uncontradicted E n T whole meets masks
    → Memo (R E T) meets cores → Memo (R E T) meets cores' × (not r ≡ on_triple (unsure E n T) a b c)
