-- The check in the words of source 004. Request T-08: "PI: R induces every triplet of the tree. PC: R induces neither of the others. Prove that our check passes a good
-- tree exactly when both hold."
use Rattle.std.specs.Prelude.{List, ◌↔◌, ◌≡◌, ℕ}
use Rattle.sets.specs.Species.{below}
use Rattle.trees.specs.Induced.{PaperPC, PaperPI}
use Rattle.trees.specs.Trees.{Tree}
use Rattle.tables.specs.Bytes.{entered}
use Rattle.bodies.specs.Draws.{tree_of}
use Rattle.refusals.specs.Told.{Told}
use Rattle.promises.specs.Operations.{Checker, Operations}
use Rattle.promises.specs.Inputs.{Checkable}
use Rattle.promises.specs.Demand2.{ChecksAll}

-- r is what is told of the tree T and the table t, of n species
pub record RightByPaper (n : ℕ) (t : List ℕ) (T : Tree) (r : Told) : Type 0 where
  -- "passes a good tree exactly when both hold"
  pub passes : (r.number ≡ 0) ↔ (PaperPC (entered t) (below n) T × PaperPI (entered t) (below n) T)
  -- and which fails where it does not: 11 is PC, 12 is PI alone
  pub pc_fails : (r.number ≡ 11) ↔ (PaperPC (entered t) (below n) T → ⊥)
  pub pi_fails : (r.number ≡ 12) ↔ (PaperPC (entered t) (below n) T × (PaperPI (entered t) (below n) T → ⊥))

abbrev pub ByPaper : Checker → Type 0
ByPaper f = (n : ℕ) (t b : List ℕ) → Checkable n t b → RightByPaper n t (tree_of b) (f n t b)

-- whatever check keeps demand 2 is so
abbrev pub AnyByPaper : Type 0
AnyByPaper = (f : Checker) → ChecksAll f → ByPaper f

abbrev pub CheckedByPaper : Operations → Type 0
CheckedByPaper L = ByPaper L.check
