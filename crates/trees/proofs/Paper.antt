-- A candidate passes PC of document 01 exactly when it passes PC as the paper says it; and then the same is so of PI. Where no tree holds R the two PI differ
-- (`Words`). Assumes nothing.
use mathlib.Core.Bool.{So}
use mathlib.Core.Logic.{◌↔◌}
use Prim.Native.Nat.{ℕ}
use Rattle.sets.proofs.Bools.{and_r, or_case}
use Rattle.sets.specs.Species.{Below, Inside, Species}
use Rattle.trees.proofs.Agreement.{Agrees, R-proper, agrees_pc}
use Rattle.trees.proofs.Formed.{formed_e}
use Rattle.trees.proofs.Induced.{from_pi, itself, to_pc, to_pi}
use Rattle.trees.specs.Check.{PC, PI}
use Rattle.trees.specs.Induced.{PaperPC, PaperPI}
use Rattle.trees.specs.Trees.{Tree, under, well_formed}
use Rattle.trees.specs.Triplets.{Proper, Triplets, holds}

module _ (E : Triplets) (pr : Proper E) (T : Tree) (S : Species) (N : ℕ) (bd : Below N S) (sub : Inside (under T) S) where
  none_other : PaperPC E S T → Agrees E T
  none_other pc a b c h = or_case (holds T a b c) _ (and_r (E a b c) _ h) (λ q. q) (λ q. absurd (or_case (holds T a c b) (holds T b c a) q
      (λ r. (pc a c b r).0 (itself E pr T S N bd sub a b c h))
      (λ r. (pc b c a r).0 (itself E pr T S N bd sub b a c ((R-proper E pr T).swap a b c h)))))

-- ---- the theorems, each to be read alone

module _ (E : Triplets) (pr : Proper E) (N : ℕ) (S : Species) (bd : Below N S) (T : Tree) (f : So (well_formed T)) (sub : Inside (under T) S) where
  -- PC is the paper's.
  pub pc_paper : PC E S T ↔ PaperPC E S T
  pc_paper = (to_pc E pr T S, λ pc. agrees_pc E pr T (formed_e T f) N S bd sub (none_other E pr T S N bd sub pc))

  -- For a tree that passes PC, PI is the paper's.
  pub pi_paper : PC E S T → PI E S T ↔ PaperPI E S T
  pi_paper pc = (to_pi E pr T S pc, from_pi E pr T S)

  -- Both hold exactly when both hold in the paper's words.
  pub passes_paper : (PC E S T × PI E S T) ↔ (PaperPC E S T × PaperPI E S T)
  passes_paper = ((λ h. (pc_paper.0 h.0, (pi_paper h.0).0 h.1)), λ h. let pc = pc_paper.1 h.0 in (pc, (pi_paper pc).1 h.1))
