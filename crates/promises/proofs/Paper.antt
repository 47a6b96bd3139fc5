-- The check passes a good tree exactly when PC and PI hold as the paper says them: any check that keeps demand 2, and so ours. Assumes nothing.
use mathlib.Core.List.{List}
use mathlib.Core.Logic.{◌↔◌, ⊎_elim}
use mathlib.Core.Path.{◌≡◌}
use Prim.Native.Nat.{ℕ}
use native.Mathlib.Omega.{arith}
use Rattle.sets.proofs.Bools.{or_l}
use Rattle.sets.proofs.Members.{all_below}
use Rattle.sets.specs.Species.{Inside, below}
use Rattle.trees.proofs.Paper.{passes_paper, pc_paper}
use Rattle.trees.proofs.Theorems.{pc_exactly}
use Rattle.trees.specs.Check.{PC, differs}
use Rattle.trees.specs.Induced.{PaperPC, PaperPI}
use Rattle.trees.specs.Trees.{under}
use Rattle.tables.proofs.Bytes.{entered_proper}
use Rattle.tables.specs.Bytes.{entered}
use Rattle.bodies.specs.Draws.{tree_of}
use Rattle.refusals.specs.Told.{Told}
use Rattle.promises.specs.Demand2.{ChecksRight, Contradicts}
use Rattle.promises.specs.Inputs.{Checkable}
use Rattle.promises.specs.Operations.{koodhaxil}
use Rattle.promises.specs.Paper.{AnyByPaper, CheckedByPaper, RightByPaper}
use Rattle.promises.proofs.Checked.{bd, formed, inside, none_contradicts}
use Rattle.promises.proofs.Promises.{demand2}

module _ (n : ℕ) (t b : List ℕ) (g : Checkable n t b) where
  sub : Inside (under (tree_of b)) (below n)
  sub = inside n t (tree_of b) (formed n t b g) (bd n t b g)

  uncontradicted : ((x y z : ℕ) → Contradicts (entered t) (tree_of b) x y z → ⊥) ↔ PC (entered t) (below n) (tree_of b)
  uncontradicted = (
    (λ h. (pc_exactly (entered t) (entered_proper t) n (below n) (all_below n) (tree_of b) (formed n t b g) sub).1 (λ x y z d. h x y z (or_l (differs (entered t) (tree_of b) x y z) _ d))),
    none_contradicts n t (tree_of b) (formed n t b g) (bd n t b g),
  )

  right_by_paper : (r : Told) → ChecksRight n t (below n) (tree_of b) r → RightByPaper n t (tree_of b) r
  right_by_paper r k =
      let pc = pc_paper (entered t) (entered_proper t) n (below n) (all_below n) (tree_of b) (formed n t b g) sub in
      let both = passes_paper (entered t) (entered_proper t) n (below n) (all_below n) (tree_of b) (formed n t b g) sub in
      let ok : (r.number ≡ 0) ↔ (PaperPC (entered t) (below n) (tree_of b) × PaperPI (entered t) (below n) (tree_of b))
      = ((λ e. let h = k.passes.0 e in both.0 (uncontradicted.0 h.0, h.1)), λ h. let q = both.1 h in k.passes.1 (uncontradicted.1 q.0, q.1)) in
      record {
        passes = ok;
        pc_fails = ((λ e h. k.fails.0 e (pc.1 h)), λ h. k.fails.1 (λ q. h (pc.0 q)));
        pi_fails = (
          (λ e. let q = pc.0 (uncontradicted.0 (k.unforced e).2) in (q, λ h. omega (arith, e, ok.1 (q, h)))),
          λ h. ⊎_elim (λ e. absurd (h.1 (ok.0 e).1)) (λ d. ⊎_elim (λ e. absurd (k.fails.0 e (pc.1 h.0))) (λ e. e) d) k.one_of,
        );
      }

-- Any check that keeps demand 2.
pub any_by_paper : AnyByPaper
any_by_paper f all n t b g = right_by_paper n t b g (f n t b) (all n t b g)

-- Our check passes a good tree exactly when both hold, and says which fails.
pub checked_by_paper : CheckedByPaper koodhaxil
checked_by_paper = any_by_paper koodhaxil.check demand2.checking
