-- The check of a tree that the builder gave for the same table: nothing contradicts it, so that it passes, or some triplet is not forced. It is the veto build's tree.
-- Assumes nothing.
use mathlib.Core.Logic.{◌⊎◌}
use mathlib.Core.Path.{◌∙◌, ◌≡◌, ap, subst}
use native.Mathlib.Omega.{arith}
use Rattle.refusals.specs.Told.{Told}
use Rattle.promises.specs.Demand2.{front}
use Rattle.promises.specs.Operations.{Given, checks, koodhaxil}
use Rattle.promises.specs.Together.{BuiltChecked}
use Rattle.promises.proofs.Vetoed.{veto_checked, vetoes_keep}

pub built_checked : BuiltChecked koodhaxil
built_checked n s m l t o e =
    let q = vetoes_keep.but_10 n s t o (λ z. omega (arith, z, ap (λ (r : Told). r.number) e)) in
    subst (λ (h : Given). ((checks n t (front m h.after)).number ≡ 0) ⊎ ((checks n t (front m h.after)).number ≡ 12)) q
    (veto_checked n s m l t o (ap (λ (h : Given). h.told) q ∙ e))
