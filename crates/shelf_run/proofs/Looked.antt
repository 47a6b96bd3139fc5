-- So many bytes are enough to tell a collection: what is one is looked at whole, and of what is longer than any the byte that is too much is seen. Assumes nothing.
use mathlib.Core.List.{List}
use mathlib.Core.Logic.{◌↔◌}
use mathlib.Core.Path.{subst, sym}
use Prim.Native.Nat.{ℕ, ◌≤◌}
use native.Mathlib.Omega.{arith}
use lib.ListN.{length, length-take, take}
use lib.Seq.{take_all}
use Rattle.collections.proofs.Whole.{whole_most}
use Rattle.collections.specs.Collection.{Collection}
use Rattle.shelf_run.specs.Runs.{looked}

pub looked_enough : (b : List ℕ) → Collection (take looked b) ↔ Collection b
looked_enough b = (
  (λ w. subst Collection (take_all looked b (short w)) w),
  λ w. subst Collection (sym (take_all looked b (omega (arith, whole_most b w)))) w,
)
  where
    short : Collection (take looked b) → length b ≤ looked
    short w = omega (arith, length-take looked b, whole_most (take looked b) w)
