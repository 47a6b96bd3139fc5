-- The room once a body was written to its front. Assumes nothing.
use mathlib.Core.List.{List, ◌++◌}
use mathlib.Core.Path.{◌∙◌, ◌≡◌, ap, refl, sym}
use Prim.Native.Nat.{◌≤◌, ℕ}
use native.Mathlib.Nat.{min-eq_left, zero-add}
use native.Mathlib.Omega.{arith}
use lib.ListN.{drop, length, length-take, take}
use lib.Seq.{drop_at, sets-eq, take_at}
use Rattle.bodies.specs.Draws.{written}

-- the body stands at the front, and what is behind it is as it was
pub written-cut : (o b : List ℕ) → length b ≤ length o → written o b ≡ b ++ drop (length b) o
written-cut o b h = sets-eq b o 0 (omega arith) ∙ ap (λ (k : ℕ). b ++ drop k o) (zero-add (length b))

pub written_body : (o b : List ℕ) → length b ≤ length o → take (length b) (written o b) ≡ b
written_body o b h = ap (take (length b)) (written-cut o b h) ∙ take_at b (drop (length b) o) (length b) refl

pub written_behind : (o b : List ℕ) → length b ≤ length o → drop (length b) (written o b) ≡ drop (length b) o
written_behind o b h = ap (drop (length b)) (written-cut o b h) ∙ drop_at b (drop (length b) o) (length b) refl

-- the first k bytes of b, and what was behind them in o
pub copied : (o b : List ℕ) (k : ℕ) → k ≤ length b → k ≤ length o → take k b ++ drop k o ≡ written o (take k b)
copied o b k hb ho =
    let e : length (take k b) ≡ k = length-take k b ∙ min-eq_left hb in
    ap (λ (j : ℕ). take k b ++ drop j o) (sym e) ∙ sym (written-cut o (take k b) (omega (arith, e)))
