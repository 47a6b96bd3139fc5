-- Which line a call has, by its byte, and how long it is at most. Assumes nothing.
use mathlib.Core.Bool.{Bool, cond, false, true}
use mathlib.Core.List.{List}
use Prim.Native.Nat.{ℕ, ◌+◌, ◌*◌, ◌/◌, ◌≤◌}
use native.Mathlib.Omega.{arith}
use lib.Dec.{eqb}
use lib.ListN.{length}
use Rattle.table_lines.proofs.Lengths.{build_few, enter_few, list_few, read_few, veto_few}
use Rattle.tree_lines.proofs.Lengths.{check_few, loosen_few, order_few, parse_few, render_few}
use Rattle.items.proofs.Items.{items_count}
use Rattle.items.specs.Items.{records_of, set_at, sets_of}
use Rattle.choosing.specs.Chosen.{call_line}

cond_few : (b : Bool) (x y : List ℕ) {m : ℕ} → length x ≤ m → length y ≤ m → length (cond b x y) ≤ m
cond_few true x y h k = h
cond_few false x y h k = k

-- 21 bytes for each byte of the second field and the third, and for each set of the fourth, and 150 more
pub call_few : (k n m : ℕ) (x y z w : List ℕ) → length (call_line k n m x y z w) ≤ 21 * (length y + length z + length w / 8) + 150
call_few k n m x y z w =
    cond_few (eqb k 114) _ _ (omega (arith, read_few x))
    (cond_few (eqb k 108) _ _ (omega (arith, list_few x y))
    (cond_few (eqb k 101) _ _ (omega (arith, enter_few n (records_of x) y))
    (cond_few (eqb k 111) _ _ (omega (arith, order_few n x y))
    (cond_few (eqb k 98) _ _ (omega (arith, build_few n m x y))
    (cond_few (eqb k 118) _ _ (omega (arith, veto_few n m x y))
    (cond_few (eqb k 110) _ _ (omega (arith, parse_few n x y))
    (cond_few (eqb k 119) _ _ (omega (arith, render_few n x y))
    (cond_few (eqb k 120) _ _ (omega (arith, loosen_few n x y z (sets_of w), items_count (set_at w) (length w / 8))) (omega (arith, check_few n x y))))))))))
