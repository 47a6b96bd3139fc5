-- Good nodes where more species are allowed, and bodies of good length. Assumes nothing.
use mathlib.Core.Bool.{false, not}
use mathlib.Core.List.{List}
use mathlib.Core.Path.{◌≡◌}
use Prim.Native.Nat.{◌%◌, ◌<◌, ◌≤◌, ℕ}
use native.Mathlib.Nat.{div-add-mod}
use native.Mathlib.Omega.{arith}
use borrow.Author.Tests.{eqb-false, eqb-true, ltb-false, not-false}
use lib.Dec.{eqb}
use lib.ListN.{length}
use Rattle.sets.proofs.Bools.{or-none}
use Rattle.bodies.specs.Nodes.{Good, Nodes, bad_length, body_length, longest, most_nodes, nodes, width}

-- with more species allowed, good nodes stay good
pub good_more : (n m : ℕ) (v : Nodes) → n ≤ m → Good n v → Good m v
good_more n m v l g = record {
  root = g.root;
  later = g.later;
  inner = g.inner;
  two = g.two;
  outer = λ i h e. omega (arith, g.outer i h e);
  once = g.once;
}

-- no good length is longer than the longest
pub length_most : (l : ℕ) → bad_length l ≡ false → l ≤ longest
length_most l h = ltb-false longest l (or-none (not (eqb (l % width) 0)) _ (or-none (eqb l 0) _ h).1).1

-- a body of good length has 1 to the most nodes, and no byte behind them
pub length_good : (b : List ℕ) → bad_length (length b) ≡ false
    → (0 < (nodes b).count) × ((nodes b).count ≤ most_nodes) × (length b ≡ body_length (nodes b).count)
length_good b h =
    let l = length b in
    let p = or-none (eqb l 0) _ h in
    let z = eqb-false l 0 p.0 in
    let e = eqb-true (l % width) 0 (not-false _ (or-none (not (eqb (l % width) 0)) _ p.1).0) in
    let d = div-add-mod l width in
    (omega (arith, z), omega (arith, length_most l h), omega arith)
