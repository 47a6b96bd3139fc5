-- The loop over the species of a set that is joined: each becomes a leaf under one node. Its invariant, and each step over plain numbers and lists.
-- Assumes nothing.
use mathlib.Core.Bool.{true}
use mathlib.Core.List.{List, [], ◌∷◌}
use mathlib.Core.Path.{◌∙◌, ◌≡◌, ap, refl, sym}
use Prim.Native.Nat.{◌*◌, ◌+◌, ◌<◌, suc, ℕ}
use native.Mathlib.Nat.{add-zero}
use native.Mathlib.Numerals.{add-one}
use native.Mathlib.Omega.{arith}
use lib.ListN.{length}
use lib.Seq.{sets}
use Rattle.sets.proofs.Sizes.{size_empty}
use Rattle.sets.specs.Sets.{has, size}
use Rattle.sets.specs.Walks.{Turn, in_order}
use Rattle.trees.specs.Build.{ending, leaf_each, tree, trees}
use Rattle.trees.specs.Trees.{leaf}
use Rattle.bodies.specs.Nodes.{inner_bytes, leaf_bytes, longest, width}
use Rattle.growing.specs.Grows.{Stands}
use Rattle.growing.proofs.Finish.{End, done, finish, kept, leaf_wrote, node_done, turn}

-- the leaves l, written from node m on, under the node `at`
abbrev leaves : ℕ → List ℕ → ℕ → List ℕ → End
leaves at l m o = finish (trees (leaf_each l)) at m o

-- the species of `left` are still to be written, and the next node is m: they equal the whole
pub record Spreading (s at : ℕ) (o₀ : List ℕ) (left m : ℕ) (o : List ℕ) : Type 0 where
  pub long : length o ≡ longest
  pub room : m + size left ≡ at + 1 + size s
  pub whole : leaves at (in_order left) m o ≡ leaves at (in_order s) (suc at) o₀

module _ (s at : ℕ) (o₀ : List ℕ) where
  pub spread_start : length o₀ ≡ longest → Spreading s at o₀ s (at + 1) o₀
  spread_start l = record {
    long = l;
    room = refl;
    whole = ap (λ (m : ℕ). leaves at (in_order s) m o₀) (add-one at);
  }

  -- the lowest species is written
  pub spread_step : (left x left' m : ℕ) (o o' : List ℕ) → in_order left ≡ x ∷ in_order left' → Turn left x left' → o' ≡ sets o (width * m) (leaf_bytes at x)
      → Spreading s at o₀ left m o → Spreading s at o₀ left' (m + 1) o'
  spread_step left x left' m o o' walk u e w = record {
    long = kept o o' (leaf_bytes at x) (width * m) longest e w.long;
    room = omega (arith, w.room, u.rest.fewer u.some);
    whole = sym (turn (trees (leaf_each (in_order left'))) 1 at m (m + 1) o o' (tree (leaf x)) (leaf_wrote (tree (leaf x)) 1 at m x o o' refl refl e))
        ∙ sym (ap (λ (k : List ℕ). leaves at k m o) walk) ∙ w.whole;
  }

  -- all are written, behind their node
  pub spread_end : (left p m : ℕ) (o o' : List ℕ) → left ≡ 0 → in_order left ≡ [] → 1 < size s → Spreading s at o₀ left m o' → o₀ ≡ sets o (width * at) (inner_bytes p)
      → Stands (ending true 64 (has s)) (size s) p at o o' m
  spread_end left p m o o' z n h w e =
      let d : done m o' ≡ leaves at [] m o' = ap (λ (j : ℕ). done j o') (sym (add-zero m)) in
      node_done (trees (leaf_each (in_order s))) 0 (ending true 64 (has s)) at o₀ (size s) p m o o' e
      (d ∙ sym (ap (λ (l : List ℕ). leaves at l m o') n) ∙ w.whole)
      (omega (arith, w.room, ap size z, size_empty))
