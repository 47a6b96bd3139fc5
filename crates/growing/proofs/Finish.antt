-- What is still to be written of a node's children, and that building one of them leaves it the same. Assumes nothing.
use mathlib.Core.Bool.{false}
use mathlib.Core.List.{List}
use mathlib.Core.Path.{◌∙◌, ◌≡◌, ap, ap₂, refl, sym}
use Prim.Native.Nat.{◌*◌, ◌+◌, ◌≤◌, suc, ℕ}
use native.Mathlib.Omega.{arith}
use lib.ListN.{length}
use lib.Seq.{length-sets, sets}
use Rattle.sets.specs.Species.{Species}
use Rattle.trees.specs.Build.{Outcome, Outcomes, choose, next, stop, stops, tree, trees}
use Rattle.trees.specs.Trees.{leaf, node}
use Rattle.bodies.proofs.Stores.{forest_stores, node_stores}
use Rattle.bodies.specs.Draws.{bytes_f, node_count_f}
use Rattle.bodies.specs.Nodes.{inner_bytes, leaf_bytes, width}
use Rattle.growing.specs.Grows.{Stands}

-- how it ends: the next node with what the room holds, or a set that stops
pub data End : Type 0 where
  done : ℕ → List ℕ → End
  halt : Species → End

-- the trees r written into o from node `at` on, under p
abbrev pub finish : Outcomes → ℕ → ℕ → List ℕ → End
finish (trees f) p at o = done (at + node_count_f f) (sets o (width * at) (bytes_f f p at))
finish (stops U) p at o = halt U

-- one more tree is written
pub turn : (r : Outcomes) (k p at m : ℕ) (o o' : List ℕ) (B : Outcome) → Stands B k p at o o' m → finish (next B r) p at o ≡ finish r p m o'
turn (trees f) k p at m o o' B w =
    let T = w.drawn in
    ap (λ (b : Outcome). finish (next b (trees f)) p at o) w.is
    ∙ ap₂ done (omega (arith, w.next))
    (sym (forest_stores o T f p at) ∙ ap₂ (λ (l : List ℕ) (n : ℕ). sets l (width * n) (bytes_f f p n)) (sym w.body) (sym w.next))
turn (stops U) k p at m o o' B w = ap (λ (b : Outcome). finish (next b (stops U)) p at o) w.is

-- one tree stops
pub turn_stop : (r : Outcomes) (p at : ℕ) (o : List ℕ) (B : Outcome) (U : Species) → B ≡ stop U → finish (next B r) p at o ≡ halt U
turn_stop r p at o B U e = ap (λ (b : Outcome). finish (next b r) p at o) e

module _ (r : Outcomes) (x : ℕ) (w : Outcome) (at : ℕ) (o₀ : List ℕ) where
  -- all children stand behind their node
  pub node_done : (k p m : ℕ) (o o' : List ℕ) → o₀ ≡ sets o (width * at) (inner_bytes p) → done m o' ≡ finish r at (suc at) o₀ → m + 1 ≤ at + 2 * k
      → Stands (choose false false x w r) k p at o o' m
  node_done k p m o o' e h few = go r h
    where
      go : (r : Outcomes) → done m o' ≡ finish r at (suc at) o₀ → Stands (choose false false x w r) k p at o o' m
      go (trees f) h =
          let a : m ≡ suc at + node_count_f f = cc in
          let b : o' ≡ sets o₀ (width * suc at) (bytes_f f at (suc at)) = cc in
          record {
            drawn = node f;
            is = refl;
            next = omega arith;
            body = b ∙ ap (λ (l : List ℕ). sets l (width * suc at) (bytes_f f at (suc at))) e ∙ node_stores o f p at;
            few = few;
          }
      go (stops U) h = let z : ◌≡◌ {A = ℕ} 0 1 = cc in absurd (omega arith)

  pub node_stop : (U : Species) → halt U ≡ finish r at (suc at) o₀ → choose false false x w r ≡ stop U
  node_stop U h = go r h
    where
      go : (r : Outcomes) → halt U ≡ finish r at (suc at) o₀ → choose false false x w r ≡ stop U
      go (trees f) h = let z : ◌≡◌ {A = ℕ} 0 1 = cc in absurd (omega arith)
      go (stops W) h = let q : U ≡ W = cc in ap stop (sym q)

pub leaf_wrote : (R : Outcome) (k p at x : ℕ) (o o' : List ℕ) → R ≡ tree (leaf x) → k ≡ 1 → o' ≡ sets o (width * at) (leaf_bytes p x) → Stands R k p at o o' (at + 1)
leaf_wrote R k p at x o o' e one h = record { drawn = leaf x; is = e; next = refl; body = h; few = omega arith }

pub kept : (o o' vs : List ℕ) (i n : ℕ) → o' ≡ sets o i vs → length o ≡ n → length o' ≡ n
kept o o' vs i n e h = ap length e ∙ length-sets o i vs ∙ h
