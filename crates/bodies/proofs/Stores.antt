-- A run of stores, part by part: a node with its children, and trees side by side. Assumes nothing.
use mathlib.Core.List.{List, [], ◌++◌, ◌∷◌}
use mathlib.Core.Path.{◌∙◌, ◌≡◌, ap, refl, sym}
use Prim.Native.Nat.{◌*◌, ◌+◌, suc, ℕ}
use native.Mathlib.Omega.{arith}
use lib.ListN.{length, set}
use lib.Seq.{sets}
use Rattle.trees.specs.Trees.{Forest, Tree, cons, node}
use Rattle.bodies.proofs.Back.{bytes-length}
use Rattle.bodies.specs.Draws.{bytes, bytes_f, node_count}
use Rattle.bodies.specs.Nodes.{inner_bytes, width}

pub sets_append : (o : List ℕ) (i : ℕ) (a b : List ℕ) → sets o i (a ++ b) ≡ sets (sets o i a) (i + length a) b
sets_append o i [] b = let z : i + 0 ≡ i = omega arith in rw z refl
sets_append o i (x ∷ a) b =
    let z : suc i + length a ≡ i + suc (length a) = omega arith in
    sets_append (set o i x) (suc i) a b ∙ ap (λ (k : ℕ). sets (sets (set o i x) (suc i) a) k b) z

-- a node, then what hangs from it
pub node_stores : (o : List ℕ) (f : Forest) (p at : ℕ)
    → sets (sets o (width * at) (inner_bytes p)) (width * suc at) (bytes_f f at (suc at)) ≡ sets o (width * at) (bytes (node f) p at)
node_stores o f p at =
    let z : width * suc at ≡ width * at + length (inner_bytes p) = omega arith in
    rw z (sym (sets_append o (width * at) (inner_bytes p) (bytes_f f at (suc at))))

-- a tree, then those beside it
pub forest_stores : (o : List ℕ) (t : Tree) (f : Forest) (p at : ℕ)
    → sets (sets o (width * at) (bytes t p at)) (width * (at + node_count t)) (bytes_f f p (at + node_count t)) ≡ sets o (width * at) (bytes_f (cons t f) p at)
forest_stores o t f p at =
    let z : width * (at + node_count t) ≡ width * at + length (bytes t p at) = omega (arith, bytes-length t p at) in
    rw z (sym (sets_append o (width * at) (bytes t p at) (bytes_f f p (at + node_count t))))
