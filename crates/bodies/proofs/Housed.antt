-- A tree put in house order has as many nodes. Assumes nothing.
use mathlib.Core.Path.{◌≡◌, ap, refl}
use Prim.Native.Nat.{◌+◌, suc}
use native.Mathlib.Omega.{arith}
use Rattle.trees.proofs.House.{by_low}
use Rattle.trees.specs.Trees.{Forest, Tree, cons, hang, house, house_f, leaf, nil, node}
use Rattle.bodies.specs.Draws.{node_count, node_count_f}

hang_count : (t : Tree) (f : Forest) → node_count_f (hang t f) ≡ node_count t + node_count_f f
hang_count t nil = refl
hang_count t (cons u f) = by_low t u f (λ z. node_count_f z ≡ node_count t + (node_count u + node_count_f f)) (λ l. refl) (λ l. omega (arith, hang_count t f))

mutual
  pub house_count : (t : Tree) → node_count (house t) ≡ node_count t
  house_count (leaf x) = refl
  house_count (node f) = ap suc (house_f_count f)

  pub house_f_count : (f : Forest) → node_count_f (house_f f) ≡ node_count_f f
  house_f_count nil = refl
  house_f_count (cons t f) = omega (arith, hang_count (house t) (house_f f), house_count t, house_f_count f)
