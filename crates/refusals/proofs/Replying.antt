-- A reply to an answer is one to its equal, and one value more stands behind those of before. Assumes nothing.
use mathlib.Core.List.{List, [], ◌++◌, ◌∷◌}
use mathlib.Core.Path.{◌≡◌, ap, refl}
use Prim.Native.Nat.{ℕ}
use Rattle.refusals.specs.Told.{Value, unnamed}

-- the values without their names, and c behind them
pub unnamed_behind : (l : List Value) (v : Value) → unnamed (l ++ (v ∷ [])) ≡ unnamed l ++ (v.number ∷ [])
unnamed_behind [] v = refl
unnamed_behind (w ∷ l) v = ap (λ (k : List ℕ). w.number ∷ k) (unnamed_behind l v)
