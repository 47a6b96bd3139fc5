-- "n is one more than the highest species number."
use Rattle.std.specs.Prelude.{cond, List, [], ◌∷◌, ℕ, zero, suc, ◌+◌, max, eqb}
use Rattle.bodies.specs.Nodes.{Nodes, nodes, none}

-- one more than the species of a node; 0 for a node with children
abbrev pub one_more' : ℕ → ℕ
one_more' s = cond (eqb s none) 0 (s + 1)

-- of the first k nodes; 0 where there is none
unfoldable pub top_among : Nodes → ℕ → ℕ
top_among v zero = 0
top_among v (suc k) = max (top_among v k) (one_more' (v.species k))

-- of a body, and of some bodies
abbrev pub top_of : List ℕ → ℕ
top_of b = top_among (nodes b) (nodes b).count

unfoldable pub top_of_all : List (List ℕ) → ℕ
top_of_all [] = 0
top_of_all (b ∷ bs) = max (top_of b) (top_of_all bs)
