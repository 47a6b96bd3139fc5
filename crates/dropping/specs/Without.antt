-- Nodes without one of them: its children go to its parent, and the nodes behind it move up by one number.
use Rattle.std.specs.Prelude.{cond, ◌≡◌, ℕ, suc, ◌-◌, ◌<◌, eqb, ltb}
use Rattle.bodies.specs.Nodes.{Nodes, none}

-- the number that node i had before node k went, and the number that node j, not k, gets
abbrev pub old_number : ℕ → ℕ → ℕ
old_number k i = cond (ltb i k) i (suc i)

abbrev pub new_number : ℕ → ℕ → ℕ
new_number k j = cond (ltb j k) j (j - 1)

-- the parent that a node gets in place of p, where `above` is k's parent
abbrev pub new_parent : ℕ → ℕ → ℕ → ℕ
new_parent k above p = cond (eqb p k) above (new_number k p)

-- v' are the nodes v without node k
pub record Without (v : Nodes) (k : ℕ) (v' : Nodes) : Type 0 where
  pub count : v.count ≡ suc v'.count
  pub root : v'.parent 0 ≡ none
  pub parent : (i : ℕ) → 0 < i → i < v'.count → v'.parent i ≡ new_parent k (v.parent k) (v.parent (old_number k i))
  pub species : (i : ℕ) → i < v'.count → v'.species i ≡ v.species (old_number k i)
