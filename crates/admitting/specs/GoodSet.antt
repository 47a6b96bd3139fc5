-- The set that a build starts from, what the table may hold beside it, and the order of the looks at all that is handed in. Request T-03: "the build takes such a set".
use Rattle.std.specs.Prelude.{Bool, ◌||◌, List, [], ◌∷◌, ℕ, ◌<◌, ◌^◌, eqb, leb, ltb, length}
use Rattle.sets.specs.Sets.{Has, size}
use Rattle.triples.specs.Find.{first_triple}
use Rattle.triples.specs.Index.{C}
use Rattle.outside.specs.Reaches.{reaches}
use Rattle.bodies.specs.Nodes.{room_for}
use Rattle.answers.specs.Looks.{look_bytes, look_count, look_room, look_table, refuse_if}
use Rattle.answers.specs.Looks.{Look}
use Rattle.refusals.specs.declared.Refusal.TheVariants.{BadSet, Outside}

-- a set that is not empty, of species below n
pub record GoodSet (n s : ℕ) : Type 0 where
  pub some : 0 < size s
  pub below : (x : ℕ) → Has s x → x < n

-- "an empty set or one with a bit at n or above": that bit alone is 2^n or more, all bits below it are less together
abbrev pub bad_set : ℕ → ℕ → Bool
bad_set n s = eqb s 0 || leb (2 ^ n) s

-- 15
abbrev pub look_set : ℕ → ℕ → Look
look_set n s = refuse_if (bad_set n s) BadSet

-- the first index of such a triple; C(n,3) where there is none
unfoldable pub first_outside : ℕ → ℕ → List ℕ → ℕ
first_outside n s t = first_triple n (reaches t s)

-- "16 with the first triple, for a byte that isn't 0 on a triple reaching outside the set"
abbrev pub look_outside : ℕ → ℕ → List ℕ → Look
look_outside n s t = refuse_if (ltb (first_outside n s t) (C n 3)) (Outside (first_outside n s t))

-- 2, 7, 8; "in the build after 8 and before 9: 15 [..]; 16"; then 9, "Room becomes 4s - 2 bytes for s species in the set": for the set s, the table t and a room of l bytes
abbrev pub input_looks : ℕ → ℕ → List ℕ → ℕ → List Look
input_looks n s t l = look_count n ∷ look_table n (length t) ∷ look_bytes t ∷ look_set n s ∷ look_outside n s t ∷ look_room (room_for (size s)) l ∷ []
