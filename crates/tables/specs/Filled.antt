-- What is said of triples, the byte of a triple by what is said of it, and the table of n species that says it. Document 01, "In a byte, 1 stands for ab|c,
-- 2 for ac|b, 4 for bc|a, added together"; request T-05: "Listing adds 8 to a table byte where some tree holds all three as a fan"; "On 0, listing and
-- entering fill the whole table".
use Rattle.std.specs.Prelude.{Bool, cond, false, List, [], ◌∷◌, ℕ, zero, suc, ◌+◌}
use Rattle.trees.specs.Trees.{Tree}
use Rattle.trees.specs.Triplets.{Triplets, both, fan, holds}
use Rattle.tables.specs.Bytes.{sign_ab, sign_ac, sign_bc, sign_fan}
use Rattle.triples.specs.Index.{C, low_at, mid_at, high_at}

-- triplets, and fans of three species
pub record Said : Type 0 where
  pub triplets : Triplets
  pub fans : Triplets

-- triplets and no fan
abbrev pub plain : Triplets → Said
plain E = record { triplets = E; fans = λ a b c. false }

-- what a tree says
abbrev pub said_by : Tree → Said
said_by T = record { triplets = holds T; fans = fan T }

-- what two say together
abbrev pub both_said : Said → Said → Said
both_said S Z = record { triplets = both S.triplets Z.triplets; fans = both S.fans Z.fans }

-- the byte of a triple a < b < c of which ab|c, ac|b, bc|a and the fan are said or not
abbrev pub byte_of : Bool → Bool → Bool → Bool → ℕ
byte_of x y z f = cond x sign_ab 0 + (cond y sign_ac 0 + (cond z sign_bc 0 + cond f sign_fan 0))

-- the byte that S gives to it
abbrev pub byte_for : Said → ℕ → ℕ → ℕ → ℕ
byte_for S a b c = byte_of (S.triplets a b c) (S.triplets a c b) (S.triplets b c a) (S.fans a b c)

-- the byte that a tree gives to it
abbrev pub tree_byte : Tree → ℕ → ℕ → ℕ → ℕ
tree_byte T = byte_for (said_by T)

-- the bytes of the k indices from i on
unfoldable pub bytes_from : ℕ → Said → ℕ → ℕ → List ℕ
bytes_from n S zero i = []
bytes_from n S (suc k) i = byte_for S (low_at n i) (mid_at n i) (high_at n i) ∷ bytes_from n S k (suc i)

unfoldable pub table_for : ℕ → Said → List ℕ
table_for n S = bytes_from n S (C n 3) 0
