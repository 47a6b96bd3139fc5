-- Sets of species in the mathematics: a set is the test of being in it. A 64-bit number enters as the test of its bits, `has` of `Sets`.
-- Document 01, "Species, sets, triples".
use Rattle.std.specs.Prelude.{ℕ, zero, suc, ◌<◌, ◌≤◌, Bool, true, false, not, ◌&&◌, ◌||◌, ◌≢◌, List, [], ◌∷◌, nat_lt}
use Rattle.std.proofs.Math.Bool.{So}

abbrev pub Species : Type 0
Species = ℕ → Bool

-- "numbered 0 to n-1"
abbrev pub below : ℕ → Species
below n i = nat_lt i n

-- in P or in Q
abbrev pub either : Species → Species → Species
either P Q x = P x || Q x

-- some number below n is in P
abbrev pub any : ℕ → Species → Bool
any zero P = false
any (suc n) P = P n || any n P

-- what is in P below n is in Q
abbrev pub inside : ℕ → Species → Species → Bool
inside n P Q = not (any n (λ x. P x && not (Q x)))

abbrev pub put : Bool → ℕ → List ℕ → List ℕ
put true i l = i ∷ l
put false i l = l

-- those of the n numbers from i on that are in P, in increasing order
abbrev pub from : ℕ → ℕ → Species → List ℕ
from i zero P = []
from i (suc n) P = put (P i) i (from (suc i) n P)

-- the species of S below n, in increasing order (shut, so that it does not unfold n times where n is a numeral)
unfoldable pub members : ℕ → Species → List ℕ
members n S = from 0 n S

-- each number of the list is at least i, and more than the one before it
abbrev pub Ascending : ℕ → List ℕ → Type 0
Ascending i [] = Unit {0}
Ascending i (x ∷ l) = (i ≤ x) × Ascending (suc x) l

-- What theorems assume or say of such sets: P lies inside Q; every species of S is below n; S has two species.
abbrev pub Inside : Species → Species → Type 0
Inside P Q = (x : ℕ) → So (P x) → So (Q x)

abbrev pub Below : ℕ → Species → Type 0
Below n S = (x : ℕ) → So (S x) → x < n

abbrev pub Two : Species → Type 0
Two S = (a : ℕ) × (b : ℕ) × So (S a) × So (S b) × (a ≢ b)
