-- A list of records of three numbers, and what it says. Document 01, "Numbers handed back": "Entering takes a lent list of records of three numbers, the first
-- two being the close pair in either order. Repeats of a triplet are allowed; an empty list gives a table of zeros."
use Rattle.std.specs.Prelude.{Bool, Option, None, Some, ◌&&◌, ◌||◌, cond, false, not, List, [], ◌∷◌, suc, ℕ, eqb, ltb, get_or, length, replicate}
use Rattle.sets.specs.Species.{Species}
use Rattle.tables.specs.Bytes.{enter}
use Rattle.triples.specs.Index.{C}
use Rattle.trees.specs.Triplets.{Triplets, both, different, only}

-- the three numbers of a record, left right|outer
abbrev pub left : List ℕ → ℕ
left r = get_or r 0 0

abbrev pub right : List ℕ → ℕ
right r = get_or r 1 0

abbrev pub outer : List ℕ → ℕ
outer r = get_or r 2 0

-- "repeats a species or has one not below n": of three numbers, and of a record
unfoldable pub bad : ℕ → ℕ → ℕ → ℕ → Bool
bad n a b c = not (different a b c) || not (ltb a n && (ltb b n && ltb c n))

abbrev pub bad_record : ℕ → List ℕ → Bool
bad_record n r = bad n (left r) (right r) (outer r)

-- "first record": the place of the first bad one, counted from 0; the length where there is none
unfoldable pub first_bad : ℕ → List (List ℕ) → ℕ
first_bad n [] = 0
first_bad n (r ∷ rs) = cond (bad_record n r) 0 (suc (first_bad n rs))

-- that place, if there is one
abbrev pub bad_at : ℕ → List (List ℕ) → Option ℕ
bad_at n rs = cond (ltb (first_bad n rs) (length rs)) (Some (first_bad n rs)) None

-- the records entered one after the other
unfoldable pub fill : List (List ℕ) → List ℕ → List ℕ
fill [] t = t
fill (r ∷ rs) t = fill rs (enter t (left r) (right r) (outer r))

-- the triplets that the records say
unfoldable pub in_records : List (List ℕ) → Triplets
in_records [] a b c = false
in_records (r ∷ rs) a b c = both (only (left r) (right r) (outer r)) (in_records rs) a b c

-- the species that the records name: the set that occurs. Request T-03: "Listing and entering now also return the set that occurs".
abbrev pub in_record : List ℕ → Species
in_record r x = eqb (left r) x || (eqb (right r) x || eqb (outer r) x)

unfoldable pub occurs_in : List (List ℕ) → Species
occurs_in [] x = false
occurs_in (r ∷ rs) x = in_record r x || occurs_in rs x

-- a table of n species that says nothing
abbrev pub zeros : ℕ → List ℕ
zeros n = replicate (C n 3) 0
