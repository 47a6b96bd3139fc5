-- A refusal's number is its place in the list of numbers; no number is 0, no refusal tells more than two values, and each is found again from what it tells. The one table over all
-- refusals: the rest goes by the place. Assumes nothing.
use mathlib.Core.Bool.{cond, false, true}
use mathlib.Core.List.{List, [], ◌∷◌}
use mathlib.Core.Logic.{◌≢◌}
use mathlib.Core.Path.{◌∙◌, ◌≡◌, refl, sym}
use Prim.Native.Nat.{ℕ, suc, ◌≤◌}
use borrow.Author.Tests.{eqb-false, leb-true}
use denote.Enum.Declared.{tag_of}
use mir.Val.{has_key}
use lib.Dec.{eqb, leb}
use lib.ListN.{get_or, length}
use Rattle.bodies.specs.declared.Fault.{Fault}
use Rattle.bodies.specs.declared.Fault.TheVariants.{OnlyChild}
use Rattle.refusals.specs.contracts.Refusal.{the_type as refusal}
use Rattle.refusals.specs.Told.{unnamed}
use Rattle.refusals.specs.Refusals.{refusal_numbers, refusal_told}
use Rattle.refusals.specs.declared.Refusal.{Refusal}
use Rattle.refusals.specs.declared.Refusal.TheVariants.{BadByte, BadCounts, BadLength, BadRecord, BadSet, BadTable, BadText, BadTree, BadVersion, Contradicted, EndsEarly, LeftOver, NoTree, Outside, ShortRoom, Unforced}
use Rattle.std.specs.Prelude.{Option, Some, None}

-- ---- a refusal from what it tells

abbrev at : ℕ → List ℕ → ℕ
at i vs = get_or vs i 0

abbrev fault_in : Option Fault → Fault
fault_in None = OnlyChild
fault_in (Some f) = f

abbrev refusal_in : ℕ → List ℕ → Option Fault → Refusal
refusal_in k vs r =
    cond (eqb k 1) BadVersion
    (cond (eqb k 2) BadCounts
    (cond (eqb k 3) (EndsEarly (at 0 vs))
    (cond (eqb k 4) (LeftOver (at 0 vs))
    (cond (eqb k 5) (BadLength (at 0 vs))
    (cond (eqb k 6) (BadTree (record { tree = at 0 vs; node = at 1 vs; fault = fault_in r }))
    (cond (eqb k 7) BadTable
    (cond (eqb k 8) (BadByte (at 0 vs))
    (cond (eqb k 9) ShortRoom
    (cond (eqb k 10) (NoTree (at 0 vs))
    (cond (eqb k 11) (Contradicted (record { index = at 0 vs; byte = at 1 vs }))
    (cond (eqb k 12) (Unforced (at 0 vs))
    (cond (eqb k 13) (BadRecord (at 0 vs))
    (cond (eqb k 14) (BadText (at 0 vs))
    (cond (eqb k 15) BadSet
    (Outside (at 0 vs))))))))))))))))

-- ---- the table

abbrev place : Refusal → ℕ
place x = tag_of refusal x

row : (x : Refusal)
    → ((refusal_told x).number ≡ get_or refusal_numbers (place x) 0) × (eqb (refusal_told x).number 0 ≡ false) × (leb (length (refusal_told x).values) 2 ≡ true) × (refusal_in (refusal_told x).number (unnamed (refusal_told x).values) (refusal_told x).rule ≡ x)
row BadVersion = (refl, refl, refl, refl)
row BadCounts = (refl, refl, refl, refl)
row (EndsEarly k) = (refl, refl, refl, refl)
row (LeftOver m) = (refl, refl, refl, refl)
row (BadLength k) = (refl, refl, refl, refl)
row (BadTree x) = (refl, refl, refl, refl)
row BadTable = (refl, refl, refl, refl)
row (BadByte i) = (refl, refl, refl, refl)
row ShortRoom = (refl, refl, refl, refl)
row (NoTree u) = (refl, refl, refl, refl)
row (Contradicted x) = (refl, refl, refl, refl)
row (Unforced i) = (refl, refl, refl, refl)
row (BadRecord i) = (refl, refl, refl, refl)
row (BadText p) = (refl, refl, refl, refl)
row BadSet = (refl, refl, refl, refl)
row (Outside i) = (refl, refl, refl, refl)

-- ---- what follows

pub number_some : (x : Refusal) → (refusal_told x).number ≢ 0
number_some x = eqb-false (refusal_told x).number 0 (row x).1

pub values_few : (x : Refusal) → length (refusal_told x).values ≤ 2
values_few x = leb-true (length (refusal_told x).values) 2 (row x).2

-- no two refusals tell the same, even without the names of the values
pub refusal_apart : (x y : Refusal) → (refusal_told x).number ≡ (refusal_told y).number → unnamed (refusal_told x).values ≡ unnamed (refusal_told y).values → (refusal_told x).rule ≡ (refusal_told y).rule
    → x ≡ y
refusal_apart x y p q r = sym (row x).3 ∙ rw (p, q, r) (row y).3

-- the places of the numbers l, counted from i on, but for those of the numbers ks
abbrev places_from : List ℕ → List ℕ → ℕ → List ℕ
places_from ks [] i = []
places_from ks (k ∷ l) i = cond (has_key ks k) (places_from ks l (suc i)) (i ∷ places_from ks l (suc i))

-- the places of all refusals but those with the numbers ks
abbrev pub places_but : List ℕ → List ℕ
places_but ks = places_from ks refusal_numbers 0
