-- The items of a field: records, three bytes each, and sets, eight bytes each.
use Rattle.std.specs.Prelude.{List, [], ◌∷◌, ◌++◌, ℕ, zero, suc, ◌+◌, ◌*◌, ◌/◌, get_or, length}
use Rattle.shapes.specs.Numbers.{eight_at}

-- record i of the bytes b
abbrev pub record_at : List ℕ → ℕ → List ℕ
record_at b i = get_or b (3 * i) 0 ∷ get_or b (3 * i + 1) 0 ∷ get_or b (3 * i + 2) 0 ∷ []

-- set i of the bytes b
abbrev pub set_at : List ℕ → ℕ → ℕ
set_at b i = eight_at b (8 * i)

-- the first m items, of which `item` has each by its place
unfoldable pub items_up_to : {A : Type 0} → (ℕ → A) → ℕ → List A
items_up_to item zero = []
items_up_to item (suc m) = items_up_to item m ++ (item m ∷ [])

-- all of the records
abbrev pub records_of : List ℕ → List (List ℕ)
records_of b = items_up_to (record_at b) (length b / 3)

-- all of the sets
abbrev pub sets_of : List ℕ → List ℕ
sets_of b = items_up_to (set_at b) (length b / 8)
