-- The texts of an input: "Newick texts of request T-01's form one after another, each closed by its semicolon".
use Rattle.std.specs.Prelude.{Bool, cond, true, ◌&&◌, List, [], ◌∷◌, ℕ, zero, suc, eqb, drop, length, take}
use Rattle.newick.specs.Form.{blank}

-- how many bytes the first text has: "the first one goes from the first byte to the first semicolon, with it", to the end where there is none; 59 is the semicolon
unfoldable pub span : List ℕ → ℕ
span [] = 0
span (b ∷ w) = cond (eqb b 59) 1 (suc (span w))

-- "blanks only (space, byte 10, byte 13; or nothing)"
unfoldable pub all_blank : List ℕ → Bool
all_blank [] = true
all_blank (b ∷ w) = blank b && all_blank w

-- at most k texts; "the next from behind that; and so on. What stands behind the last semicolon is a text too, unless it is blanks only"
unfoldable pub texts_in : ℕ → List ℕ → List (List ℕ)
texts_in zero w = []
texts_in (suc k) w = cond (all_blank w) [] (take (span w) w ∷ texts_in k (drop (span w) w))

-- all of them: each text has a byte
unfoldable pub texts : List ℕ → List (List ℕ)
texts w = texts_in (length w) w
