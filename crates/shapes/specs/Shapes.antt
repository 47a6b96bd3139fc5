-- The table of calls: what follows the byte of each. The form is ours: `second/README.md`, "The calls".
use Rattle.std.specs.Prelude.{cond, [], ◌∷◌, ℕ, eqb, Option, None, Some}
use Rattle.shapes.specs.declared.Shape.{Shape}

-- what follows the byte of a call: how many numbers, and how many bytes an item of each field has; 0 where the call has no such field
abbrev pub row : ℕ → ℕ → ℕ → ℕ → ℕ → Option Shape
row n x y z w = Some (record { numbers = n; items = x ∷ y ∷ z ∷ w ∷ [] })

-- there is no such call
abbrev pub unknown : Option Shape
unknown = None

-- the table of calls: r reads, l lists, e enters, o puts in house order, b builds, v makes the veto build, c checks, n reads a Newick text, w writes one, x loosens
unfoldable pub shape : ℕ → Option Shape
shape k =
    cond (eqb k 114) (row 0 1 0 0 0) (
    cond (eqb k 108) (row 0 1 1 0 0) (
    cond (eqb k 101) (row 1 3 1 0 0) (
    cond (eqb k 111) (row 1 1 1 0 0) (
    cond (eqb k 98) (row 2 1 1 0 0) (
    cond (eqb k 118) (row 2 1 1 0 0) (
    cond (eqb k 99) (row 1 1 1 0 0) (
    cond (eqb k 110) (row 1 1 1 0 0) (
    cond (eqb k 119) (row 1 1 1 0 0) (
    cond (eqb k 120) (row 1 1 1 1 8) unknown)))))))))
