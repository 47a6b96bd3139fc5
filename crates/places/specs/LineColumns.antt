-- The line and the column of a place in the input: "L is one more than the number of bytes 10 before it, C one more than the number of bytes behind the
-- last byte 10 before it (or behind the start)".
use Rattle.std.specs.Prelude.{cond, List, [], ◌∷◌, ℕ, suc, eqb}
use Rattle.places.specs.declared.LineColumn.{LineColumn}

-- behind the bytes w, from line l and column c on
abbrev pub line_column_from : ℕ → ℕ → List ℕ → LineColumn
line_column_from l c [] = record { line = l; column = c }
line_column_from l c (b ∷ w) = cond (eqb b 10) (line_column_from (suc l) 1 w) (line_column_from l (suc c) w)
