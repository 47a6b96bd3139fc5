-- Lines of a word and numbers, and of numbers alone.
use Rattle.std.specs.Prelude.{List, [], ◌∷◌, ◌++◌, ℕ}
use Rattle.writing.specs.Texts.{decimal, ended, spaced}

-- a word, and numbers after it
abbrev pub line : List ℕ → List ℕ → List ℕ
line w ns = ended (w ++ spaced ns)

-- numbers alone
abbrev pub numbers : List ℕ → List ℕ
numbers [] = ended []
numbers (n ∷ l) = ended (decimal n ++ spaced l)
