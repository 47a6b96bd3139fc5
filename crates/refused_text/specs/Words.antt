-- The words of the line of a text that is refused, as bytes.
use Rattle.std.specs.Prelude.{List, [], ◌∷◌, ℕ}

-- `refused: paper `
abbrev pub refused_word : List ℕ
refused_word = 114 ∷ 101 ∷ 102 ∷ 117 ∷ 115 ∷ 101 ∷ 100 ∷ 58 ∷ 32 ∷ 112 ∷ 97 ∷ 112 ∷ 101 ∷ 114 ∷ 32 ∷ []

-- `, line `
abbrev pub line_word : List ℕ
line_word = 44 ∷ 32 ∷ 108 ∷ 105 ∷ 110 ∷ 101 ∷ 32 ∷ []

-- `, column `
abbrev pub column_word : List ℕ
column_word = 44 ∷ 32 ∷ 99 ∷ 111 ∷ 108 ∷ 117 ∷ 109 ∷ 110 ∷ 32 ∷ []

-- `: `
abbrev pub then_word : List ℕ
then_word = 58 ∷ 32 ∷ []

-- `a text has at most 4096 bytes`
abbrev pub long_word : List ℕ
long_word = 97 ∷ 32 ∷ 116 ∷ 101 ∷ 120 ∷ 116 ∷ 32 ∷ 104 ∷ 97 ∷ 115 ∷ 32 ∷ 97 ∷ 116 ∷ 32 ∷ 109 ∷ 111 ∷ 115 ∷ 116 ∷ 32 ∷ 52 ∷ 48 ∷ 57 ∷ 54 ∷ 32 ∷ 98 ∷ 121 ∷ 116 ∷ 101 ∷ 115 ∷ []

-- `found `
abbrev pub found_word : List ℕ
found_word = 102 ∷ 111 ∷ 117 ∷ 110 ∷ 100 ∷ 32 ∷ []

-- `, expected `
abbrev pub expected_word : List ℕ
expected_word = 44 ∷ 32 ∷ 101 ∷ 120 ∷ 112 ∷ 101 ∷ 99 ∷ 116 ∷ 101 ∷ 100 ∷ 32 ∷ []

-- `the end`
abbrev pub end_word : List ℕ
end_word = 116 ∷ 104 ∷ 101 ∷ 32 ∷ 101 ∷ 110 ∷ 100 ∷ []

-- `a blank`
abbrev pub blank_word : List ℕ
blank_word = 97 ∷ 32 ∷ 98 ∷ 108 ∷ 97 ∷ 110 ∷ 107 ∷ []

-- `byte `
abbrev pub byte_word : List ℕ
byte_word = 98 ∷ 121 ∷ 116 ∷ 101 ∷ 32 ∷ []

-- `species `
abbrev pub species_word : List ℕ
species_word = 115 ∷ 112 ∷ 101 ∷ 99 ∷ 105 ∷ 101 ∷ 115 ∷ 32 ∷ []

-- `, and the highest is 63`
abbrev pub highest_word : List ℕ
highest_word = 44 ∷ 32 ∷ 97 ∷ 110 ∷ 100 ∷ 32 ∷ 116 ∷ 104 ∷ 101 ∷ 32 ∷ 104 ∷ 105 ∷ 103 ∷ 104 ∷ 101 ∷ 115 ∷ 116 ∷ 32 ∷ 105 ∷ 115 ∷ 32 ∷ 54 ∷ 51 ∷ []

-- `this species stands twice`
abbrev pub twice_word : List ℕ
twice_word = 116 ∷ 104 ∷ 105 ∷ 115 ∷ 32 ∷ 115 ∷ 112 ∷ 101 ∷ 99 ∷ 105 ∷ 101 ∷ 115 ∷ 32 ∷ 115 ∷ 116 ∷ 97 ∷ 110 ∷ 100 ∷ 115 ∷ 32 ∷ 116 ∷ 119 ∷ 105 ∷ 99 ∷ 101 ∷ []

-- `this bracket has one child`
abbrev pub one_word : List ℕ
one_word = 116 ∷ 104 ∷ 105 ∷ 115 ∷ 32 ∷ 98 ∷ 114 ∷ 97 ∷ 99 ∷ 107 ∷ 101 ∷ 116 ∷ 32 ∷ 104 ∷ 97 ∷ 115 ∷ 32 ∷ 111 ∷ 110 ∷ 101 ∷ 32 ∷ 99 ∷ 104 ∷ 105 ∷ 108 ∷ 100 ∷ []

-- `this is no tree`
abbrev pub no_tree_word : List ℕ
no_tree_word = 116 ∷ 104 ∷ 105 ∷ 115 ∷ 32 ∷ 105 ∷ 115 ∷ 32 ∷ 110 ∷ 111 ∷ 32 ∷ 116 ∷ 114 ∷ 101 ∷ 101 ∷ []
