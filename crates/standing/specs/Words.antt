-- The names of the signs, and the words between them, as bytes.
use Rattle.std.specs.Prelude.{List, [], ◌∷◌, ℕ}

-- `a digit`
abbrev pub digit_word : List ℕ
digit_word = 97 ∷ 32 ∷ 100 ∷ 105 ∷ 103 ∷ 105 ∷ 116 ∷ []

-- `an opening bracket`
abbrev pub opening_word : List ℕ
opening_word = 97 ∷ 110 ∷ 32 ∷ 111 ∷ 112 ∷ 101 ∷ 110 ∷ 105 ∷ 110 ∷ 103 ∷ 32 ∷ 98 ∷ 114 ∷ 97 ∷ 99 ∷ 107 ∷ 101 ∷ 116 ∷ []

-- `a closing bracket`
abbrev pub closing_word : List ℕ
closing_word = 97 ∷ 32 ∷ 99 ∷ 108 ∷ 111 ∷ 115 ∷ 105 ∷ 110 ∷ 103 ∷ 32 ∷ 98 ∷ 114 ∷ 97 ∷ 99 ∷ 107 ∷ 101 ∷ 116 ∷ []

-- `a comma`
abbrev pub comma_word : List ℕ
comma_word = 97 ∷ 32 ∷ 99 ∷ 111 ∷ 109 ∷ 109 ∷ 97 ∷ []

-- `a colon`
abbrev pub colon_word : List ℕ
colon_word = 97 ∷ 32 ∷ 99 ∷ 111 ∷ 108 ∷ 111 ∷ 110 ∷ []

-- `a point`
abbrev pub point_word : List ℕ
point_word = 97 ∷ 32 ∷ 112 ∷ 111 ∷ 105 ∷ 110 ∷ 116 ∷ []

-- `a semicolon`
abbrev pub semicolon_word : List ℕ
semicolon_word = 97 ∷ 32 ∷ 115 ∷ 101 ∷ 109 ∷ 105 ∷ 99 ∷ 111 ∷ 108 ∷ 111 ∷ 110 ∷ []

-- ` or `
abbrev pub or_word : List ℕ
or_word = 32 ∷ 111 ∷ 114 ∷ 32 ∷ []

-- `nothing more`
abbrev pub nothing_word : List ℕ
nothing_word = 110 ∷ 111 ∷ 116 ∷ 104 ∷ 105 ∷ 110 ∷ 103 ∷ 32 ∷ 109 ∷ 111 ∷ 114 ∷ 101 ∷ []
