-- The words of the lines, as bytes.
use Rattle.std.specs.Prelude.{List, [], ◌∷◌, ℕ}

-- "paper "
abbrev pub paper_word : List ℕ
paper_word = 112 ∷ 97 ∷ 112 ∷ 101 ∷ 114 ∷ 32 ∷ []

-- ": "
abbrev pub colon_word : List ℕ
colon_word = 58 ∷ 32 ∷ []

-- " says of these: "
abbrev pub says_words : List ℕ
says_words = 32 ∷ 115 ∷ 97 ∷ 121 ∷ 115 ∷ 32 ∷ 111 ∷ 102 ∷ 32 ∷ 116 ∷ 104 ∷ 101 ∷ 115 ∷ 101 ∷ 58 ∷ 32 ∷ []

-- " says nothing of these"
abbrev pub silent_words : List ℕ
silent_words = 32 ∷ 115 ∷ 97 ∷ 121 ∷ 115 ∷ 32 ∷ 110 ∷ 111 ∷ 116 ∷ 104 ∷ 105 ∷ 110 ∷ 103 ∷ 32 ∷ 111 ∷ 102 ∷ 32 ∷ 116 ∷ 104 ∷ 101 ∷ 115 ∷ 101 ∷ []
