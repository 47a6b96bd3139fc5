-- The words of the lines, as bytes.
use Rattle.std.specs.Prelude.{List, [], ◌∷◌, ℕ}

-- "built: "
abbrev pub built_words : List ℕ
built_words = 98 ∷ 117 ∷ 105 ∷ 108 ∷ 116 ∷ 58 ∷ 32 ∷ []

-- "built, leaving that open: "
abbrev pub open_words : List ℕ
open_words = 98 ∷ 117 ∷ 105 ∷ 108 ∷ 116 ∷ 44 ∷ 32 ∷ 108 ∷ 101 ∷ 97 ∷ 118 ∷ 105 ∷ 110 ∷ 103 ∷ 32 ∷ 116 ∷ 104 ∷ 97 ∷ 116 ∷ 32 ∷ 111 ∷ 112 ∷ 101 ∷ 110 ∷ 58 ∷ 32 ∷ []

-- "the papers quarrel over"
abbrev pub quarrel_words : List ℕ
quarrel_words = 116 ∷ 104 ∷ 101 ∷ 32 ∷ 112 ∷ 97 ∷ 112 ∷ 101 ∷ 114 ∷ 115 ∷ 32 ∷ 113 ∷ 117 ∷ 97 ∷ 114 ∷ 114 ∷ 101 ∷ 108 ∷ 32 ∷ 111 ∷ 118 ∷ 101 ∷ 114 ∷ []
