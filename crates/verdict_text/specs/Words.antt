-- The words of the lines, as bytes.
use Rattle.std.specs.Prelude.{List, [], ◌∷◌, ℕ}

-- "every group is the papers' own"
abbrev pub own_words : List ℕ
own_words = 101 ∷ 118 ∷ 101 ∷ 114 ∷ 121 ∷ 32 ∷ 103 ∷ 114 ∷ 111 ∷ 117 ∷ 112 ∷ 32 ∷ 105 ∷ 115 ∷ 32 ∷ 116 ∷ 104 ∷ 101 ∷ 32 ∷ 112 ∷ 97 ∷ 112 ∷ 101 ∷ 114 ∷ 115 ∷ 39 ∷ 32 ∷ 111 ∷ 119 ∷ 110 ∷ []

-- "not forced by the papers: "
abbrev pub unforced_words : List ℕ
unforced_words = 110 ∷ 111 ∷ 116 ∷ 32 ∷ 102 ∷ 111 ∷ 114 ∷ 99 ∷ 101 ∷ 100 ∷ 32 ∷ 98 ∷ 121 ∷ 32 ∷ 116 ∷ 104 ∷ 101 ∷ 32 ∷ 112 ∷ 97 ∷ 112 ∷ 101 ∷ 114 ∷ 115 ∷ 58 ∷ 32 ∷ []

-- " and "
abbrev pub and_word : List ℕ
and_word = 32 ∷ 97 ∷ 110 ∷ 100 ∷ 32 ∷ []

-- " closer to each other than to "
abbrev pub closer_words : List ℕ
closer_words = 32 ∷ 99 ∷ 108 ∷ 111 ∷ 115 ∷ 101 ∷ 114 ∷ 32 ∷ 116 ∷ 111 ∷ 32 ∷ 101 ∷ 97 ∷ 99 ∷ 104 ∷ 32 ∷ 111 ∷ 116 ∷ 104 ∷ 101 ∷ 114 ∷ 32 ∷ 116 ∷ 104 ∷ 97 ∷ 110 ∷ 32 ∷ 116 ∷ 111 ∷ 32 ∷ []
