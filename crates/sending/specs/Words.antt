-- The words of the lines, as bytes.
use Rattle.std.specs.Prelude.{List, [], ◌∷◌, ℕ}

-- "may be sent: "
abbrev pub sent_words : List ℕ
sent_words = 109 ∷ 97 ∷ 121 ∷ 32 ∷ 98 ∷ 101 ∷ 32 ∷ 115 ∷ 101 ∷ 110 ∷ 116 ∷ 58 ∷ 32 ∷ []

-- "dropped:"
abbrev pub dropped_word : List ℕ
dropped_word = 100 ∷ 114 ∷ 111 ∷ 112 ∷ 112 ∷ 101 ∷ 100 ∷ 58 ∷ []

-- "pull together:"
abbrev pub together_words : List ℕ
together_words = 112 ∷ 117 ∷ 108 ∷ 108 ∷ 32 ∷ 116 ∷ 111 ∷ 103 ∷ 101 ∷ 116 ∷ 104 ∷ 101 ∷ 114 ∷ 58 ∷ []

-- "pull nothing together: the tree has no group"
abbrev pub nothing_words : List ℕ
nothing_words = 112 ∷ 117 ∷ 108 ∷ 108 ∷ 32 ∷ 110 ∷ 111 ∷ 116 ∷ 104 ∷ 105 ∷ 110 ∷ 103 ∷ 32 ∷ 116 ∷ 111 ∷ 103 ∷ 101 ∷ 116 ∷ 104 ∷ 101 ∷ 114 ∷ 58 ∷ 32 ∷ 116 ∷ 104 ∷ 101 ∷ 32 ∷ 116 ∷ 114 ∷ 101 ∷ 101 ∷ 32 ∷ 104 ∷ 97 ∷ 115 ∷ 32 ∷ 110 ∷ 111 ∷ 32 ∷ 103 ∷ 114 ∷ 111 ∷ 117 ∷ 112 ∷ []
