-- The collection of some bodies: "version 1, n, the number of texts, then each body (in the text's order) with its two length bytes".
use Rattle.std.specs.Prelude.{List, [], ◌∷◌, ◌++◌, ℕ, length}

-- a body has at most 254 bytes, so that the first length byte is 0
abbrev pub with_length : List ℕ → List ℕ
with_length b = 0 ∷ length b ∷ b

unfoldable pub chained : List (List ℕ) → List ℕ
chained [] = []
chained (b ∷ bs) = with_length b ++ chained bs

abbrev pub bundled : ℕ → List (List ℕ) → List ℕ
bundled n bs = 1 ∷ n ∷ length bs ∷ chained bs
