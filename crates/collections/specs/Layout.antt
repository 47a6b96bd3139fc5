-- Where things stand in a collection. Document 01, "A tree's body and the collection": "A collection is: version byte 1; n; the number of trees; then
-- for each tree a two-byte length of its body, big-endian, and the body. Nothing follows."
use Rattle.std.specs.Prelude.{Bool, not, ◌||◌, List, ℕ, zero, suc, ◌+◌, ◌*◌, eqb, ltb, length, get_or, take, drop}
use Rattle.bodies.specs.Nodes.{longest}

-- "The largest has 4,099 bytes": its header, and 16 trees, each with two bytes of length and the longest body
abbrev pub longest_collection : ℕ
longest_collection = 3 + 16 * (2 + longest)

module _ (b : List ℕ) where
  abbrev pub version : ℕ
  version = get_or b 0 0

  abbrev pub species : ℕ
  species = get_or b 1 0

  abbrev pub trees : ℕ
  trees = get_or b 2 0

  -- the number in the two bytes from p on
  abbrev pub length_at : ℕ → ℕ
  length_at p = 256 * get_or b p 0 + get_or b (p + 1) 0

  -- where tree k's two length bytes stand; past the last tree, where the bytes should end
  unfoldable pub start : ℕ → ℕ
  start zero = 3
  start (suc k) = start k + 2 + length_at (start k)

  -- where tree k's bytes lie
  abbrev pub bytes_at : ℕ → List ℕ
  bytes_at k = take (length_at (start k)) (drop (start k + 2) b)

  -- tree k's body, which is what all else speaks of: its bytes as they stand
  abbrev pub body_at : ℕ → List ℕ
  body_at k = bytes_at k

  -- ---- the "when" column of document 01's table, as far as it speaks of a collection

  -- "version byte is not 1"
  abbrev pub wrong_version : Bool
  wrong_version = not (eqb version 1)

  -- "n is 0 or over 64, or over 16 trees"
  abbrev pub wrong_counts : Bool
  wrong_counts = eqb species 0 || (ltb 64 species || ltb 16 trees)

  -- "the bytes end early": nothing at all, in the header, in tree k's length, in tree k's body
  abbrev pub no_byte : Bool
  no_byte = eqb (length b) 0

  abbrev pub short_header : Bool
  short_header = ltb (length b) 3

  abbrev pub short_length : ℕ → Bool
  short_length k = ltb (length b) (start k + 2)

  abbrev pub short_body : ℕ → Bool
  short_body k = ltb (length b) (start (suc k))
