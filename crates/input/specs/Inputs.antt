-- What is still to be read of the input, what was read of it, and what a reader lies over.
use Rattle.std.specs.Prelude.{Bool, List, ◌++◌, ◌≡◌, ℕ, ◌-◌, drop, length, take}
use Rattle.input.specs.declared.Reader.{Reader}

-- the bytes in the buffer of the reader r that are still to be read
unfoldable pub buffered : Reader → List ℕ
buffered r = take (r.end - r.at) (drop r.at r.buffer.now)

-- all that was asked of the reader r was there
abbrev pub whole : Reader → Bool
whole r = r.whole

-- the reader lies over the same lent bytes, of which there are as many, whatever they hold
pub record SameBuffer (r r' : Reader) : Type 0 where
  pub lent : r'.buffer.ghost_name ≡ r.buffer.ghost_name
  pub long : length r'.buffer.now ≡ length r.buffer.now

-- the bytes s, and some that came after them, are the bytes t and then the bytes z: none of s is lost, doubled or out of its order. Of those that came
-- after them nothing is said: the contract of `read` does not say which they are.
pub record Follows (s t z : List ℕ) : Type 0 where
  pub came : List ℕ
  pub same : s ++ came ≡ t ++ z

-- of the reader r the bytes t were read; it is r' now, and was not cut by this
pub record Took (r : Reader) (t : List ℕ) (r' : Reader) : Type 0 where
  pub uncut : whole r' ≡ whole r
  pub follows : Follows (buffered r) t (buffered r')

-- so were some bytes of which P is true
pub record TookSome (P : List ℕ → Type 0) (r r' : Reader) : Type 0 where
  pub bytes : List ℕ
  pub took : Took r bytes r'
  pub are : P bytes
