-- What `shelf` reads and prints. Document 01, "Small runs to compare": "The program `shelf` reads a collection on standard input (4,100 bytes at most are looked at)".
use Rattle.std.specs.Prelude.{List, ◌≡◌, ℕ, ◌≤◌, length, take}
use Rattle.shelf_text.specs.Shelf.{shelf_text}

-- one byte more than the longest collection has, so that it and one that is longer are told apart
abbrev pub looked : ℕ
looked = 4100

-- reading was lent the bytes b, and n of them came; the text x is what `shelf` prints of these n
pub record ShownText (b : List ℕ) (n : ℕ) (x : List ℕ) : Type 0 where
  pub lent : length b ≡ looked
  pub came : n ≤ length b
  pub text : x ≡ shelf_text (take n b)
