-- What `pull` reads and prints: "Everything is one text on standard output".
use Rattle.std.specs.Prelude.{List, ◌≡◌, ℕ, ◌≤◌, length, take}
use Rattle.pull_text.specs.Pull.{pull_text}

-- one byte more than an input may have, so that "More than 65,536 bytes" is seen
abbrev pub looked : ℕ
looked = 65537

-- reading was lent the bytes b, and n of them came; the text x is what `pull` prints of these n
pub record ShownText (b : List ℕ) (n : ℕ) (x : List ℕ) : Type 0 where
  pub lent : length b ≡ looked
  pub came : n ≤ length b
  pub text : x ≡ pull_text (take n b)
