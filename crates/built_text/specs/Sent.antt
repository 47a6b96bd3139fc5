-- What is so of the text that is printed of a built table: a tree may be sent.
use Rattle.std.specs.Prelude.{List, ◌++◌, ◌≡◌, ℕ}
use Rattle.checking.specs.Checks.{check_answer}
use Rattle.species_text.specs.Lines.{tree_line}
use Rattle.sending.specs.Words.{sent_words}
use Rattle.std.specs.Prelude.{Ok}

-- the text x has `may be sent: `, with the tree of a body that passes the check with the table t of n species
pub record Sent (n : ℕ) (t x : List ℕ) : Type 0 where
  pub before : List ℕ
  pub body : List ℕ
  pub behind : List ℕ
  pub text : x ≡ before ++ (tree_line sent_words body ++ behind)
  pub passes : check_answer n t body ≡ Ok tt
