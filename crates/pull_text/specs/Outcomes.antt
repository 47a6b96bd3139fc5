-- What is so of the text that `pull` prints: of papers that are read, and of an input that is refused.
use Rattle.std.specs.Prelude.{Bool, ◌&&◌, not, true, List, [], ◌∷◌, ◌++◌, ◌≡◌, ℕ, ◌<◌, eqb, length}
use Rattle.std.proofs.Math.Bool.{So}
use Rattle.collections.specs.Layout.{body_at, trees}
use Rattle.collections.specs.Occurs.{occurring}
use Rattle.collections.specs.Reads.{counts_of, read_answer}
use Rattle.parsing.specs.Parses.{text_body}
use Rattle.writing.specs.Texts.{ended}
use Rattle.papers.specs.Bundled.{bundled}
use Rattle.papers.specs.Papers.{text_at}
use Rattle.papers.specs.Reads.{bodies_of}
use Rattle.texts.specs.Texts.{texts}
use Rattle.papers.specs.declared.Found.{Found}
use Rattle.pull_text.specs.Pull.{pull_text, story_text}
use Rattle.std.specs.Prelude.{Ok}

-- the papers' collection: "version 1, n, the number of texts, then each body (in the text's order) with its two length bytes"
abbrev pub collection_of : List ℕ → Found → List ℕ
collection_of w f = bundled f.n (bodies_of w)

-- the texts of w were read, and f tells of them: their collection is good, with the body of each text, and its lines are what is printed
pub record GoodPapers (w : List ℕ) (f : Found) : Type 0 where
  pub read : read_answer (collection_of w f) ≡ Ok (counts_of (collection_of w f))
  pub species_is : (counts_of (collection_of w f)).n ≡ f.n
  pub trees_is : trees (collection_of w f) ≡ length (texts w)
  pub body_is : (k : ℕ) → k < length (texts w) → body_at (collection_of w f) k ≡ text_body (text_at w k)
  pub text : pull_text w ≡ story_text (collection_of w f) f.n (occurring (collection_of w f))

-- "refused: "
abbrev pub refused_words : List ℕ
refused_words = 114 ∷ 101 ∷ 102 ∷ 117 ∷ 115 ∷ 101 ∷ 100 ∷ 58 ∷ 32 ∷ []

-- no byte of it is 10
unfoldable pub in_line : List ℕ → Bool
in_line [] = true
in_line (b ∷ l) = not (eqb b 10) && in_line l

-- the text x is one line, which begins with `refused: `
pub record Refused (x : List ℕ) : Type 0 where
  pub rest : List ℕ
  pub text : x ≡ ended (refused_words ++ rest)
  pub one : So (in_line rest)
