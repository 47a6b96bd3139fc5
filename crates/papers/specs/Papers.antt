-- What an answer says of the texts of an input w, one by one.
use mathlib.Core.List.{List, [], flatten}
use Rattle.std.specs.Prelude.{◌≡◌, ℕ, ◌+◌, ◌-◌, ◌<◌, ◌≤◌, drop, get_or, length, take}
use Rattle.answers.specs.declared.Written.{Written}
use Rattle.collections.specs.Collection.{Collection}
use Rattle.collections.specs.Layout.{body_at, longest_collection, species, trees}
use Rattle.parsing.specs.Parses.{text_body}
use Rattle.highest.specs.Bound.{top_of_all}
use Rattle.papers.specs.Bundled.{bundled}
use Rattle.papers.specs.Reads.{bodies_of, most_bytes, most_papers, text_answer}
use Rattle.texts.specs.Texts.{texts}
use Rattle.papers.specs.declared.Bad as refused
use Rattle.papers.specs.declared.Found.{Found}
use Rattle.papers.specs.declared.Unread.TheVariants.{Bad, Empty, Long, Many}
use Rattle.papers.specs.declared.Unread.{Unread}
use Rattle.std.specs.Prelude.{Ok, Err, Result}

-- the text is read
abbrev pub IsRead : List ℕ → Type 0
IsRead t = (m : Written) × (text_answer t ≡ Ok m)

-- text number k, from 0
abbrev pub text_at : List ℕ → ℕ → List ℕ
text_at w k = get_or (texts w) k []

-- b is a good collection of these bodies, with n species
pub record CollectionOf (n : ℕ) (bs : List (List ℕ)) (b : List ℕ) : Type 0 where
  pub good : Collection b
  pub species_is : species b ≡ n
  pub trees_is : trees b ≡ length bs
  pub body_is : (k : ℕ) → k < length bs → body_at b k ≡ get_or bs k []
  pub most : length b ≤ longest_collection

-- 1 to 16 texts, each of which is read; f tells of the collection of their bodies
pub record EachRead (w : List ℕ) (f : Found) : Type 0 where
  pub some : 0 < length (texts w)
  pub few : length (texts w) ≤ most_papers
  pub read : (k : ℕ) → k < length (texts w) → IsRead (text_at w k)
  pub count : length (bodies_of w) ≡ length (texts w)
  pub body : (k : ℕ) → get_or (bodies_of w) k [] ≡ text_body (text_at w k)
  pub n_is : f.n ≡ top_of_all (bodies_of w)
  pub trees_is : f.trees ≡ length (texts w)
  pub end_is : f.end ≡ length (bundled f.n (bodies_of w))
  pub collection : CollectionOf f.n (bodies_of w) (bundled f.n (bodies_of w))

-- x is the first text that is refused: its number from 1, its bytes in the input, and why
pub record FirstBad (w : List ℕ) (x : refused.Bad) : Type 0 where
  pub number : ℕ
  pub paper_is : x.paper ≡ number + 1
  pub there : number < length (texts w)
  pub few : number < most_papers
  pub earlier : (k : ℕ) → k < number → IsRead (text_at w k)
  pub refused : text_answer (text_at w number) ≡ Err x.why
  -- it begins behind the texts before it
  pub start_is : x.start ≡ length (flatten (take number (texts w)))
  pub end_is : x.end ≡ x.start + length (text_at w number)
  pub within : x.end ≤ length w
  pub bytes : take (x.end - x.start) (drop x.start w) ≡ text_at w number

-- what the answer r says
abbrev pub Says : List ℕ → Result Found Unread → Type 0
Says w (Ok f) = EachRead w f
Says w (Err Long) = most_bytes < length w
Says w (Err Empty) = length (texts w) ≡ 0
Says w (Err Many) = (most_papers < length (texts w)) × ((k : ℕ) → k < most_papers → IsRead (text_at w k))
Says w (Err (Bad x)) = FirstBad w x
