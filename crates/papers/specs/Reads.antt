-- Reading the papers: "Texts are read in their order, each by reading Newick with n = 64 (`parse`). The first that is refused ends all".
use Rattle.std.specs.Prelude.{cond, List, [], ◌∷◌, map, ◌≡◌, ℕ, ◌+◌, eqb, ltb, length, take}
use Rattle.bodies.specs.Nodes.{longest}
use Rattle.parsing.specs.Parses.{parse_answer, text_body}
use Rattle.highest.specs.Bound.{top_of_all}
use Rattle.papers.specs.Bundled.{bundled}
use Rattle.texts.specs.Texts.{texts}
use Rattle.papers.specs.declared.Found.{Found}
use Rattle.refusals.specs.declared.Refusal.{Refusal}
use Rattle.answers.specs.declared.Written.{Written}
use Rattle.papers.specs.declared.Unread.TheVariants.{Bad, Empty, Long, Many}
use Rattle.papers.specs.declared.Unread.{Unread}
use Rattle.std.specs.Prelude.{Ok, Err, Result}

abbrev pub most_bytes : ℕ
most_bytes = 65536

abbrev pub most_papers : ℕ
most_papers = 16

-- what reading answers of one text; the room is as long as the longest body
unfoldable pub text_answer : List ℕ → Result Written Refusal
text_answer t = parse_answer 64 t longest

-- what comes of the text t, which begins at place p with k papers before it; r is what comes of the texts behind it
abbrev pub judged : ℕ → ℕ → List ℕ → Result Found Unread → Result Written Refusal → Result Found Unread
judged k p t r (Ok m) = r
judged k p t r (Err x) = Err (Bad (record { paper = k + 1; start = p; end = p + length t; why = x }))

-- what comes of the texts from place p on, with k papers before them; a is the answer where all are read. "If 16 were read and there is a 17th text"
unfoldable pub read_from : Result Found Unread → ℕ → ℕ → List (List ℕ) → Result Found Unread
read_from a k p [] = a
read_from a k p (t ∷ ts) = cond (eqb k most_papers) (Err Many) (judged k p t (read_from a (k + 1) (p + length t) ts) (text_answer t))

-- the bodies of the texts of an input
abbrev pub bodies_of : List ℕ → List (List ℕ)
bodies_of w = map text_body (texts w)

abbrev pub found_in : List (List ℕ) → Found
found_in bs = record { n = top_of_all bs; trees = length bs; end = length (bundled (top_of_all bs) bs) }

-- all texts are read, with these bodies; "If there is no text"
abbrev pub all_read' : List (List ℕ) → Result Found Unread
all_read' [] = Err Empty
all_read' (b ∷ bs) = Ok (found_in (b ∷ bs))

-- "More than 65,536 bytes" comes first
unfoldable pub papers_answer : List ℕ → Result Found Unread
papers_answer w = cond (ltb most_bytes (length w)) (Err Long) (read_from (all_read' (bodies_of w)) 0 0 (texts w))

-- what the store o then holds; after a refusal nothing is said of it
abbrev pub Stored : List ℕ → Result Found Unread → List ℕ → Type 0
Stored w (Ok f) o = take f.end o ≡ bundled f.n (bodies_of w)
Stored w (Err Long) o = Unit {0}
Stored w (Err Empty) o = Unit {0}
Stored w (Err Many) o = Unit {0}
Stored w (Err (Bad x)) o = Unit {0}
