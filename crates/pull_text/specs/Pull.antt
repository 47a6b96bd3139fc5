-- What `pull` prints of its input.
use Rattle.std.specs.Prelude.{List, [], ◌++◌, ℕ, replicate}
use Rattle.triples.specs.Index.{C}
use Rattle.collections.specs.Layout.{trees}
use Rattle.collections.specs.Reads.{read_answer}
use Rattle.listing.specs.Lists.{list_after}
use Rattle.writing.specs.Texts.{ended}
use Rattle.papers.specs.Bundled.{bundled}
use Rattle.papers.specs.Reads.{bodies_of, papers_answer}
use Rattle.refused_text.specs.Refused.{refused_line}
use Rattle.papers_text.specs.Lines.{papers_text}
use Rattle.built_text.specs.Built.{built_text}
use Rattle.pull_text.specs.Words.{long_words, many_words, none_words}
use Rattle.refusals.specs.declared.Refusal.{Refusal}
use Rattle.collections.specs.declared.Counts.{Counts}
use Rattle.papers.specs.declared.Unread.TheVariants.{Bad, Empty, Long, Many}
use Rattle.papers.specs.declared.Unread.{Unread}
use Rattle.std.specs.Prelude.{Ok, Err, Result}
use Rattle.papers.specs.declared.Found.{Found}

-- of the collection c, whose species are below n and make the set s: "The table is that of listing the collection"
abbrev pub story_text : List ℕ → ℕ → ℕ → List ℕ
story_text c n s = papers_text c (trees c) ++ built_text c n s (list_after c (replicate (C n 3) 0))

-- reading what was bundled: it is a collection (`bundled_good`), and "the set S is the set that occurs"
abbrev pub good_text : List ℕ → Result Counts Refusal → List ℕ
good_text c (Ok x) = story_text c x.n x.set
good_text c (Err x) = []

abbrev pub collection_text : List ℕ → List ℕ
collection_text c = good_text c (read_answer c)

-- once the texts of the input w were read
abbrev pub input_text : List ℕ → Result Found Unread → List ℕ
input_text w (Ok f) = collection_text (bundled f.n (bodies_of w))
input_text w (Err Long) = ended long_words
input_text w (Err Empty) = ended none_words
input_text w (Err Many) = ended many_words
input_text w (Err (Bad x)) = refused_line w x.paper x.start x.end x.why

unfoldable pub pull_text : List ℕ → List ℕ
pull_text w = input_text w (papers_answer w)
