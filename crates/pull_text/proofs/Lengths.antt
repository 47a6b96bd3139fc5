-- The whole text fits into the bytes that the program has for it. Assumes nothing.
use mathlib.Core.List.{List}
use mathlib.Core.Path.{◌≡◌, refl}
use Prim.Native.Nat.{ℕ, ◌≤◌}
use native.Mathlib.Omega.{arith}
use lib.ListN.{length, length-append, replicate}
use Rattle.triples.specs.Index.{C}
use Rattle.collections.proofs.Whole.{read_done}
use Rattle.collections.specs.Collection.{Collection}
use Rattle.collections.specs.Layout.{trees}
use Rattle.collections.specs.Reads.{read_answer}
use Rattle.listing.specs.Lists.{list_after}
use Rattle.papers.specs.Bundled.{bundled}
use Rattle.papers.specs.Reads.{bodies_of, papers_answer}
use Rattle.papers_text.proofs.Lengths.{papers_few}
use Rattle.papers_text.specs.Lines.{papers_text}
use Rattle.refused_text.proofs.Lengths.{refused_few}
use Rattle.built_text.proofs.Lengths.{built_few}
use Rattle.built_text.specs.Built.{built_text}
use Rattle.pull_text.specs.Pull.{collection_text, good_text, input_text, pull_text, story_text}
use Rattle.refusals.specs.declared.Refusal.{Refusal}
use Rattle.collections.specs.declared.Counts.{Counts}
use Rattle.papers.specs.declared.Unread.TheVariants.{Bad, Empty, Long, Many}
use Rattle.papers.specs.declared.Unread.{Unread}
use Rattle.std.specs.Prelude.{Ok, Err, Result}
use Rattle.papers.specs.declared.Found.{Found}

story_few : (c : List ℕ) → Collection c → (n s : ℕ) → length (story_text c n s) ≤ 40960
story_few c g n s =
    let t = list_after c (replicate (C n 3) 0) in
    omega (arith, length-append (papers_text c (trees c)) (built_text c n s t), papers_few c g (trees c) (omega arith), g.few, built_few n s t c g)

collection_few : (c : List ℕ) → length (collection_text c) ≤ 40960
collection_few c = by (read_answer c) refl
  where
    by : (a : Result Counts Refusal) → read_answer c ≡ a → length (good_text c a) ≤ 40960
    by (Ok x) e = story_few c (read_done c x e).1 x.n x.set
    by (Err x) e = omega arith

input_few : (w : List ℕ) (a : Result Found Unread) → length (input_text w a) ≤ 40960
input_few w (Ok f) = collection_few (bundled f.n (bodies_of w))
input_few w (Err Long) = omega arith
input_few w (Err Empty) = omega arith
input_few w (Err Many) = omega arith
input_few w (Err (Bad x)) = omega (arith, refused_few w x.paper x.start x.end x.why)

pub pull_few : (w : List ℕ) → length (pull_text w) ≤ 40960
unfolding pull_text
pull_few w = input_few w (papers_answer w)
