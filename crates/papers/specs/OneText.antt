-- What the private function does that reads one text t, whose body goes to place p of the store o with its two length bytes: where the next body goes and this body's bound, or
-- the refusal.
use Rattle.std.specs.Prelude.{List, ◌≡◌, ℕ, ◌+◌, length}
use Rattle.std.proofs.lemmas.List.Edits.{sets}
use Rattle.parsing.specs.Parses.{text_body}
use Rattle.highest.specs.Bound.{top_of}
use Rattle.papers.specs.Bundled.{with_length}
use Rattle.papers.specs.Reads.{text_answer}
use Rattle.refusals.specs.declared.Refusal.{Refusal}
use Rattle.answers.specs.declared.Written.{Written}
use Rattle.std.specs.Prelude.{Ok, Err, Result}
use Rattle.papers.specs.declared.Behind.{Behind}

abbrev pub onward : Result Behind Refusal → Result Written Refusal → Result Behind Refusal
onward r (Ok m) = r
onward r (Err x) = Err x

abbrev pub next_of : List ℕ → ℕ → Result Behind Refusal
next_of t p = onward (Ok (record { next = p + length (with_length (text_body t)); top = top_of (text_body t) })) (text_answer t)

abbrev pub Laid : List ℕ → ℕ → List ℕ → Result Behind Refusal → List ℕ → Type 0
Laid t p o (Ok x) o' = o' ≡ sets o p (with_length (text_body t))
Laid t p o (Err x) o' = Unit {0}
