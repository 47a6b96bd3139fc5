-- So many bytes are enough: of an input that is longer the byte that is too much is seen. Assumes nothing.
use mathlib.Core.Bool.{Bool, false, true}
use mathlib.Core.List.{List}
use mathlib.Core.Path.{◌∙◌, ◌≡◌, ap, refl, sym}
use Prim.Native.Nat.{ℕ, ◌<◌}
use native.Mathlib.Omega.{arith}
use borrow.Author.Tests.{lt-ltb, ltb-false, ltb-true}
use lib.Dec.{ltb}
use lib.ListN.{length, take}
use lib.Seq.{length-take-le, take_all}
use Rattle.papers.specs.Reads.{most_bytes, papers_answer}
use Rattle.writing.specs.Texts.{ended}
use Rattle.pull_text.specs.Pull.{pull_text}
use Rattle.pull_text.specs.Words.{long_words}
use Rattle.pull.specs.Runs.{looked}

too_long : (b : List ℕ) → most_bytes < length b → pull_text b ≡ ended long_words
unfolding pull_text papers_answer
too_long b h = rw (lt-ltb most_bytes (length b) h) refl

pub looked_enough : (b : List ℕ) → pull_text (take looked b) ≡ pull_text b
looked_enough b = by (ltb most_bytes (length b)) refl
  where
    by : (o : Bool) → ltb most_bytes (length b) ≡ o → pull_text (take looked b) ≡ pull_text b
    by true e =
        let l = ltb-true most_bytes (length b) e in
        too_long (take looked b) (omega (arith, length-take-le looked b (omega (arith, l)))) ∙ sym (too_long b l)
    by false e = ap pull_text (take_all looked b (omega (arith, ltb-false most_bytes (length b) e)))
