-- What is written for a call, and where it stands. The form is ours: `second/README.md`.
use Rattle.std.specs.Prelude.{Err, List, Ok, Result, [], ◌∷◌, ◌++◌, ◌⊎◌, ◌≡◌, ℕ, ◌+◌, ◌*◌, ◌/◌}
use Rattle.choosing.specs.Chosen.{line_of}
use Rattle.writing.specs.Pages.{Page}
use Rattle.calls.specs.Calls.{fields_of}
use Rattle.calls.specs.declared.Call.{Call}
use Rattle.calls.specs.declared.NoCall.{NoCall}
use Rattle.calls.specs.declared.NoCall.TheVariants.{Cut, End}

-- "cut", and byte 10
abbrev pub cut_line : List ℕ
cut_line = 99 ∷ 117 ∷ 116 ∷ 10 ∷ []

-- what is written for a call whose fields stand at the fronts of x, y, z and w: of one that has not begun nothing, and `cut` of one that is not whole
abbrev pub made_line : Result Call NoCall → List ℕ → List ℕ → List ℕ → List ℕ → List ℕ
made_line (Ok c) x y z w = line_of c.byte c.numbers (fields_of c x y z w)
made_line (Err Cut) x y z w = cut_line
made_line (Err End) x y z w = []

-- how many bytes a line has at most, where the second field has j bytes, the third k and the fourth l: 21 for each byte of the second and the third, and for each set of the fourth, and 150 more
abbrev pub longest_line : ℕ → ℕ → ℕ → ℕ
longest_line j k l = 21 * (j + k + l / 8) + 150

-- where the text of the page o waited to be printed, the text w stands behind it, or at the front, once it was printed; the page is o' then, and its bytes are the same
pub record Waits (o : Page) (w : List ℕ) (o' : Page) : Type 0 where
  pub before : List ℕ
  pub behind : (before ≡ o.text) ⊎ (before ≡ [])
  pub text : o' ≡ record o { text = before ++ w }
