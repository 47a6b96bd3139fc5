-- One step of `trial`: a call is read, and its line written.
use Rattle.std.specs.declared.ops.ControlFlow.{ControlFlow}
use Rattle.std.specs.declared.ops.ControlFlow.TheVariants.{Break, Continue}
use Rattle.std.specs.Prelude.{false, true, List, [], ◌⊎◌, ◌≡◌, ℕ}
use Rattle.calls.specs.Calls.{CallBytes}
use Rattle.input.specs.Inputs.{Took, whole}
use Rattle.writing.specs.Pages.{Page}
use Rattle.choosing.specs.Chosen.{line_of}
use Rattle.making.specs.Made.{Waits, cut_line}
use Rattle.input.specs.declared.Reader.{Reader}

-- of the reader i, which was not cut and is i' now, the bytes of a call were read, and the text w is the line of this call
pub record MadeFrom (i i' : Reader) (w : List ℕ) : Type 0 where
  pub whole : whole i ≡ true
  pub bytes : List ℕ
  pub took : Took i bytes i'
  pub byte : ℕ
  pub numbers : List ℕ
  pub fields : List (List ℕ)
  pub call : CallBytes byte numbers fields bytes
  pub line : w ≡ line_of byte numbers fields

-- what is so of the text w of a step after which a call may follow, and of one after which none does
abbrev pub Step : Reader → Reader → List ℕ → ControlFlow (Unit {0}) (Unit {0}) → Type 0
Step i i' w (Continue _) = MadeFrom i i' w
Step i i' w (Break _) = ((w ≡ cut_line) ⊎ (w ≡ [])) × (whole i' ≡ false)

-- so it is with the text that now stands behind what waited, where all of the call was there; else the text is `cut`, or nothing, and no step after this one reads a call
pub record OneCall (i i' : Reader) (o o' : Page) (r : ControlFlow (Unit {0}) (Unit {0})) : Type 0 where
  pub text : List ℕ
  pub waits : Waits o text o'
  pub step : Step i i' text r
