-- Text in lent bytes.
use Rattle.std.specs.Borrow.{GName}
use Rattle.std.specs.Prelude.{List, ℕ}
use Rattle.writing.specs.Texts.{wrote}

-- which bytes are lent, how many they are, and the text, which is the first of them
pub record Page : Type 0 where
  pub lent : GName
  pub room : ℕ
  pub text : List ℕ

-- the same bytes, with w behind the text, as far as there is room
unfoldable pub wrote_on : Page → List ℕ → Page
wrote_on p w = record p { text = wrote p.room p.text w }
