-- The texts that are read, and the byte place of all others. Request T-01: "Read up to 4,096 bytes into a body"; "14 with the byte place, for text over
-- length (place 4,096, before any other place) or against these rules or limits".
use Rattle.std.specs.Prelude.{List, ◌⊎◌, ◌≡◌, ℕ, ◌<◌, ◌≤◌, length}
use Rattle.trees.specs.Trees.{Tree}
use Rattle.newick.specs.Form.{Form}
use Rattle.newick.specs.Place.{Place}
use Rattle.newick.specs.Within.{Within}

abbrev pub longest_text : ℕ
longest_text = 4096

-- the text w is read as the tree t: it is not too long, it is a text of that tree, and the tree is within the limits
pub record Readable (w : List ℕ) (t : Tree) : Type 0 where
  pub short : length w ≤ longest_text
  pub form : Form t w
  pub within : Within t

-- the text w is refused at place p
abbrev pub RefusedAt : List ℕ → ℕ → Type 0
RefusedAt w p = ((longest_text < length w) × (p ≡ longest_text)) ⊎ ((length w ≤ longest_text) × Place w p)
