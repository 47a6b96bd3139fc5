-- How the table grows by a tree, and the bits of what the tree says of a triple.
use Rattle.std.specs.Prelude.{◌≡◌, List, ℕ, length}
use Rattle.trees.specs.Trees.{Tree}
use Rattle.tables.specs.Adds.{Adds}
use Rattle.tables.specs.Bytes.{sign_ab, sign_ac, sign_bc, sign_fan}
use Rattle.tables.specs.Filled.{tree_byte}
use Rattle.groups.specs.Groups.{Drawn}
use Rattle.groups.specs.declared.Says.{Says}
use Rattle.groups.specs.declared.Says.TheVariants.{AB, AC, BC, Absent, Fan}

-- from t to t' every tree that is drawn so has said what it says of the triples from place lo on and before hi
pub record Stretch (whole : ℕ) (meets : List ℕ) (lo hi : ℕ) (t t' : List ℕ) : Type 0 where
  pub long : length t' ≡ length t
  pub bytes : (T : Tree) → Drawn T whole meets → Adds (tree_byte T) lo hi t t'

-- the bits of what a tree says of a triple
abbrev pub says_byte : Says → ℕ
says_byte AB = sign_ab
says_byte AC = sign_ac
says_byte BC = sign_bc
says_byte Fan = sign_fan
says_byte Absent = 0
