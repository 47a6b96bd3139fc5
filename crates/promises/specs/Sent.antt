-- From any papers to a tree that may be sent: the veto build, then loosening, then the check, by what each gives of the one before it.
use Rattle.std.specs.Prelude.{List, [], ◌∷◌, ◌≡◌, ℕ, ◌≤◌, length}
use Rattle.bodies.specs.Nodes.{longest}
use Rattle.refusals.specs.Told.{dropped_count, looked_count, number_of_nodes, told, value}
use Rattle.promises.specs.Operations.{Given, Operations}
use Rattle.promises.specs.Inputs.{Buildable}
use Rattle.promises.specs.Demand2.{front}

-- g is what the veto build gave of the table t of n species; in a room o and a list d it is loosened, and what is left passes the check
pub record Sent (L : Operations) (n : ℕ) (t o d : List ℕ) (g : Given) : Type 0 where
  pub nodes : ℕ
  pub looked : ℕ
  pub built : g.told ≡ told 0 (value number_of_nodes nodes ∷ value looked_count looked ∷ [])
  pub left : ℕ
  pub dropped : ℕ
  pub loosened : (L.loosen n t (front nodes g.after) o d).told ≡ told 0 (value number_of_nodes left ∷ value dropped_count dropped ∷ [])
  pub passes : L.check n t (front left (L.loosen n t (front nodes g.after) o d).after.room) ≡ told 0 []

-- to all that a build takes, whatever was entered; the second room holds the longest body, and the list has 62 places
abbrev pub AnyPapers : Operations → Type 0
AnyPapers L = (n s : ℕ) (t o o' d : List ℕ) → Buildable n s t o → longest ≤ length o' → 62 ≤ length d → Sent L n t o' d (L.veto n s t o)
