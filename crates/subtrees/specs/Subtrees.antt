-- What the readers of a subtree, of a bracket's list and of a whole text do, in the words of the scan.
use Rattle.std.specs.Prelude.{false, true, Result, Ok, Err, List, ◌∷◌, ◌≡◌, ℕ, suc, ◌-◌, ◌<◌, ◌≤◌, get_or, length, take}
use Rattle.bodies.specs.Nodes.{body_length, longest, most_nodes}
use Rattle.newick.specs.Form.{blank}
use Rattle.newick.specs.Scan.{Mode, State, behind, stuck, taken, scan, start, state, innermost}
use Rattle.numerals.specs.Goes.{Goes, Stops}
use Rattle.numerals.specs.declared.BadPlace.{BadPlace}
use Rattle.numerals.specs.declared.Got.{Got}

-- where a subtree or a list ended: behind place i, in the text, with no more nodes than there may be
abbrev pub Ahead : List ℕ → ℕ → Result Got BadPlace → Type 0
Ahead w i (Ok x) = (i < x.end) × (x.end ≤ length w) × (x.nodes ≤ most_nodes)
Ahead w i (Err q) = q.0 ≤ length w

-- no blank stands there
abbrev pub Solid : List ℕ → Result Got BadPlace → Type 0
Solid w (Ok x) = x.end < length w → blank (get_or w x.end 0) ≡ false
Solid w (Err q) = Unit {0}

-- the reading from place i in the state s: to the mode m, with the brackets ps open and the nodes that o begins with
abbrev pub ScansTo : List ℕ → State → ℕ → Mode → List ℕ → List ℕ → Result Got BadPlace → Type 0
ScansTo w s i m ps o (Ok x) = Goes w s i (state m ps x.nodes (take (body_length x.nodes) o)) x.end
ScansTo w s i m ps o (Err q) = Stops w s i q.0

-- a subtree from place i on, as node `count` under `parent` with `depth` brackets open; the draft held o and holds o'
pub record SubtreeRead (w : List ℕ) (i parent depth count : ℕ) (o o' : List ℕ) (r : Result Got BadPlace) : Type 0 where
  pub kept : length o' ≡ longest
  pub ahead : Ahead w i r
  pub solid : Solid w r
  pub reads : (ps : List ℕ) → length ps ≡ depth → innermost ps ≡ parent → ScansTo w (state start ps count (take (body_length count) o)) i (behind false) ps o' r

-- the list of a bracket whose node is `parent`, from behind the bracket on to behind the one that closes it
pub record ListRead (w : List ℕ) (i parent depth count : ℕ) (o o' : List ℕ) (r : Result Got BadPlace) : Type 0 where
  pub kept : length o' ≡ longest
  pub ahead : Ahead w i r
  pub reads : (ps : List ℕ) → suc (length ps) ≡ depth → ScansTo w (state start (parent ∷ ps) count (take (body_length count) o)) i (behind true) ps o' r

-- the whole text: the nodes that the draft o begins with, or the place that is refused
abbrev pub Whole : List ℕ → List ℕ → Result Got BadPlace → Type 0
Whole w o (Ok x) = (x.nodes ≤ most_nodes) × (scan w ≡ taken (take (body_length x.nodes) o))
Whole w o (Err q) = (q.0 ≤ length w) × (scan w ≡ stuck (length w - q.0))
