-- What the readers of blanks, digits, numbers and lengths do, in the words of the scan: from a place and a state to a place and a state, or to a refusal.
use Rattle.std.specs.Prelude.{false, true, Result, Ok, Err, List, ◌++◌, ◌≡◌, ℕ, suc, ◌-◌, ◌<◌, ◌≤◌, drop, get_or, length}
use Rattle.bodies.specs.Nodes.{leaf_bytes, most_nodes}
use Rattle.newick.specs.Form.{blank, digit}
use Rattle.newick.specs.Scan.{State, act, stuck, behind, go, past_limit, scan_from, start, state, innermost, whole}
use Rattle.newick.specs.Signs.{figure, space}
use Rattle.numerals.specs.declared.BadPlace.{BadPlace}
use Rattle.numerals.specs.declared.Got.{Got}
use Rattle.numerals.specs.declared.Numeral.{Numeral}

-- reading w from place i in the state s is reading it from place j in the state s'; or it is refused at place q
abbrev pub Goes : List ℕ → State → ℕ → State → ℕ → Type 0
Goes w s i s' j = scan_from true s (drop i w) ≡ scan_from true s' (drop j w)

abbrev pub Stops : List ℕ → State → ℕ → ℕ → Type 0
Stops w s i q = scan_from true s (drop i w) ≡ stuck (length w - q)

-- a blank, or any digit, leaves the state as it is
abbrev pub IdleOnBlanks : State → Type 0
IdleOnBlanks s = (act s space ≡ go s) × (past_limit s space ≡ false)

abbrev pub IdleOnDigits : State → Type 0
IdleOnDigits s = (x : ℕ) → (act s (figure x) ≡ go s) × (past_limit s (figure x) ≡ false)

-- the blanks from place i on end at place r
pub record PastBlanks (w : List ℕ) (i r : ℕ) : Type 0 where
  pub ahead : i ≤ r
  pub within : r ≤ length w
  pub goes : (s : State) → IdleOnBlanks s → Goes w s i s r
  pub solid : r < length w → blank (get_or w r 0) ≡ false

-- the digits from place i on end at place r
pub record PastDigits (w : List ℕ) (i r : ℕ) : Type 0 where
  pub ahead : i ≤ r
  pub within : r ≤ length w
  pub goes : (s : State) → IdleOnDigits s → Goes w s i s r
  pub clear : r < length w → digit (get_or w r 0) ≡ false

-- a species number from place i on, as a node with fewer than 127 before it
abbrev pub Numbered : List ℕ → ℕ → Result Numeral BadPlace → Type 0
Numbered w i (Ok x) =
    (i < x.end) × (x.end ≤ length w)
    × ((ps : List ℕ) (n : ℕ) (d : List ℕ) → n < most_nodes → Goes w (state start ps n d) i (state (behind true) ps (suc n) (d ++ leaf_bytes (innermost ps) x.value)) x.end)
Numbered w i (Err q) = (q.0 ≤ length w) × ((ps : List ℕ) (n : ℕ) (d : List ℕ) → n < most_nodes → Stops w (state start ps n d) i q.0)

-- a length or none, and the blanks behind it
abbrev pub Branched : List ℕ → ℕ → ℕ → Result Got BadPlace → Type 0
Branched w i k (Ok x) =
    (i ≤ x.end) × (x.end ≤ length w) × (x.nodes ≡ k) × (x.end < length w → blank (get_or w x.end 0) ≡ false)
    × ((ps : List ℕ) (n : ℕ) (d : List ℕ) → Goes w (state (behind true) ps n d) i (state (behind false) ps n d) x.end)
Branched w i k (Err q) = (q.0 ≤ length w) × ((ps : List ℕ) (n : ℕ) (d : List ℕ) → Stops w (state (behind true) ps n d) i q.0)

-- the same from behind the digits of a length on
abbrev pub Parted : List ℕ → ℕ → ℕ → Result Got BadPlace → Type 0
Parted w i k (Ok x) =
    (i ≤ x.end) × (x.end ≤ length w) × (x.nodes ≡ k) × (x.end < length w → blank (get_or w x.end 0) ≡ false)
    × ((ps : List ℕ) (n : ℕ) (d : List ℕ) → Goes w (state whole ps n d) i (state (behind false) ps n d) x.end)
Parted w i k (Err q) = (q.0 ≤ length w) × ((ps : List ℕ) (n : ℕ) (d : List ℕ) → Stops w (state whole ps n d) i q.0)
