-- Reading a text byte by byte. That it takes exactly the texts of the form within the limits, and refuses the others at their place, is proved
-- (`proofs/Theorems.antt`).
use Rattle.std.specs.Prelude.{Bool, cond, true, false, ◌&&◌, ◌||◌, List, [], ◌∷◌, ◌++◌, ℕ, zero, suc, ◌+◌, ◌*◌, eqb, ltb, length}
use Rattle.bodies.specs.Nodes.{inner_bytes, leaf_bytes, most_nodes, none}
use Rattle.newick.specs.Signs.{Sign, sign, pick}

pub data Mode : Type 0 where
  -- a subtree must begin
  start : Mode
  -- in a species number, with this value so far
  number : ℕ → Mode
  -- behind a subtree: may a length come?
  behind : Bool → Mode
  -- behind a colon; in the digits of a length; behind its point; in the digits behind that
  due : Mode
  whole : Mode
  pointed : Mode
  parted : Mode
  -- behind the semicolon
  ended : Mode

-- the open brackets by their nodes, the innermost first; how many nodes there are; their bytes
pub data State : Type 0 where
  state : Mode → List ℕ → ℕ → List ℕ → State

pub data Move : Type 0 where
  halt : Move
  go : State → Move

-- the parent of the next node
abbrev pub innermost : List ℕ → ℕ
innermost [] = none
innermost (p ∷ ps) = p

-- a closing bracket, a comma and a semicolon, behind a subtree
abbrev pub shut : List ℕ → ℕ → List ℕ → Move
shut [] n d = halt
shut (p ∷ ps) n d = go (state (behind true) ps n d)

abbrev pub again : List ℕ → ℕ → List ℕ → Move
again [] n d = halt
again (p ∷ ps) n d = go (state start (p ∷ ps) n d)

abbrev pub finish : List ℕ → ℕ → List ℕ → Move
finish [] n d = go (state ended [] n d)
finish (p ∷ ps) n d = halt

-- a colon, behind a subtree
abbrev pub lengthy : Bool → List ℕ → ℕ → List ℕ → Move
lengthy true ps n d = go (state due ps n d)
lengthy false ps n d = halt

-- a further digit: nothing follows the digit 0
abbrev pub extended : ℕ → List ℕ → ℕ → List ℕ → ℕ → Move
extended zero ps n d x = halt
extended (suc v) ps n d x = go (state (number (10 * suc v + x)) ps n d)

-- behind a subtree; in the midst of a number a digit or a point leads to f x or q
abbrev pub past : (ℕ → Move) → Move → Bool → List ℕ → ℕ → List ℕ → Sign → Move
past f q l ps n d s = pick (go (state (behind l) ps n d)) f halt (shut ps n d) (again ps n d) (lengthy l ps n d) q (finish ps n d) halt s

-- one sign, limits aside
unfoldable pub act : State → Sign → Move
act (state start ps n d) s =
    pick (go (state start ps n d)) (λ x. go (state (number x) ps n d)) (go (state start (n ∷ ps) (suc n) (d ++ inner_bytes (innermost ps)))) halt halt halt halt halt halt s
act (state (number v) ps n d) s = past (extended v ps n d) halt true ps (suc n) (d ++ leaf_bytes (innermost ps) v) s
act (state (behind l) ps n d) s = past (λ x. halt) halt l ps n d s
act (state due ps n d) s = pick (go (state due ps n d)) (λ x. go (state whole ps n d)) halt halt halt halt halt halt halt s
act (state whole ps n d) s = past (λ x. go (state whole ps n d)) (go (state pointed ps n d)) false ps n d s
act (state pointed ps n d) s = pick halt (λ x. go (state parted ps n d)) halt halt halt halt halt halt halt s
act (state parted ps n d) s = past (λ x. go (state parted ps n d)) halt false ps n d s
act (state ended ps n d) s = pick (go (state ended ps n d)) (λ x. halt) halt halt halt halt halt halt halt s

-- "Limits: 63 open brackets, 127 nodes, species number 254": does this sign pass one?
unfoldable pub past_limit : State → Sign → Bool
past_limit (state start ps n d) s = pick false (λ x. eqb n most_nodes) (eqb (length ps) 63 || eqb n most_nodes) false false false false false false s
past_limit (state (number v) ps n d) s = pick false (λ x. ltb 254 (10 * v + x)) false false false false false false false s
past_limit (state (behind l) ps n d) s = false
past_limit (state due ps n d) s = false
past_limit (state whole ps n d) s = false
past_limit (state pointed ps n d) s = false
past_limit (state parted ps n d) s = false
past_limit (state ended ps n d) s = false

-- the body that was read, or how many bytes are left from the refused one on
pub data Scanned : Type 0 where
  taken : List ℕ → Scanned
  stuck : ℕ → Scanned

abbrev pub at_end : State → Scanned
at_end (state start ps n d) = stuck 0
at_end (state (number v) ps n d) = stuck 0
at_end (state (behind l) ps n d) = stuck 0
at_end (state due ps n d) = stuck 0
at_end (state whole ps n d) = stuck 0
at_end (state pointed ps n d) = stuck 0
at_end (state parted ps n d) = stuck 0
at_end (state ended ps n d) = taken d

-- goes on from a state by f; otherwise l bytes are left
abbrev pub follow : ℕ → (State → Scanned) → Move → Scanned
follow l f halt = stuck l
follow l f (go s) = f s

-- the reading from a state on; k: are the limits kept?
unfoldable pub scan_from : Bool → State → List ℕ → Scanned
scan_from k s [] = at_end s
scan_from k s (b ∷ w) = follow (suc (length w)) (λ s'. scan_from k s' w) (cond (k && past_limit s (sign b)) halt (act s (sign b)))

abbrev pub outset : State
outset = state start [] 0 []

-- what the text w comes to
abbrev pub scan : List ℕ → Scanned
scan w = scan_from true outset w
