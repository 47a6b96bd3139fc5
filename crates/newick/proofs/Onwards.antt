-- What a state knows of the bytes before it: where the text has got to, how many brackets are open, how many nodes have begun. Assumes nothing.
use mathlib.Core.Bool.{Bool, false, true}
use mathlib.Core.List.{List, [], ◌∷◌}
use mathlib.Core.Path.{◌≡◌, refl, sym}
use Prim.Native.Nat.{ℕ, zero, suc, ◌+◌}
use native.Mathlib.Omega.{arith}
use lib.ListN.{length}
use Rattle.newick.specs.Place.{Spot, node_begins, blanked, elsewhere, fresh, in_number, onward}
use Rattle.newick.specs.Scan.{Move, State, act, again, behind, due, ended, extended, finish, go, lengthy, number, parted, past, pointed, shut, start, state, halt, whole}
use Rattle.newick.specs.Signs.{Sign, closing, colon, comma, figure, foreign, opening, pick, point, semicolon, space}

-- where the text has got to
abbrev pub spot_of : State → Spot
spot_of (state start ps n d) = fresh
spot_of (state (number v) ps n d) = in_number v
spot_of (state (behind l) ps n d) = elsewhere
spot_of (state due ps n d) = elsewhere
spot_of (state whole ps n d) = elsewhere
spot_of (state pointed ps n d) = elsewhere
spot_of (state parted ps n d) = elsewhere
spot_of (state ended ps n d) = elsewhere

-- how many brackets are open
abbrev pub depth_of : State → ℕ
depth_of (state m ps n d) = length ps

-- how many nodes have begun
abbrev pub count_of : State → ℕ
count_of (state start ps n d) = n
count_of (state (number v) ps n d) = suc n
count_of (state (behind l) ps n d) = n
count_of (state due ps n d) = n
count_of (state whole ps n d) = n
count_of (state pointed ps n d) = n
count_of (state parted ps n d) = n
count_of (state ended ps n d) = n

-- 1 for an opening bracket, and for a closing one
abbrev pub in_by : Sign → ℕ
in_by g = pick 0 (λ x. 0) 1 0 0 0 0 0 0 g

abbrev pub out_by : Sign → ℕ
out_by g = pick 0 (λ x. 0) 0 1 0 0 0 0 0 g

-- one sign on, from the spot p with k brackets open and m nodes begun
abbrev pub Onward : Spot → ℕ → ℕ → Sign → Move → Type 0
Onward p k m g halt = Unit {0}
Onward p k m g (go s) = (spot_of s ≡ onward p g) × (depth_of s + out_by g ≡ k + in_by g) × (count_of s ≡ m + node_begins p g)

module _ (p : Spot) (b : blanked p ≡ elsewhere) (z : (g : Sign) → node_begins p g ≡ 0) where
  shut_on : (ps : List ℕ) (n : ℕ) (d : List ℕ) → Onward p (length ps) n closing (shut ps n d)
  shut_on [] n d = tt
  shut_on (q ∷ ps) n d = (refl, omega arith, omega (arith, z closing))

  again_on : (ps : List ℕ) (n : ℕ) (d : List ℕ) → Onward p (length ps) n comma (again ps n d)
  again_on [] n d = tt
  again_on (q ∷ ps) n d = (refl, omega arith, omega (arith, z comma))

  finish_on : (ps : List ℕ) (n : ℕ) (d : List ℕ) → Onward p (length ps) n semicolon (finish ps n d)
  finish_on [] n d = (refl, omega arith, omega (arith, z semicolon))
  finish_on (q ∷ ps) n d = tt

  lengthy_on : (l : Bool) (ps : List ℕ) (n : ℕ) (d : List ℕ) → Onward p (length ps) n colon (lengthy l ps n d)
  lengthy_on true ps n d = (refl, omega arith, omega (arith, z colon))
  lengthy_on false ps n d = tt

  -- behind a subtree, or in the midst of a number
  past_on : (f : ℕ → Move) (q : Move) (l : Bool) (ps : List ℕ) (n : ℕ) (d : List ℕ) → ((x : ℕ) → Onward p (length ps) n (figure x) (f x)) → Onward p (length ps) n point q
      → (g : Sign) → Onward p (length ps) n g (past f q l ps n d g)
  past_on f q l ps n d u v space = (sym b, omega arith, omega (arith, z space))
  past_on f q l ps n d u v (figure x) = u x
  past_on f q l ps n d u v opening = tt
  past_on f q l ps n d u v closing = shut_on ps n d
  past_on f q l ps n d u v comma = again_on ps n d
  past_on f q l ps n d u v colon = lengthy_on l ps n d
  past_on f q l ps n d u v point = v
  past_on f q l ps n d u v semicolon = finish_on ps n d
  past_on f q l ps n d u v foreign = tt

extended_on : (v : ℕ) (ps : List ℕ) (n : ℕ) (d : List ℕ) (x : ℕ) → Onward (in_number v) (length ps) (suc n) (figure x) (extended v ps n d x)
extended_on zero ps n d x = tt
extended_on (suc v) ps n d x = (refl, omega arith, omega arith)

start_on : (ps : List ℕ) (n : ℕ) (d : List ℕ) (g : Sign) → Onward fresh (length ps) n g (act (state start ps n d) g)
unfolding act
start_on ps n d space = (refl, omega arith, omega arith)
start_on ps n d (figure x) = (refl, omega arith, omega arith)
start_on ps n d opening = (refl, omega arith, omega arith)
start_on ps n d closing = tt
start_on ps n d comma = tt
start_on ps n d colon = tt
start_on ps n d point = tt
start_on ps n d semicolon = tt
start_on ps n d foreign = tt

due_on : (ps : List ℕ) (n : ℕ) (d : List ℕ) (g : Sign) → Onward elsewhere (length ps) n g (act (state due ps n d) g)
unfolding act
due_on ps n d space = (refl, omega arith, omega arith)
due_on ps n d (figure x) = (refl, omega arith, omega arith)
due_on ps n d opening = tt
due_on ps n d closing = tt
due_on ps n d comma = tt
due_on ps n d colon = tt
due_on ps n d point = tt
due_on ps n d semicolon = tt
due_on ps n d foreign = tt

pointed_on : (ps : List ℕ) (n : ℕ) (d : List ℕ) (g : Sign) → Onward elsewhere (length ps) n g (act (state pointed ps n d) g)
unfolding act
pointed_on ps n d space = tt
pointed_on ps n d (figure x) = (refl, omega arith, omega arith)
pointed_on ps n d opening = tt
pointed_on ps n d closing = tt
pointed_on ps n d comma = tt
pointed_on ps n d colon = tt
pointed_on ps n d point = tt
pointed_on ps n d semicolon = tt
pointed_on ps n d foreign = tt

ended_on : (ps : List ℕ) (n : ℕ) (d : List ℕ) (g : Sign) → Onward elsewhere (length ps) n g (act (state ended ps n d) g)
unfolding act
ended_on ps n d space = (refl, omega arith, omega arith)
ended_on ps n d (figure x) = tt
ended_on ps n d opening = tt
ended_on ps n d closing = tt
ended_on ps n d comma = tt
ended_on ps n d colon = tt
ended_on ps n d point = tt
ended_on ps n d semicolon = tt
ended_on ps n d foreign = tt

-- each sign keeps what the state knows
pub act_on : (s : State) (g : Sign) → Onward (spot_of s) (depth_of s) (count_of s) g (act s g)
unfolding act
act_on (state start ps n d) g = start_on ps n d g
act_on (state (number v) ps n d) g = past_on (in_number v) refl (λ g. refl) (extended v ps n d) halt true ps (suc n) _ (extended_on v ps n d) tt g
act_on (state (behind l) ps n d) g = past_on elsewhere refl (λ g. refl) (λ x. halt) halt l ps n d (λ x. tt) tt g
act_on (state due ps n d) g = due_on ps n d g
act_on (state whole ps n d) g =
    past_on elsewhere refl (λ g. refl) (λ x. go (state whole ps n d)) (go (state pointed ps n d)) false ps n d (λ x. (refl, omega arith, omega arith)) (refl, omega arith, omega arith) g
act_on (state pointed ps n d) g = pointed_on ps n d g
act_on (state parted ps n d) g = past_on elsewhere refl (λ g. refl) (λ x. go (state parted ps n d)) halt false ps n d (λ x. (refl, omega arith, omega arith)) tt g
act_on (state ended ps n d) g = ended_on ps n d g
