-- A sign passes a limit exactly where the scan says so or the sign leads nowhere. Assumes nothing.
use mathlib.Core.Bool.{So, false, false≢true, true}
use mathlib.Core.List.{List}
use mathlib.Core.Logic.{◌⊎◌, inl, inr}
use mathlib.Core.Path.{◌∙◌, ◌≡◌, refl, subst, sym}
use Prim.Native.Nat.{ℕ, ◌+◌, ◌-◌, ◌*◌, ◌<◌, ◌≤◌}
use native.Mathlib.Omega.{arith}
use borrow.Author.Tests.{eq-eqb, eqb-true, leb-true, lt-ltb, ltb-true}
use lib.Dec.{eqb, leb}
use lib.ListN.{length}
use Rattle.sets.proofs.Bools.{and_r, or_case, or_l, or_r}
use Rattle.bodies.specs.Nodes.{most_nodes}
use Rattle.newick.specs.Form.{digit}
use Rattle.newick.specs.Place.{Spot, node_begins, blanked, elsewhere, figured, fresh, in_number, onward}
use Rattle.newick.specs.Scan.{State, act, behind, due, ended, go, number, past_limit, parted, pointed, start, state, halt, whole}
use Rattle.newick.specs.Signs.{Sign, closing, colon, comma, figure, foreign, opening, point, semicolon, sign, space}
use Rattle.newick.proofs.Signs.{Shows, shows}
use Rattle.newick.proofs.Onwards.{Onward, count_of, depth_of, in_by, out_by, spot_of}

-- the state keeps the limits
pub record Fits (s : State) : Type 0 where
  pub depth : depth_of s ≤ 63
  pub count : count_of s ≤ most_nodes
  pub number : (v : ℕ) → spot_of s ≡ in_number v → v ≤ 254

-- one sign on, a limit is passed
pub data PassesLimit (s : State) (g : Sign) : Type 0 where
  too_deep : 63 + out_by g < depth_of s + in_by g → PassesLimit s g
  too_many : most_nodes < count_of s + node_begins (spot_of s) g → PassesLimit s g
  too_large : (v : ℕ) → onward (spot_of s) g ≡ in_number v → 254 < v → PassesLimit s g

no : {A : Type 0} → false ≡ true → A
no e = absurd (false≢true e)

start-over : (ps : List ℕ) (n : ℕ) (d : List ℕ) (g : Sign) → past_limit (state start ps n d) g ≡ true → PassesLimit (state start ps n d) g
unfolding past_limit
start-over ps n d space h = no h
start-over ps n d (figure x) h = let e = eqb-true n most_nodes h in too_many (omega arith)
start-over ps n d opening h = or_case (eqb (length ps) 63) (eqb n most_nodes) h (λ u. let e = eqb-true (length ps) 63 u in too_deep (omega arith)) (λ u. let e = eqb-true n most_nodes u in too_many (omega arith))
start-over ps n d closing h = no h
start-over ps n d comma h = no h
start-over ps n d colon h = no h
start-over ps n d point h = no h
start-over ps n d semicolon h = no h
start-over ps n d foreign h = no h

number_passes : (v : ℕ) (ps : List ℕ) (n : ℕ) (d : List ℕ) (g : Sign) → past_limit (state (number v) ps n d) g ≡ true → PassesLimit (state (number v) ps n d) g
unfolding past_limit
number_passes v ps n d space h = no h
number_passes v ps n d (figure x) h = too_large (10 * v + x) refl (ltb-true 254 (10 * v + x) h)
number_passes v ps n d opening h = no h
number_passes v ps n d closing h = no h
number_passes v ps n d comma h = no h
number_passes v ps n d colon h = no h
number_passes v ps n d point h = no h
number_passes v ps n d semicolon h = no h
number_passes v ps n d foreign h = no h

-- where the scan says so, a limit is passed
pub past_passes : (s : State) (g : Sign) → past_limit s g ≡ true → PassesLimit s g
unfolding past_limit
past_passes (state start ps n d) g h = start-over ps n d g h
past_passes (state (number v) ps n d) g h = number_passes v ps n d g h
past_passes (state (behind l) ps n d) g h = no h
past_passes (state due ps n d) g h = no h
past_passes (state whole ps n d) g h = no h
past_passes (state pointed ps n d) g h = no h
past_passes (state parted ps n d) g h = no h
past_passes (state ended ps n d) g h = no h

-- the digits of a text are small
abbrev pub OneFigure : Sign → Type 0
OneFigure g = (x : ℕ) → g ≡ figure x → x ≤ 9

pub small : (c : ℕ) → OneFigure (sign c)
small c x e =
    let s : So (digit c) × (x ≡ c - 48) = subst (Shows c) e (shows c) in
    let hi : c ≤ 57 = leb-true c 57 (and_r (leb 48 c) (leb c 57) s.0) in
    omega (arith, s.1)

-- a sign is refused: a limit is passed, or it leads nowhere
abbrev pub Refused : State → Sign → Type 0
Refused s g = (past_limit s g ≡ true) ⊎ (act s g ≡ halt)

deep_refused : (s : State) → depth_of s ≡ 63 → Refused s opening
unfolding past_limit act
deep_refused (state start ps n d) e = inl (or_l (eqb (length ps) 63) (eqb n most_nodes) (eq-eqb (length ps) 63 e))
deep_refused (state (number v) ps n d) e = inr refl
deep_refused (state (behind l) ps n d) e = inr refl
deep_refused (state due ps n d) e = inr refl
deep_refused (state whole ps n d) e = inr refl
deep_refused (state pointed ps n d) e = inr refl
deep_refused (state parted ps n d) e = inr refl
deep_refused (state ended ps n d) e = inr refl

deep_by : (s : State) (g : Sign) → depth_of s ≤ 63 → 63 + out_by g < depth_of s + in_by g → Refused s g
deep_by s space f h = absurd (omega arith)
deep_by s (figure x) f h = absurd (omega arith)
deep_by s opening f h = deep_refused s (omega arith)
deep_by s closing f h = absurd (omega arith)
deep_by s comma f h = absurd (omega arith)
deep_by s colon f h = absurd (omega arith)
deep_by s point f h = absurd (omega arith)
deep_by s semicolon f h = absurd (omega arith)
deep_by s foreign f h = absurd (omega arith)

many_start : (ps : List ℕ) (n : ℕ) (d : List ℕ) (g : Sign) → n ≤ most_nodes → most_nodes < n + node_begins fresh g → Refused (state start ps n d) g
unfolding past_limit
many_start ps n d space f h = absurd (omega arith)
many_start ps n d (figure x) f h = inl (eq-eqb n most_nodes (omega arith))
many_start ps n d opening f h = inl (or_r (eqb (length ps) 63) (eqb n most_nodes) (eq-eqb n most_nodes (omega arith)))
many_start ps n d closing f h = absurd (omega arith)
many_start ps n d comma f h = absurd (omega arith)
many_start ps n d colon f h = absurd (omega arith)
many_start ps n d point f h = absurd (omega arith)
many_start ps n d semicolon f h = absurd (omega arith)
many_start ps n d foreign f h = absurd (omega arith)

many_by : (s : State) (g : Sign) → count_of s ≤ most_nodes → most_nodes < count_of s + node_begins (spot_of s) g → Refused s g
many_by (state start ps n d) g f h = many_start ps n d g f h
many_by (state (number v) ps n d) g f h = absurd (omega arith)
many_by (state (behind l) ps n d) g f h = absurd (omega arith)
many_by (state due ps n d) g f h = absurd (omega arith)
many_by (state whole ps n d) g f h = absurd (omega arith)
many_by (state pointed ps n d) g f h = absurd (omega arith)
many_by (state parted ps n d) g f h = absurd (omega arith)
many_by (state ended ps n d) g f h = absurd (omega arith)

outside : {A : Type 0} {v : ℕ} → elsewhere ≡ in_number v → A
outside e = absurd (let z : ◌≡◌ {A = ℕ} 0 1 = cc in omega arith)

not_fresh : {A : Type 0} {v : ℕ} → fresh ≡ in_number v → A
not_fresh e = absurd (let z : ◌≡◌ {A = ℕ} 0 1 = cc in omega arith)

blanked_out : {A : Type 0} {v : ℕ} (p : Spot) → blanked p ≡ in_number v → A
blanked_out fresh e = not_fresh e
blanked_out (in_number u) e = outside e
blanked_out elsewhere e = outside e

large_digit : (s : State) (x v : ℕ) → x ≤ 9 → figured x (spot_of s) ≡ in_number v → 254 < v → Refused s (figure x)
unfolding past_limit
large_digit (state start ps n d) x v k e h = let z : x ≡ v = cc in absurd (omega arith)
large_digit (state (number u) ps n d) x v k e h = let z : 10 * u + x ≡ v = cc in inl (lt-ltb 254 (10 * u + x) (omega arith))
large_digit (state (behind l) ps n d) x v k e h = outside e
large_digit (state due ps n d) x v k e h = outside e
large_digit (state whole ps n d) x v k e h = outside e
large_digit (state pointed ps n d) x v k e h = outside e
large_digit (state parted ps n d) x v k e h = outside e
large_digit (state ended ps n d) x v k e h = outside e

large_by : (s : State) (g : Sign) (v : ℕ) → OneFigure g → onward (spot_of s) g ≡ in_number v → 254 < v → Refused s g
large_by s space v k e h = blanked_out (spot_of s) e
large_by s (figure x) v k e h = large_digit s x v (k x refl) e h
large_by s opening v k e h = not_fresh e
large_by s closing v k e h = outside e
large_by s comma v k e h = not_fresh e
large_by s colon v k e h = outside e
large_by s point v k e h = outside e
large_by s semicolon v k e h = outside e
large_by s foreign v k e h = outside e

-- where a limit is passed, the scan refuses the sign
pub passes_refused : (s : State) (g : Sign) → Fits s → OneFigure g → PassesLimit s g → Refused s g
passes_refused s g f k (too_deep h) = deep_by s g f.depth h
passes_refused s g f k (too_many h) = many_by s g f.count h
passes_refused s g f k (too_large v e h) = large_by s g v k e h

-- where none is, the next state keeps them
pub fits_on : (s s' : State) (g : Sign) → (PassesLimit s g → ⊥) → Onward (spot_of s) (depth_of s) (count_of s) g (go s') → Fits s'
fits_on s s' g f o = record {
  depth = at_most 63 (depth_of s') (λ h. f (too_deep (omega (arith, o.1))));
  count = at_most most_nodes (count_of s') (λ h. f (too_many (omega (arith, o.2))));
  number = λ v e. at_most 254 v (λ h. f (too_large v (sym o.0 ∙ e) h));
}
  where
    at_most : (k m : ℕ) → (k < m → ⊥) → m ≤ k
    at_most k m h = omega arith
