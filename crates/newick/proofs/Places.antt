-- The scan refuses at the place of refusal 14, and takes all other texts. Assumes nothing.
use mathlib.Core.Bool.{Bool, cond, false, false≢true, true}
use mathlib.Core.List.{List, [], ◌∷◌, ◌++◌}
use mathlib.Core.Logic.{◌⊎◌, inl, inr}
use mathlib.Core.Path.{◌∙◌, ◌≡◌, ap, refl, subst, sym}
use Prim.Native.Nat.{ℕ, zero, suc, ◌+◌, ◌<◌}
use native.Mathlib.Omega.{arith}
use lib.ListN.{length, take}
use Rattle.bodies.specs.Nodes.{most_nodes}
use Rattle.newick.specs.Place.{nodes_begun, closes, in_number, opens, spot}
use Rattle.newick.specs.Scan.{Move, Scanned, State, act, at_end, stuck, behind, due, ended, follow, go, taken, number, past_limit, parted, pointed, scan_from, start, state, halt, whole}
use Rattle.newick.specs.Signs.{Sign, sign}
use Rattle.newick.proofs.Limits.{Fits, PassesLimit, OneFigure, fits_on, past_passes, passes_refused, small, too_deep, too_large, too_many}
use Rattle.newick.proofs.Onwards.{Onward, act_on, count_of, depth_of, spot_of}
use Rattle.newick.proofs.Signs.{none_goes, one}

never : {A : Type 0} {l : ℕ} {b : List ℕ} → stuck l ≡ taken b → A
never e = absurd (let z : ◌≡◌ {A = ℕ} 0 1 = cc in omega arith)

-- ---- whatever is not refused can be completed to a text that is taken

closers : List ℕ → List ℕ
closers [] = 59 ∷ []
closers (p ∷ ps) = 41 ∷ closers ps

closers_taken : (ps : List ℕ) (l : Bool) (n : ℕ) (d : List ℕ) → scan_from false (state (behind l) ps n d) (closers ps) ≡ taken d
unfolding closers scan_from act past_limit sign
closers_taken [] l n d = refl
closers_taken (p ∷ ps) l n d = closers_taken ps true n d

number_closed : (v : ℕ) (ps : List ℕ) (n : ℕ) (d : List ℕ) → (b : List ℕ) × (scan_from false (state (number v) ps n d) (closers ps) ≡ taken b)
unfolding closers scan_from act past_limit sign
number_closed v [] n d = (_, refl)
number_closed v (p ∷ ps) n d = (_, closers_taken ps true _ _)

whole_closed : (ps : List ℕ) (n : ℕ) (d : List ℕ) → scan_from false (state whole ps n d) (closers ps) ≡ taken d
unfolding closers scan_from act past_limit sign
whole_closed [] n d = refl
whole_closed (p ∷ ps) n d = closers_taken ps true n d

parted_closed : (ps : List ℕ) (n : ℕ) (d : List ℕ) → scan_from false (state parted ps n d) (closers ps) ≡ taken d
unfolding closers scan_from act past_limit sign
parted_closed [] n d = refl
parted_closed (p ∷ ps) n d = closers_taken ps true n d

pub completes : (s : State) → (v b : List ℕ) × (scan_from false s v ≡ taken b)
unfolding scan_from act past_limit sign
completes (state start ps n d) = let c = number_closed 0 ps n d in (48 ∷ closers ps, c.0, c.1)
completes (state (number v) ps n d) = let c = number_closed v ps n d in (closers ps, c.0, c.1)
completes (state (behind l) ps n d) = (closers ps, d, closers_taken ps l n d)
completes (state due ps n d) = (48 ∷ closers ps, d, whole_closed ps n d)
completes (state whole ps n d) = (closers ps, d, whole_closed ps n d)
completes (state pointed ps n d) = (48 ∷ closers ps, d, parted_closed ps n d)
completes (state parted ps n d) = (closers ps, d, parted_closed ps n d)
completes (state ended ps n d) = ([], d, refl)

-- ---- what can be wrong at place q of the text w, read from the state s on

pub data WrongFrom (s : State) (w : List ℕ) (q : ℕ) : Type 0 where
  stray : q < length w → ((v b : List ℕ) → scan_from false s (take (suc q) w ++ v) ≡ taken b → ⊥) → WrongFrom s w q
  early : q ≡ length w → ((b : List ℕ) → scan_from false s w ≡ taken b → ⊥) → WrongFrom s w q
  deep : q < length w → 63 + closes (take (suc q) w) < depth_of s + opens (take (suc q) w) → WrongFrom s w q
  many : q < length w → most_nodes < count_of s + nodes_begun (spot_of s) (take (suc q) w) → WrongFrom s w q
  large : (v : ℕ) → q < length w → spot (spot_of s) (take (suc q) w) ≡ in_number v → 254 < v → WrongFrom s w q

-- at the first byte
passed_first : (s : State) (c : ℕ) (w : List ℕ) → PassesLimit s (sign c) → WrongFrom s (c ∷ w) 0
unfolding nodes_begun spot
passed_first s c w (too_deep h) = deep (omega arith) (omega arith)
passed_first s c w (too_many h) = many (omega arith) (omega arith)
passed_first s c w (too_large v e h) = large v (omega arith) e h

stray_first : (s : State) (c : ℕ) (w : List ℕ) → act s (sign c) ≡ halt → WrongFrom s (c ∷ w) 0
stray_first s c w e = stray (omega arith) (λ v b h. never (sym (none_goes s c v e) ∙ h))

first_fine : (s s' : State) (c : ℕ) (w : List ℕ) → act s (sign c) ≡ go s' → (PassesLimit s (sign c) → ⊥) → WrongFrom s (c ∷ w) 0 → ⊥
unfolding nodes_begun spot
first_fine s s' c w e f (stray l h) = let k = completes s' in h k.0 k.1 (one s s' c k.0 e ∙ k.2)
first_fine s s' c w e f (early l h) = omega arith
first_fine s s' c w e f (deep l h) = f (too_deep (omega arith))
first_fine s s' c w e f (many l h) = f (too_many (omega arith))
first_fine s s' c w e f (large v l k h) = f (too_large v k h)

-- at a later byte
module _ (s s' : State) (c : ℕ) (w : List ℕ) (e : act s (sign c) ≡ go s') (o : Onward (spot_of s) (depth_of s) (count_of s) (sign c) (go s')) where
  later : (q : ℕ) → WrongFrom s' w q → WrongFrom s (c ∷ w) (suc q)
  unfolding nodes_begun spot
  later q (stray l h) = stray (omega arith) (λ v b g. h v b (sym (one s s' c (take (suc q) w ++ v) e) ∙ g))
  later q (early l h) = early (omega arith) (λ b g. h b (sym (one s s' c w e) ∙ g))
  later q (deep l h) = deep (omega arith) (omega (arith, o.1))
  later q (many l h) = many (omega arith) (let z = ap (λ p. nodes_begun p (take (suc q) w)) o.0 in omega (arith, o.2))
  later q (large v l k h) = large v (omega arith) (ap (λ p. spot p (take (suc q) w)) (sym o.0) ∙ k) h

  sooner : (q : ℕ) → WrongFrom s (c ∷ w) (suc q) → WrongFrom s' w q
  unfolding nodes_begun spot
  sooner q (stray l h) = stray (omega arith) (λ v b g. h v b (one s s' c (take (suc q) w ++ v) e ∙ g))
  sooner q (early l h) = early (omega arith) (λ b g. h b (one s s' c w e ∙ g))
  sooner q (deep l h) = deep (omega arith) (omega (arith, o.1))
  sooner q (many l h) = many (omega arith) (let z = ap (λ p. nodes_begun p (take (suc q) w)) o.0 in omega (arith, o.2))
  sooner q (large v l k h) = large v (omega arith) (ap (λ p. spot p (take (suc q) w)) o.0 ∙ k) h

-- ---- what a reading comes to

abbrev pub Ending : State → List ℕ → Scanned → Type 0
Ending s w (taken b) = (scan_from false s w ≡ taken b) × ((q : ℕ) → WrongFrom s w q → ⊥)
Ending s w (stuck l) = (q : ℕ) × (q + l ≡ length w) × WrongFrom s w q × ((j : ℕ) → j < q → WrongFrom s w j → ⊥)

-- nothing left to read
unended : (s : State) → at_end s ≡ stuck 0 → Ending s [] (stuck 0)
unfolding scan_from
unended s e = (0, omega arith, early refl (λ b h. never (sym e ∙ h)), λ j l. absurd (omega arith))

ended_fine : (ps : List ℕ) (n : ℕ) (d : List ℕ) (q : ℕ) → WrongFrom (state ended ps n d) [] q → ⊥
unfolding scan_from
ended_fine ps n d q (stray l h) = omega arith
ended_fine ps n d q (early l h) = h d refl
ended_fine ps n d q (deep l h) = omega arith
ended_fine ps n d q (many l h) = omega arith
ended_fine ps n d q (large v l k h) = omega arith

nothing_left : (s : State) → Ending s [] (at_end s)
unfolding scan_from
nothing_left (state start ps n d) = unended (state start ps n d) refl
nothing_left (state (number v) ps n d) = unended (state (number v) ps n d) refl
nothing_left (state (behind l) ps n d) = unended (state (behind l) ps n d) refl
nothing_left (state due ps n d) = unended (state due ps n d) refl
nothing_left (state whole ps n d) = unended (state whole ps n d) refl
nothing_left (state pointed ps n d) = unended (state pointed ps n d) refl
nothing_left (state parted ps n d) = unended (state parted ps n d) refl
nothing_left (state ended ps n d) = (refl, ended_fine ps n d)

-- refused at the first byte
at_first : (s : State) (c : ℕ) (w : List ℕ) → WrongFrom s (c ∷ w) 0 → Ending s (c ∷ w) (stuck (suc (length w)))
at_first s c w h = (0, omega arith, h, λ j l. absurd (omega arith))

-- one byte on
outcome_on : (s s' : State) (c : ℕ) (w : List ℕ) → act s (sign c) ≡ go s' → (PassesLimit s (sign c) → ⊥) → Onward (spot_of s) (depth_of s) (count_of s) (sign c) (go s')
    → (r : Scanned) → Ending s' w r → Ending s (c ∷ w) r
outcome_on s s' c w e f o (taken b) h = (one s s' c w e ∙ h.0, fine)
  where
    fine : (q : ℕ) → WrongFrom s (c ∷ w) q → ⊥
    fine zero k = first_fine s s' c w e f k
    fine (suc q) k = h.1 q (sooner s s' c w e o q k)
outcome_on s s' c w e f o (stuck l) h = (suc h.0, omega (arith, h.1), later s s' c w e o h.0 h.2, fine)
  where
    fine : (j : ℕ) → j < suc h.0 → WrongFrom s (c ∷ w) j → ⊥
    fine zero z k = first_fine s s' c w e f k
    fine (suc j) z k = h.3 j (omega arith) (sooner s s' c w e o j k)

no_pass : (s s' : State) (g : Sign) → Fits s → OneFigure g → past_limit s g ≡ false → act s g ≡ go s' → PassesLimit s g → ⊥
no_pass s s' g f k v e p = by (passes_refused s g f k p)
  where
    by : (past_limit s g ≡ true) ⊎ (act s g ≡ halt) → ⊥
    by (inl t) = false≢true (sym v ∙ t)
    by (inr t) = let z : ◌≡◌ {A = ℕ} 0 1 = cc in omega arith

pub ending : (w : List ℕ) (s : State) → Fits s → Ending s w (scan_from true s w)
unfolding scan_from
ending [] s f = nothing_left s
ending (c ∷ w) s f = by (past_limit s (sign c)) refl (act s (sign c)) refl (λ s' f'. ending w s' f')
  where
    by : (o : Bool) → past_limit s (sign c) ≡ o → (x : Move) → act s (sign c) ≡ x → ((s' : State) → Fits s' → Ending s' w (scan_from true s' w))
        → Ending s (c ∷ w) (follow (suc (length w)) (λ s'. scan_from true s' w) (cond o halt x))
    by true o x e ih = at_first s c w (passed_first s c w (past_passes s (sign c) o))
    by false o halt e ih = at_first s c w (stray_first s c w e)
    by false o (go s') e ih =
        let p = no_pass s s' (sign c) f (small c) o e in
        let m = subst (Onward (spot_of s) (depth_of s) (count_of s) (sign c)) e (act_on s (sign c)) in
        outcome_on s s' c w e p m (scan_from true s' w) (ih s' (fits_on s s' (sign c) p m))
