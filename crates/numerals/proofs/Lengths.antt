-- A number, a length and what stands behind a subtree, over the places of a text. Assumes nothing.
use mathlib.Core.Bool.{Bool, So, false, false≢true, true}
use mathlib.Core.List.{List, ◌++◌}
use mathlib.Core.Logic.{◌⊎◌, inl, inr}
use mathlib.Core.Path.{◌∙◌, ◌≡◌, ap, refl, subst, sym}
use Prim.Native.Nat.{ℕ, zero, suc, ◌+◌, ◌-◌, ◌*◌, ◌<◌, ◌≤◌}
use native.Mathlib.Decide.{dec_lt}
use native.Mathlib.Omega.{arith}
use borrow.Author.Tests.{le-ltb, lt-ltb, ne_eqb}
use lib.ListN.{get_or, length}
use Rattle.bodies.specs.Nodes.{leaf_bytes, most_nodes}
use Rattle.newick.specs.Form.{blank, digit}
use Rattle.newick.specs.Scan.{State, act, behind, due, ended, go, number, past_limit, parted, pointed, start, state, innermost, whole}
use Rattle.newick.specs.Signs.{Sign, closing, colon, comma, figure, foreign, opening, point, semicolon, sign, space}
use Rattle.newick.proofs.Signs.{Shows, digit-sign, shows}
use Rattle.numerals.specs.Goes.{Branched, Goes, IdleOnBlanks, IdleOnDigits, Parted, Stops}
use Rattle.std.proofs.Common.{Result, Ok, Err}
use Rattle.numerals.specs.declared.BadPlace.{BadPlace}
use Rattle.numerals.specs.declared.Got.{Got}
use Rattle.numerals.proofs.Steps.{Off, digit_on, goes_as, goes_off, goes_on, goes_out}

-- ---- what a byte is not

abbrev pub NotFigure : Sign → Type 0
NotFigure g = (x : ℕ) → g ≡ figure x → ⊥

pub not_figure : (b : ℕ) → digit b ≡ false → NotFigure (sign b)
not_figure b h x e = let s : So (digit b) × (x ≡ b - 48) = subst (Shows b) e (shows b) in false≢true (sym h ∙ s.0)

pub not_space : (b : ℕ) → blank b ≡ false → sign b ≡ space → ⊥
not_space b h e = let s : So (blank b) = subst (Shows b) e (shows b) in false≢true (sym h ∙ s)

pub not_point : (b : ℕ) → (b ≡ 46 → ⊥) → sign b ≡ point → ⊥
not_point b h e = h (subst (Shows b) e (shows b))

pub not_colon : (b : ℕ) → (b ≡ 58 → ⊥) → sign b ≡ colon → ⊥
not_colon b h e = h (subst (Shows b) e (shows b))

pub not_opening : (b : ℕ) → (b ≡ 40 → ⊥) → sign b ≡ opening → ⊥
not_opening b h e = h (subst (Shows b) e (shows b))

pub not-closing : (b : ℕ) → (b ≡ 41 → ⊥) → sign b ≡ closing → ⊥
not-closing b h e = h (subst (Shows b) e (shows b))

pub not_comma : (b : ℕ) → (b ≡ 44 → ⊥) → sign b ≡ comma → ⊥
not_comma b h e = h (subst (Shows b) e (shows b))

pub not_semicolon : (b : ℕ) → (b ≡ 59 → ⊥) → sign b ≡ semicolon → ⊥
not_semicolon b h e = h (subst (Shows b) e (shows b))

-- ---- what the scan does with it

abbrev pub Same : State → State → Sign → Type 0
Same s s' g = (act s g ≡ act s' g) × (past_limit s g ≡ past_limit s' g)

module _ (ps : List ℕ) (n : ℕ) (d : List ℕ) where
  number_same : (v : ℕ) (g : Sign) → NotFigure g → Same (state (number v) ps n d) (state (behind true) ps (suc n) (d ++ leaf_bytes (innermost ps) v)) g
  unfolding act past_limit
  number_same v space f = (refl, refl)
  number_same v (figure x) f = absurd (f x refl)
  number_same v opening f = (refl, refl)
  number_same v closing f = (refl, refl)
  number_same v comma f = (refl, refl)
  number_same v colon f = (refl, refl)
  number_same v point f = (refl, refl)
  number_same v semicolon f = (refl, refl)
  number_same v foreign f = (refl, refl)

  whole_same : (g : Sign) → NotFigure g → (g ≡ point → ⊥) → Same (state whole ps n d) (state (behind false) ps n d) g
  unfolding act past_limit
  whole_same space f p = (refl, refl)
  whole_same (figure x) f p = absurd (f x refl)
  whole_same opening f p = (refl, refl)
  whole_same closing f p = (refl, refl)
  whole_same comma f p = (refl, refl)
  whole_same colon f p = (refl, refl)
  whole_same point f p = absurd (p refl)
  whole_same semicolon f p = (refl, refl)
  whole_same foreign f p = (refl, refl)

  parted_same : (g : Sign) → NotFigure g → Same (state parted ps n d) (state (behind false) ps n d) g
  unfolding act past_limit
  parted_same space f = (refl, refl)
  parted_same (figure x) f = absurd (f x refl)
  parted_same opening f = (refl, refl)
  parted_same closing f = (refl, refl)
  parted_same comma f = (refl, refl)
  parted_same colon f = (refl, refl)
  parted_same point f = (refl, refl)
  parted_same semicolon f = (refl, refl)
  parted_same foreign f = (refl, refl)

  behind_same : (g : Sign) → (g ≡ space → ⊥) → (g ≡ colon → ⊥) → Same (state (behind true) ps n d) (state (behind false) ps n d) g
  unfolding act past_limit
  behind_same space b p = absurd (b refl)
  behind_same (figure x) b p = (refl, refl)
  behind_same opening b p = (refl, refl)
  behind_same closing b p = (refl, refl)
  behind_same comma b p = (refl, refl)
  behind_same colon b p = absurd (p refl)
  behind_same point b p = (refl, refl)
  behind_same semicolon b p = (refl, refl)
  behind_same foreign b p = (refl, refl)

  pointed_off : (g : Sign) → NotFigure g → Off (state pointed ps n d) g
  unfolding act
  pointed_off space f = inr refl
  pointed_off (figure x) f = absurd (f x refl)
  pointed_off opening f = inr refl
  pointed_off closing f = inr refl
  pointed_off comma f = inr refl
  pointed_off colon f = inr refl
  pointed_off point f = inr refl
  pointed_off semicolon f = inr refl
  pointed_off foreign f = inr refl

  due_off : (g : Sign) → NotFigure g → (g ≡ space → ⊥) → Off (state due ps n d) g
  unfolding act
  due_off space f b = absurd (b refl)
  due_off (figure x) f b = absurd (f x refl)
  due_off opening f b = inr refl
  due_off closing f b = inr refl
  due_off comma f b = inr refl
  due_off colon f b = inr refl
  due_off point f b = inr refl
  due_off semicolon f b = inr refl
  due_off foreign f b = inr refl

  pub start_off : (g : Sign) → NotFigure g → (g ≡ space → ⊥) → (g ≡ opening → ⊥) → Off (state start ps n d) g
  unfolding act
  start_off space f b o = absurd (b refl)
  start_off (figure x) f b o = absurd (f x refl)
  start_off opening f b o = absurd (o refl)
  start_off closing f b o = inr refl
  start_off comma f b o = inr refl
  start_off colon f b o = inr refl
  start_off point f b o = inr refl
  start_off semicolon f b o = inr refl
  start_off foreign f b o = inr refl

  -- states that blanks, or digits, leave as they are
  pub start_idle : IdleOnBlanks (state start ps n d)
  unfolding act past_limit
  start_idle = (refl, refl)

  pub behind_idle : (l : Bool) → IdleOnBlanks (state (behind l) ps n d)
  unfolding act past_limit
  behind_idle l = (refl, refl)

  pub due_idle : IdleOnBlanks (state due ps n d)
  unfolding act past_limit
  due_idle = (refl, refl)

  pub ended_idle : IdleOnBlanks (state ended ps n d)
  unfolding act past_limit
  ended_idle = (refl, refl)

  whole_keeps : IdleOnDigits (state whole ps n d)
  unfolding act past_limit
  whole_keeps x = (refl, refl)

  parted_keeps : IdleOnDigits (state parted ps n d)
  unfolding act past_limit
  parted_keeps x = (refl, refl)

-- the first digit may come from another state
first_digit : (w : List ℕ) (i r : ℕ) (s₀ s : State) → i < length w → So (digit (get_or w i 0)) → ((x : ℕ) → (act s₀ (figure x) ≡ go s) × (past_limit s₀ (figure x) ≡ false)) → IdleOnDigits s → Goes w s i s r → Goes w s₀ i s r
first_digit w i r s₀ s l h f k g =
    let c = get_or w i 0 in
    goes_on w i s₀ s l (ap (past_limit s₀) (digit-sign c h) ∙ (f (c - 48)).1) (ap (act s₀) (digit-sign c h) ∙ (f (c - 48)).0) ∙ sym (digit_on w i l h s k) ∙ g

module _ (w : List ℕ) (ps : List ℕ) (n : ℕ) (d : List ℕ) where
  -- ---- lengths

  -- behind the digits of a length where no point stands
  pub whole_ends : (i : ℕ) → i ≤ length w → (i < length w → digit (get_or w i 0) ≡ false) → (i < length w → get_or w i 0 ≡ 46 → ⊥) → Goes w (state whole ps n d) i (state (behind false) ps n d) i
  whole_ends i l f p = goes_as w i _ _ l refl (λ h. whole_same ps n d (sign (get_or w i 0)) (not_figure (get_or w i 0) (f h)) (not_point (get_or w i 0) (p h)))

  pub whole_points : (i : ℕ) → i < length w → get_or w i 0 ≡ 46 → Goes w (state whole ps n d) i (state pointed ps n d) (i + 1)
  unfolding act past_limit sign
  whole_points i l e = goes_on w i _ _ l refl (ap (λ (c : ℕ). act (state whole ps n d) (sign c)) e)

  pub pointed_stops : (i : ℕ) → i ≤ length w → (i < length w → digit (get_or w i 0) ≡ false) → Stops w (state pointed ps n d) i i
  pointed_stops i l f = by (dec_lt i (length w))
    where
      by : Dec (i < length w) → Stops w (state pointed ps n d) i i
      by (yes h) = goes_off w i _ h (pointed_off ps n d (sign (get_or w i 0)) (not_figure (get_or w i 0) (f h)))
      by (no h) = goes_out w i _ (omega arith) refl

  pub pointed_goes : (i r : ℕ) → i < length w → So (digit (get_or w i 0)) → r ≤ length w → ((s : State) → IdleOnDigits s → Goes w s i s r) → (r < length w → digit (get_or w r 0) ≡ false)
      → Goes w (state pointed ps n d) i (state (behind false) ps n d) r
  unfolding act past_limit
  pointed_goes i r l h m g f =
      first_digit w i r (state pointed ps n d) (state parted ps n d) l h (λ x. (refl, refl)) (parted_keeps ps n d) (g _ (parted_keeps ps n d))
      ∙ goes_as w r _ _ m refl (λ k. parted_same ps n d (sign (get_or w r 0)) (not_figure (get_or w r 0) (f k)))

  pub due_stops : (i : ℕ) → i ≤ length w → (i < length w → blank (get_or w i 0) ≡ false) → (i < length w → digit (get_or w i 0) ≡ false) → Stops w (state due ps n d) i i
  due_stops i l b f = by (dec_lt i (length w))
    where
      by : Dec (i < length w) → Stops w (state due ps n d) i i
      by (yes h) = goes_off w i _ h (due_off ps n d (sign (get_or w i 0)) (not_figure (get_or w i 0) (f h)) (not_space (get_or w i 0) (b h)))
      by (no h) = goes_out w i _ (omega arith) refl

  pub due_goes : (i r : ℕ) → i < length w → So (digit (get_or w i 0)) → ((s : State) → IdleOnDigits s → Goes w s i s r) → Goes w (state due ps n d) i (state whole ps n d) r
  unfolding act past_limit
  due_goes i r l h g = first_digit w i r (state due ps n d) (state whole ps n d) l h (λ x. (refl, refl)) (whole_keeps ps n d) (g _ (whole_keeps ps n d))

  pub behind_due : (i : ℕ) → i < length w → get_or w i 0 ≡ 58 → Goes w (state (behind true) ps n d) i (state due ps n d) (i + 1)
  unfolding act past_limit sign
  behind_due i l e = goes_on w i _ _ l refl (ap (λ (c : ℕ). act (state (behind true) ps n d) (sign c)) e)

  -- no length comes
  pub behind_closes : (i : ℕ) → i ≤ length w → (i < length w → blank (get_or w i 0) ≡ false) → (i < length w → get_or w i 0 ≡ 58 → ⊥) → Goes w (state (behind true) ps n d) i (state (behind false) ps n d) i
  behind_closes i l b p = goes_as w i _ _ l refl (λ h. behind_same ps n d (sign (get_or w i 0)) (not_space (get_or w i 0) (b h)) (not_colon (get_or w i 0) (p h)))

  -- ---- species numbers

  pub number_begins : (i : ℕ) → i < length w → So (digit (get_or w i 0)) → n < most_nodes → Goes w (state start ps n d) i (state (number (get_or w i 0 - 48)) ps n d) (i + 1)
  unfolding act past_limit
  number_begins i l h k =
      goes_on w i _ _ l (ap (past_limit (state start ps n d)) (digit-sign (get_or w i 0) h) ∙ ne_eqb n most_nodes (λ e. omega arith)) (ap (act (state start ps n d)) (digit-sign (get_or w i 0) h))

  further : (v x : ℕ) → 0 < v → act (state (number v) ps n d) (figure x) ≡ go (state (number (10 * v + x)) ps n d)
  unfolding act
  further zero x p = absurd (omega arith)
  further (suc v) x p = refl

  pub number_goes : (i v : ℕ) → i < length w → So (digit (get_or w i 0)) → 0 < v → 10 * v + (get_or w i 0 - 48) ≤ 254
      → Goes w (state (number v) ps n d) i (state (number (10 * v + (get_or w i 0 - 48))) ps n d) (i + 1)
  unfolding past_limit
  number_goes i v l h p k =
      let c = get_or w i 0 in
      goes_on w i _ _ l (ap (past_limit (state (number v) ps n d)) (digit-sign c h) ∙ le-ltb 254 (10 * v + (c - 48)) k) (ap (act (state (number v) ps n d)) (digit-sign c h) ∙ further v (c - 48) p)

  number_off : (v x : ℕ) → (v ≡ 0) ⊎ (254 < 10 * v + x) → Off (state (number v) ps n d) (figure x)
  unfolding act past_limit
  number_off zero x (inl e) = inr refl
  number_off (suc v) x (inl e) = absurd (omega arith)
  number_off v x (inr h) = inl (lt-ltb 254 (10 * v + x) h)

  pub number_stops : (i v : ℕ) → i < length w → So (digit (get_or w i 0)) → (v ≡ 0) ⊎ (254 < 10 * v + (get_or w i 0 - 48)) → Stops w (state (number v) ps n d) i i
  number_stops i v l h f = goes_off w i _ l (subst (Off (state (number v) ps n d)) (sym (digit-sign (get_or w i 0) h)) (number_off v (get_or w i 0 - 48) f))

  pub number_ends : (i v : ℕ) → i ≤ length w → (i < length w → digit (get_or w i 0) ≡ false) → Goes w (state (number v) ps n d) i (state (behind true) ps (suc n) (d ++ leaf_bytes (innermost ps) v)) i
  number_ends i v l f = goes_as w i _ _ l refl (λ h. number_same ps n d v (sign (get_or w i 0)) (not_figure (get_or w i 0) (f h)))

-- a length whose first digits end at k
pub branched : (w : List ℕ) (i k m : ℕ) (r : Result Got BadPlace) → i ≤ k → ((ps : List ℕ) (n : ℕ) (d : List ℕ) → Goes w (state (behind true) ps n d) i (state whole ps n d) k) → Parted w k m r → Branched w i m r
branched w i k m (Ok x) l g h = (omega (arith, h.0), h.1, h.2, h.3, λ ps n d. g ps n d ∙ h.4 ps n d)
branched w i k m (Err q) l g h = (h.0, λ ps n d. g ps n d ∙ h.1 ps n d)
