-- One byte of a text in the scan's words: on, refused, or the end. Assumes nothing.
use mathlib.Core.Bool.{Bool, So, cond, false, false≢true, true}
use mathlib.Core.List.{List, [], ◌∷◌}
use mathlib.Core.Logic.{◌⊎◌, inl, inr}
use mathlib.Core.Path.{◌∙◌, ◌≡◌, ap, refl, sym}
use Prim.Native.Nat.{ℕ, zero, suc, ◌+◌, ◌-◌, ◌<◌, ◌≤◌}
use native.Mathlib.Decide.{dec_lt}
use native.Mathlib.Numerals.{add-one}
use native.Mathlib.Omega.{arith}
use lib.ListN.{drop, drop_of_length-le, get_or, length, length-drop}
use lib.Seq.{drop-cons}
use Rattle.newick.specs.Form.{blank, digit}
use Rattle.newick.specs.Scan.{Move, State, act, at_end, stuck, follow, go, past_limit, scan_from, halt}
use Rattle.newick.specs.Signs.{Sign, sign}
use Rattle.newick.proofs.Signs.{blank-sign, digit-sign}
use Rattle.numerals.specs.Goes.{Goes, IdleOnBlanks, IdleOnDigits, Stops}

-- ---- over lists

on : (s s' : State) (c : ℕ) (x : List ℕ) → past_limit s (sign c) ≡ false → act s (sign c) ≡ go s' → scan_from true s (c ∷ x) ≡ scan_from true s' x
unfolding scan_from
on s s' c x o e = rw (o, e) refl

-- a sign is refused: a limit is passed, or it leads nowhere
abbrev pub Off : State → Sign → Type 0
Off s g = (past_limit s g ≡ true) ⊎ (act s g ≡ halt)

off_next : (b : Bool) (y : Move) → (b ≡ true) ⊎ (y ≡ halt) → cond b halt y ≡ halt
off_next true y h = refl
off_next false y (inl h) = absurd (false≢true h)
off_next false y (inr h) = h

off : (s : State) (c : ℕ) (x : List ℕ) → Off s (sign c) → scan_from true s (c ∷ x) ≡ stuck (suc (length x))
unfolding scan_from
off s c x h = ap (follow (suc (length x)) (λ s'. scan_from true s' x)) (off_next (past_limit s (sign c)) (act s (sign c)) h)

swap : (s s' : State) (c : ℕ) (x : List ℕ) → act s (sign c) ≡ act s' (sign c) → past_limit s (sign c) ≡ past_limit s' (sign c) → scan_from true s (c ∷ x) ≡ scan_from true s' (c ∷ x)
unfolding scan_from
swap s s' c x e o = rw (o, e) refl

at_end_lem : (s : State) → scan_from true s [] ≡ at_end s
unfolding scan_from
at_end_lem s = refl

-- ---- over places

module _ (w : List ℕ) (i : ℕ) where
  pub goes_on : (s s' : State) → i < length w → past_limit s (sign (get_or w i 0)) ≡ false → act s (sign (get_or w i 0)) ≡ go s' → Goes w s i s' (i + 1)
  goes_on s s' h o e = rw (drop-cons w i 0 h, add-one i) (on s s' (get_or w i 0) (drop (suc i) w) o e)

  pub goes_off : (s : State) → i < length w → Off s (sign (get_or w i 0)) → Stops w s i i
  goes_off s h f = rw (drop-cons w i 0 h) (off s (get_or w i 0) (drop (suc i) w) f ∙ ap stuck (omega (arith, length-drop (suc i) w)))

  pub goes_out : (s : State) → i ≡ length w → at_end s ≡ stuck 0 → Stops w s i i
  goes_out s h e = ap (scan_from true s) (drop_of_length-le w {i = i} (omega arith)) ∙ at_end_lem s ∙ e ∙ ap stuck (omega arith)

  -- two states that the byte at i does not tell apart
  pub goes_as : (s s' : State) → i ≤ length w → at_end s ≡ at_end s' → (i < length w → (act s (sign (get_or w i 0)) ≡ act s' (sign (get_or w i 0))) × (past_limit s (sign (get_or w i 0)) ≡ past_limit s' (sign (get_or w i 0))))
      → Goes w s i s' i
  goes_as s s' l e f = by (dec_lt i (length w))
    where
      by : Dec (i < length w) → Goes w s i s' i
      by (yes h) = rw (drop-cons w i 0 h) (swap s s' (get_or w i 0) (drop (suc i) w) (f h).0 (f h).1)
      by (no h) = rw (drop_of_length-le w {i = i} (omega arith)) (at_end_lem s ∙ e ∙ sym (at_end_lem s'))

-- ---- blanks and digits

pub blank_on : (w : List ℕ) (i : ℕ) → i < length w → So (blank (get_or w i 0)) → (s : State) → IdleOnBlanks s → Goes w s i s (i + 1)
blank_on w i l h s k = goes_on w i s s l (ap (past_limit s) (blank-sign (get_or w i 0) h) ∙ k.1) (ap (act s) (blank-sign (get_or w i 0) h) ∙ k.0)

pub digit_on : (w : List ℕ) (i : ℕ) → i < length w → So (digit (get_or w i 0)) → (s : State) → IdleOnDigits s → Goes w s i s (i + 1)
digit_on w i l h s k =
    let c = get_or w i 0 in
    goes_on w i s s l (ap (past_limit s) (digit-sign c h) ∙ (k (c - 48)).1) (ap (act s) (digit-sign c h) ∙ (k (c - 48)).0)

-- a state that each byte from place i up to place r leaves as it is
pub goes_past : (w : List ℕ) (s : State) (i r : ℕ) → i ≤ r → ((k : ℕ) → i ≤ k → k < r → Goes w s k s (k + 1)) → Goes w s i s r
goes_past w s i zero l h = let e : i ≡ 0 = omega arith in ap (λ (x : ℕ). scan_from true s (drop x w)) e
goes_past w s i (suc r) l h = by (dec_lt i (suc r)) (λ g. goes_past w s i r (omega arith) (λ k a b. h k a (omega arith)))
  where
    by : Dec (i < suc r) → (i < suc r → Goes w s i s r) → Goes w s i s (suc r)
    by (yes g) f = f g ∙ rw add-one at (h r (omega arith) (omega arith))
    by (no g) f = let e : i ≡ suc r = omega arith in ap (λ (x : ℕ). scan_from true s (drop x w)) e
