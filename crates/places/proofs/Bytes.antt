-- Where a node begins, by its byte, and where a subtree may begin behind a byte. Assumes nothing.
use mathlib.Core.Logic.{◌⊎◌, inl, inr}
use mathlib.Core.Bool.{and-false, and-true, Bool, ◌&&◌, cond, false, false≢true, true}
use mathlib.Core.Path.{◌∙◌, ◌≡◌, ap, refl, sym}
use Prim.Native.Nat.{ℕ}
use Rattle.newick.specs.Form.{blank, digit}
use Rattle.newick.specs.Place.{Spot, blanked, elsewhere, figured, fresh, in_number, node_begins, onward}
use Rattle.newick.specs.Signs.{Sign, closing, colon, comma, figure, foreign, opening, point, semicolon, sign, space}
use Rattle.newick.proofs.Signs.{Shows, blank-sign, digit-sign, shows}
use Rattle.places.specs.NodePlaces.{fresh_at}

-- ---- with which byte a node begins

-- what is so of the fresh spot is so of each spot that is fresh
at_fresh : (n : ℕ) (g : Sign) → n ≡ node_begins fresh g → (p : Spot) → fresh_at p ≡ true → n ≡ node_begins p g
at_fresh n g h fresh k = h
at_fresh n g h (in_number v) k = absurd (false≢true k)
at_fresh n g h elsewhere k = absurd (false≢true k)

module _ (b : ℕ) where
  pub opening_begins : b ≡ 40 → (p : Spot) → fresh_at p ≡ true → 1 ≡ node_begins p (sign b)
  unfolding sign
  opening_begins e = at_fresh 1 (sign b) (ap (λ (x : ℕ). node_begins fresh (sign x)) (sym e))

  -- any other byte
  pub other_begins : (b ≡ 40 → ⊥) → (p : Spot) → fresh_at p ≡ true → cond (digit b) 1 0 ≡ node_begins p (sign b)
  other_begins e = at_fresh (cond (digit b) 1 0) (sign b) (by (digit b) refl)
    where
      none : digit b ≡ false → (g : Sign) → Shows b g → 0 ≡ node_begins fresh g
      none h space s = refl
      none h (figure x) s = absurd (false≢true (sym h ∙ s.0))
      none h opening s = absurd (e s)
      none h closing s = refl
      none h comma s = refl
      none h colon s = refl
      none h point s = refl
      none h semicolon s = refl
      none h foreign s = refl

      by : (o : Bool) → digit b ≡ o → cond o 1 0 ≡ node_begins fresh (sign b)
      by true h = ap (node_begins fresh) (sym (digit-sign b h))
      by false h = none h (sign b) (shows b)

-- ---- behind which byte a subtree may begin

blanked_same : (p : Spot) → fresh_at (blanked p) ≡ fresh_at p
blanked_same fresh = refl
blanked_same (in_number v) = refl
blanked_same elsewhere = refl

figured-not : (x : ℕ) (p : Spot) → fresh_at (figured x p) ≡ false
figured-not x fresh = refl
figured-not x (in_number v) = refl
figured-not x elsewhere = refl

module _ (b : ℕ) where
  pub fresh_led : (b ≡ 40) ⊎ (b ≡ 44) → (p : Spot) → fresh_at (onward p (sign b)) ≡ true
  unfolding sign
  fresh_led (inl e) p = ap (λ (x : ℕ). fresh_at (onward p (sign x))) e
  fresh_led (inr e) p = ap (λ (x : ℕ). fresh_at (onward p (sign x))) e

  -- any other byte
  pub fresh_other : (b ≡ 40 → ⊥) → (b ≡ 44 → ⊥) → (p : Spot) → fresh_at (onward p (sign b)) ≡ (fresh_at p && blank b)
  fresh_other e c p = by (blank b) refl
    where
      none : blank b ≡ false → (g : Sign) → Shows b g → fresh_at (onward p g) ≡ false
      none h space s = absurd (false≢true (sym h ∙ s))
      none h (figure x) s = figured-not x p
      none h opening s = absurd (e s)
      none h closing s = refl
      none h comma s = absurd (c s)
      none h colon s = refl
      none h point s = refl
      none h semicolon s = refl
      none h foreign s = refl

      by : (o : Bool) → blank b ≡ o → fresh_at (onward p (sign b)) ≡ (fresh_at p && o)
      by true h = ap (λ (g : Sign). fresh_at (onward p g)) (blank-sign b h) ∙ blanked_same p ∙ sym (and-true (fresh_at p))
      by false h = none h (sign b) (shows b) ∙ sym (and-false (fresh_at p))
