-- The scan and the form: `scan` takes exactly the texts of the form at which no limit is passed, with the body of the text's tree, and refuses every
-- other text at its place. Each theorem is to be read alone. Assumes nothing.
use mathlib.Core.List.{List, ◌++◌}
use mathlib.Core.Logic.{◌↔◌, ◌⊎◌, inl, inr}
use mathlib.Core.Path.{◌∙◌, ◌≡◌, ap, refl, subst, sym}
use Prim.Native.Nat.{ℕ, suc, ◌-◌, ◌<◌, ◌≤◌}
use native.Mathlib.Decide.{dec_lt}
use native.Mathlib.Omega.{arith}
use lib.ListN.{length, take}
use Rattle.trees.specs.Trees.{Tree}
use Rattle.bodies.specs.Draws.{body_of}
use Rattle.newick.specs.Form.{Form}
use Rattle.newick.specs.Place.{Place, Wrong, deep, early, large, many, stray}
use Rattle.newick.specs.Scan.{Scanned, stuck, outset, taken, scan}
use Rattle.newick.specs.Within.{Within}
use Rattle.newick.proofs.Finds.{form_found}
use Rattle.newick.proofs.Limits.{Fits}
use Rattle.newick.proofs.Places.{Ending, WrongFrom, ending}
use Rattle.newick.proofs.Places as places
use Rattle.newick.proofs.Bounds.{taken_within}
use Rattle.newick.proofs.Takes.{form_taken, within_taken}

-- what is wrong from the first state on is what is wrong
wrong_here : (w : List ℕ) (q : ℕ) → WrongFrom outset w q → Wrong w q
wrong_here w q (places.stray l h) = stray l (λ k. h k.1 (body_of k.0) (form_taken k.2))
wrong_here w q (places.early l h) = early l (λ t k. h (body_of t) (form_taken k))
wrong_here w q (places.deep l h) = deep l (omega arith)
wrong_here w q (places.many l h) = many l (omega arith)
wrong_here w q (places.large v l k h) = large v l k h

wrong_there : (w : List ℕ) (q : ℕ) → Wrong w q → WrongFrom outset w q
wrong_there w q (stray l h) = places.stray l (λ v b g. let k = form_found (take (suc q) w ++ v) b g in h (k.0, v, k.1))
wrong_there w q (early l h) = places.early l (λ b g. let k = form_found w b g in h k.0 k.1)
wrong_there w q (deep l h) = places.deep l (omega arith)
wrong_there w q (many l h) = places.many l (omega arith)
wrong_there w q (large v l k h) = places.large v l k h

-- nothing is read yet
fits-outset : Fits outset
fits-outset = record { depth = omega arith; count = omega arith; number = λ v e. absurd (let z : ◌≡◌ {A = ℕ} 0 1 = cc in omega arith) }

comes_to : (w : List ℕ) → Ending outset w (scan w)
comes_to w = ending w outset fits-outset

-- a text has one place at most
pub one_place : (w : List ℕ) (p q : ℕ) → Place w p → Place w q → p ≡ q
one_place w p q h k = by (dec_lt p q) (dec_lt q p)
  where
    by : Dec (p < q) → Dec (q < p) → p ≡ q
    by (yes l) r = absurd (k.first p l h.wrong)
    by (no l) (yes r) = absurd (h.first q r k.wrong)
    by (no l) (no r) = omega arith

-- a text whose reading is refused with l bytes left has its place there
pub refused_at : (w : List ℕ) (l : ℕ) → scan w ≡ stuck l → (l ≤ length w) × Place w (length w - l)
refused_at w l e =
    let h = subst (Ending outset w) e (comes_to w) in
    let z : h.0 ≡ length w - l = omega (arith, h.1) in
    (omega (arith, h.1), subst (Place w) z (record { wrong = wrong_here w h.0 h.2; first = λ q l k. h.3 q l (wrong_there w q k) }))

-- nothing is wrong with a text that is taken; it has the form, and the body is that of its tree
pub taken_is : (w b : List ℕ) → scan w ≡ taken b → (t : Tree) × Form t w × (b ≡ body_of t) × ((q : ℕ) → Wrong w q → ⊥)
taken_is w b e =
    let h = subst (Ending outset w) e (comes_to w) in
    let k = form_found w b h.0 in
    (k.0, k.1, k.2, λ q x. h.1 q (wrong_there w q x))

-- the scan takes exactly the texts of the form with which nothing is wrong: those that pass no limit
pub takes_exactly : (w b : List ℕ) → (scan w ≡ taken b) ↔ ((t : Tree) × Form t w × (b ≡ body_of t) × ((q : ℕ) → Wrong w q → ⊥))
takes_exactly w b = (taken_is w b, λ h. by (scan w) refl h)
  where
    by : (r : Scanned) → scan w ≡ r → (t : Tree) × Form t w × (b ≡ body_of t) × ((q : ℕ) → Wrong w q → ⊥) → scan w ≡ taken b
    by (taken x) e h =
        let k = (subst (Ending outset w) e (comes_to w)).0 in
        let f = form_taken h.1 in
        let z : x ≡ body_of h.0 = cc in
        e ∙ ap taken (z ∙ sym h.2)
    by (stuck l) e h = absurd (let k = (refused_at w l e).1 in h.3 (length w - l) k.wrong)

-- the scan refuses exactly the other texts, each at its place
pub refuses_exactly : (w : List ℕ) (p : ℕ) → (Place w p) ↔ ((p ≤ length w) × (scan w ≡ stuck (length w - p)))
refuses_exactly w p = (λ h. by (scan w) refl h, λ h. back h)
  where
    by : (r : Scanned) → scan w ≡ r → Place w p → (p ≤ length w) × (scan w ≡ stuck (length w - p))
    by (taken b) e h = absurd ((taken_is w b e).3 p h.wrong)
    by (stuck l) e h =
        let k = refused_at w l e in
        let z : p ≡ length w - l = one_place w p (length w - l) h k.1 in
        (omega (arith, k.0), e ∙ ap stuck (omega (arith, k.0)))

    back : (p ≤ length w) × (scan w ≡ stuck (length w - p)) → Place w p
    back h = subst (Place w) (omega (arith, h.0)) (refused_at w (length w - p) h.1).1

-- a text of the form has one body
pub one_body : (w : List ℕ) (t t' : Tree) → Form t w → Form t' w → body_of t ≡ body_of t'
one_body w t t' h k = let a = form_taken h in let b = form_taken k in cc

-- of a text of the form: nothing is wrong with it exactly where its tree is within the limits
pub within_exactly : (w : List ℕ) (t : Tree) → Form t w → (Within t) ↔ ((q : ℕ) → Wrong w q → ⊥)
within_exactly w t h = (λ l. (taken_is w (body_of t) (within_taken h l)).3, λ f. taken_within h (body_of t) ((takes_exactly w (body_of t)).1 (t, h, refl, f)))

-- the scan takes exactly the texts of the form whose tree is within the limits
pub takes_within : (w b : List ℕ) → (scan w ≡ taken b) ↔ ((t : Tree) × Form t w × Within t × (b ≡ body_of t))
takes_within w b = (λ e. let k = taken_is w b e in (k.0, k.1, taken_within k.1 b e, k.2), λ h. within_taken h.1 h.2 ∙ ap taken (sym h.3))

-- every text has a place, or is the text of a tree within the limits; no text is both
pub one_or_other : (w : List ℕ) → ((p : ℕ) × Place w p) ⊎ ((t : Tree) × Form t w × Within t)
one_or_other w = by (scan w) refl
  where
    by : (r : Scanned) → scan w ≡ r → ((p : ℕ) × Place w p) ⊎ ((t : Tree) × Form t w × Within t)
    by (taken b) e = let k = (takes_within w b).0 e in inr (k.0, k.1, k.2)
    by (stuck l) e = inl (length w - l, (refused_at w l e).1)

pub not-both : (w : List ℕ) (p : ℕ) (t : Tree) → Place w p → Form t w → Within t → ⊥
not-both w p t h f l = (within_exactly w t f).0 l p h.wrong
