-- What the looks at a text pass, and where they refuse: over texts and trees, without the scan. Assumes nothing.
use mathlib.Core.Bool.{Bool, false, true}
use mathlib.Core.List.{List, [], ◌∷◌}
use mathlib.Core.Logic.{◌↔◌, inl, inr}
use mathlib.Core.Path.{◌≡◌, ap, refl, subst, sym}
use Prim.Native.Nat.{ℕ, ◌-◌}
use native.Mathlib.Omega.{arith}
use borrow.Author.Tests.{le-ltb, lt-ltb, ltb-false, ltb-true}
use lib.Dec.{ltb}
use lib.ListN.{length}
use Rattle.trees.specs.Trees.{Tree}
use Rattle.bodies.specs.Draws.{body_of}
use Rattle.answers.specs.Looks.{look_then, first_refusal, refuse_if}
use Rattle.answers.specs.Looks.{Look}
use Rattle.refusals.specs.declared.Refusal.{Refusal}
use Rattle.refusals.specs.declared.Refusal.TheVariants.{BadText}
use Rattle.newick.proofs.Theorems.{refused_at, refuses_exactly, takes_within}
use Rattle.newick.specs.Place.{Place}
use Rattle.newick.specs.Scan.{Scanned, scan, stuck, taken}
use Rattle.newick.specs.Texts.{Readable, RefusedAt, longest_text}
use Rattle.parsing.specs.Parses.{body_in, look_form, look_long, placed, text_body}
use Rattle.std.specs.Prelude.{Ok, Err}

-- 14, for both of its reasons
abbrev pub text_looks : List ℕ → List Look
text_looks w = look_long (length w) ∷ look_form w ∷ []

-- the body of a text that is read is that of its tree
pub text_body_lem : (w : List ℕ) (t : Tree) → Readable w t → text_body w ≡ body_of t
text_body_lem w t h = ap body_in ((takes_within w (body_of t)).1 (t, h.form, h.within, refl))

-- the two looks, for a text that is too long or not, and its scan
abbrev looked : List ℕ → Bool → Scanned → Look
looked w o r = look_then (refuse_if o (BadText longest_text)) (look_then (placed (length w) r) (Ok tt))

-- a text is refused exactly where the request says so, and at that place
pub text_refused : (w : List ℕ) (p : ℕ) → (first_refusal (text_looks w) ≡ Err (BadText p)) ↔ RefusedAt w p
text_refused w p = (λ h. there (ltb longest_text (length w)) refl (scan w) refl h, back)
  where
    there : (o : Bool) → ltb longest_text (length w) ≡ o → (r : Scanned) → scan w ≡ r → looked w o r ≡ Err (BadText p) → RefusedAt w p
    there true o r e h = let z : longest_text ≡ p = cc in inl (ltb-true longest_text (length w) o, sym z)
    there false o (taken b) e h = let z : ◌≡◌ {A = ℕ} 0 1 = cc in absurd (omega arith)
    there false o (stuck k) e h = let z : length w - k ≡ p = cc in inr (ltb-false longest_text (length w) o, subst (Place w) z (refused_at w k e).1)

    back : RefusedAt w p → first_refusal (text_looks w) ≡ Err (BadText p)
    back (inl h) = rw (lt-ltb longest_text (length w) h.0, h.1) refl
    back (inr h) =
        let k = (refuses_exactly w p).0 h.1 in
        let q : length w - (length w - p) ≡ p = omega (arith, k.0) in
        rw (le-ltb longest_text (length w) h.0, k.1) (ap (λ (x : ℕ). Err (BadText x)) q)

-- all other texts are read as a tree
pub text_pass : (w : List ℕ) → (first_refusal (text_looks w) ≡ Ok tt) ↔ ((t : Tree) × Readable w t)
text_pass w = (λ h. there (ltb longest_text (length w)) refl (scan w) refl h, back)
  where
    there : (o : Bool) → ltb longest_text (length w) ≡ o → (r : Scanned) → scan w ≡ r → looked w o r ≡ Ok tt → (t : Tree) × Readable w t
    there true o r e h = let z : ◌≡◌ {A = ℕ} 0 1 = cc in absurd (omega arith)
    there false o (stuck k) e h = let z : ◌≡◌ {A = ℕ} 0 1 = cc in absurd (omega arith)
    there false o (taken b) e h = let k = (takes_within w b).0 e in (k.0, record { short = ltb-false longest_text (length w) o; form = k.1; within = k.2 })

    back : (t : Tree) × Readable w t → first_refusal (text_looks w) ≡ Ok tt
    back h = rw (le-ltb longest_text (length w) h.1.short, (takes_within w (body_of h.0)).1 (h.0, h.1.form, h.1.within, refl)) refl

-- they refuse with 14 alone
pub text_fourteen : (w : List ℕ) (x : Refusal) → first_refusal (text_looks w) ≡ Err x → (p : ℕ) × (x ≡ BadText p)
text_fourteen w x h = by (ltb longest_text (length w)) (scan w) h
  where
    by : (o : Bool) (r : Scanned) → looked w o r ≡ Err x → (p : ℕ) × (x ≡ BadText p)
    by true r e = let z : BadText longest_text ≡ x = cc in (longest_text, sym z)
    by false (taken b) e = let z : ◌≡◌ {A = ℕ} 0 1 = cc in absurd (omega arith)
    by false (stuck k) e = let z : BadText (length w - k) ≡ x = cc in (length w - k, sym z)
