-- A tree's text is a text of the form of request T-01, and of that tree; and a tree of 64 species at most is within the limits of reading. Assumes nothing.
use mathlib.Core.Bool.{So}
use mathlib.Core.List.{List, [], ◌∷◌, ◌++◌, append_assoc}
use mathlib.Core.Path.{◌∙◌, ◌≡◌, ap, refl, subst, sym}
use Prim.Native.Nat.{ℕ, zero, suc, ◌+◌, ◌-◌, ◌*◌, ◌/◌, ◌%◌, ◌^◌, ◌<◌, ◌≤◌}
use native.Mathlib.Decide.{dec_lt}
use native.Mathlib.Omega.{arith}
use borrow.Author.Tests.{eq-eqb, eqb-true, le-leb}
use lib.Dec.{eqb, leb}
use lib.ListN.{length, length-append}
use Rattle.sets.proofs.Bools.{and_i, not_i, or_l, or_r}
use Rattle.sets.specs.Species.{Below}
use Rattle.trees.proofs.Formed.{Formed, FormedF, formed_e}
use Rattle.trees.specs.Trees.{Forest, Tree, cons, degree, leaf, leaves, leaves_f, nil, node, under, under_f, well_formed}
use Rattle.bodies.proofs.Back.{leaves_few, nodes_few}
use Rattle.newick.specs.Form.{Form, Further, Number, Subtree, Subtrees, bracket, digit, last_one, lone, no_blank, no_further, no_length, nought, one_further, one_more, other, text}
use Rattle.newick.specs.Within.{Within, height, height_f, largest_species, largest_species_f}
use Rattle.writing.proofs.Digits.{decimal_digit, decimal_more}
use Rattle.writing.specs.Texts.{decimal, glyph}
use Rattle.rendering.specs.Texts.{children_text, subtree_text, text_of}

-- ---- numbers

is_digit : (d : ℕ) → d < 10 → So (digit (glyph d))
is_digit d h = and_i (leb 48 (48 + d)) (leb (48 + d) 57) (le-leb 48 (48 + d) (omega arith)) (le-leb (48 + d) 57 (omega arith))

-- one digit more: r' begins with it
further_more : {x v : ℕ} {w r' : List ℕ} (d : ℕ) (r : List ℕ) → d < 10 → Further x v w r' → r' ≡ glyph d ∷ r → Further x (10 * v + (glyph d - 48)) w r
further_more {x = x} {v = v} d r h no_further e =
    subst (λ (u : List ℕ). Further x (10 * v + (glyph d - 48)) u r) (sym e) (one_further (is_digit d h) no_further)
further_more d r h (one_further k f) e = one_further k (further_more d r h f e)

number_more : {v : ℕ} {w r' : List ℕ} (d : ℕ) (r : List ℕ) → d < 10 → 0 < v → Number v w r' → r' ≡ glyph d ∷ r → Number (10 * v + (glyph d - 48)) w r
number_more d r h p nought e = absurd (omega arith)
number_more d r h p (other k z f) e = other k z (further_more d r h f e)

number-digit : (x : ℕ) (r : List ℕ) → x < 10 → Number x (glyph x ∷ r) r
number-digit zero r h = nought
number-digit (suc x) r h =
    let e : glyph (suc x) - 48 ≡ suc x = omega arith in
    other (is_digit (suc x) h) (not_i (eqb (glyph (suc x)) 48) (λ z. let k = eqb-true (glyph (suc x)) 48 z in omega arith))
    (subst (λ (y : ℕ). Further y (suc x) r r) (sym e) no_further)

decimal-number : (k x : ℕ) (r : List ℕ) → x ≤ k → x < 2 ^ 64 → Number x (decimal x ++ r) r
decimal-number zero x r h l = rw (decimal_digit x (omega arith)) (number-digit x r (omega arith))
decimal-number (suc k) x r h l = by (dec_lt x 10) (λ q s. decimal-number k (x / 10) s (omega arith) (omega arith))
  where
    by : Dec (x < 10) → (10 ≤ x → (s : List ℕ) → Number (x / 10) (decimal (x / 10) ++ s) s) → Number x (decimal x ++ r) r
    by (yes q) ih = rw (decimal_digit x q) (number-digit x r q)
    by (no q) ih =
        let z : 10 ≤ x = omega arith in
        let e : 10 * (x / 10) + (glyph (x % 10) - 48) ≡ x = omega arith in
        let w : decimal x ++ r ≡ decimal (x / 10) ++ (glyph (x % 10) ∷ r) = ap (λ (u : List ℕ). u ++ r) (decimal_more x z l) ∙ append_assoc (decimal (x / 10)) (glyph (x % 10) ∷ []) r in
        subst (λ (u : List ℕ). Number x u r) (sym w)
        (subst (λ (y : ℕ). Number y (decimal (x / 10) ++ (glyph (x % 10) ∷ r)) r) e (number_more (x % 10) r (omega arith) (omega arith) (ih z (glyph (x % 10) ∷ r)) refl))

-- ---- trees

-- what stands behind the sign before the first child
abbrev behind : Forest → List ℕ → List ℕ
behind nil r = r
behind (cons t f) r = (subtree_text t ++ children_text 44 f) ++ r

children_behind : (m : ℕ) (f : Forest) (r : List ℕ) → 1 ≤ degree f → children_text m f ++ r ≡ m ∷ behind f r
children_behind m nil r p = absurd (omega arith)
children_behind m (cons t f) r p = refl

-- a child before others, or before the bracket that closes
child_form : (t : Tree) (f : Forest) (r : List ℕ) → ((s : List ℕ) → Subtree t (subtree_text t ++ s) s) → (1 ≤ degree f → Subtrees f (behind f r) r) → Subtrees (cons t f) (behind (cons t f) r) r
child_form t nil r h k = subst (λ (u : List ℕ). Subtrees (cons t nil) u r) (sym (append_assoc (subtree_text t) (41 ∷ []) r)) (last_one (h (41 ∷ r)) no_blank)
child_form t (cons s f) r h k = subst (λ (u : List ℕ). Subtrees (cons t (cons s f)) u r) (sym (append_assoc (subtree_text t) (children_text 44 (cons s f)) r))
    (one_more (h (children_text 44 (cons s f) ++ r)) no_blank (k (omega arith)))

mutual
  subtree_form : (t : Tree) (r : List ℕ) → Formed t → Below (2 ^ 64) (under t) → Subtree t (subtree_text t ++ r) r
  subtree_form (leaf x) r w b = lone no_blank (decimal-number x x r (omega arith) (b x (eq-eqb x x refl))) no_length
  subtree_form (node f) r w b = subst (λ (u : List ℕ). Subtree (node f) u r) (sym (children_behind 40 f r (omega (arith, w.0))))
      (bracket no_blank (children_form f r (omega (arith, w.0)) w.1 b) no_length)

  children_form : (f : Forest) (r : List ℕ) → 1 ≤ degree f → FormedF f → Below (2 ^ 64) (under_f f) → Subtrees f (behind f r) r
  children_form nil r p w b = absurd (omega arith)
  children_form (cons t f) r p w b = child_form t f r (λ s. subtree_form t s w.0 (λ x i. b x (or_l (under t x) (under_f f x) i)))
      (λ q. children_form f r q w.2 (λ x i. b x (or_r (under t x) (under_f f x) i)))

-- the text of a well-formed tree is a text of the form, and of that tree
pub text_form : (t : Tree) → So (well_formed t) → Below (2 ^ 64) (under t) → Form t (text_of t)
text_form t w b = text (subtree_form t (59 ∷ []) (formed_e t w) b) no_blank no_blank

-- ---- limits

mutual
  height_few : (t : Tree) → Formed t → height t + 1 ≤ length (leaves t)
  height_few (leaf x) w = omega arith
  height_few (node f) w = omega (arith, height_f_few f w.1, w.0)

  height_f_few : (f : Forest) → FormedF f → height_f f + degree f ≤ length (leaves_f f)
  height_f_few nil w = omega arith
  height_f_few (cons t f) w = omega (arith, height_few t w.0, height_f_few f w.2, length-append (leaves t) (leaves_f f))

mutual
  largest-below : (n : ℕ) (t : Tree) → 0 < n → Below n (under t) → largest_species t < n
  largest-below n (leaf x) p b = b x (eq-eqb x x refl)
  largest-below n (node f) p b = largest_f_below n f p b

  largest_f_below : (n : ℕ) (f : Forest) → 0 < n → Below n (under_f f) → largest_species_f f < n
  largest_f_below n nil p b = p
  largest_f_below n (cons t f) p b = omega (
    arith,
    largest-below n t p (λ x i. b x (or_l (under t x) (under_f f x) i)),
    largest_f_below n f p (λ x i. b x (or_r (under t x) (under_f f x) i)),
  )

-- a well-formed tree with species below 64 is within the limits of reading
pub formed_within : (t : Tree) → So (well_formed t) → Below 64 (under t) → Within t
formed_within t w b =
    let l = leaves_few 64 t w b in
    record {
      depth = omega (arith, height_few t (formed_e t w), l);
      count = omega (arith, nodes_few t w, l);
      numbers = omega (arith, largest-below 64 t (omega arith) b);
    }
