-- The rules of the form are rules of a grammar: what a rule names is a front part of the text, and may stand before anything. Assumes nothing.
use mathlib.Core.List.{List, [], ◌∷◌, ◌++◌, append_assoc}
use mathlib.Core.Path.{◌∙◌, ◌≡◌, ap, refl, subst, sym}
use Prim.Native.Nat.{ℕ}
use Rattle.trees.specs.Trees.{Forest, Tree, cons, leaf, nil, node}
use Rattle.newick.specs.Form.{Blanks, BranchLength, Digits, Further, Subtrees, Number, Subtree, bracket, last_digit, last_one, no_blank, no_further, no_length, nought, one_blank, one_digit, one_further, one_more, other, parted_length, lone, whole_length}

-- R w r: w is u and then r, and u may stand before any r'
abbrev pub Front : (List ℕ → List ℕ → Type 0) → List ℕ → List ℕ → Type 0
Front R w r = (u : List ℕ) × (w ≡ u ++ r) × ((r' : List ℕ) → R (u ++ r') r')

-- two front parts, one behind the other
chain : (R S T : List ℕ → List ℕ → Type 0) {w x r : List ℕ} → ((a b c : List ℕ) → R a b → S b c → T a c) → Front R w x → Front S x r → Front T w r
chain R S T {w} {x} {r} f h k = (
  h.0 ++ k.0,
  h.1 ∙ ap (λ (l : List ℕ). h.0 ++ l) k.1 ∙ sym (append_assoc h.0 k.0 r),
  λ r'. subst (λ (l : List ℕ). T l r') (sym (append_assoc h.0 k.0 r')) (f _ _ _ (h.2 (k.0 ++ r')) (k.2 r')),
)

-- the byte c, and then what S names
after_byte : (c : ℕ) (S T : List ℕ → List ℕ → Type 0) {w r : List ℕ} → ((a b : List ℕ) → S a b → T (c ∷ a) b) → Front S w r → Front T (c ∷ w) r
after_byte c S T f k = (c ∷ k.0, ap (λ (l : List ℕ). c ∷ l) k.1, λ r'. f _ _ (k.2 r'))

nothing : (R : List ℕ → List ℕ → Type 0) {r : List ℕ} → ((a : List ℕ) → R a a) → Front R r r
nothing R f = ([], refl, λ r'. f r')

blanks_front : {w r : List ℕ} → Blanks w r → Front Blanks w r
blanks_front no_blank = nothing Blanks (λ a. no_blank)
blanks_front (one_blank {b} h k) = after_byte b Blanks Blanks (λ a c x. one_blank h x) (blanks_front k)

digits_front : {w r : List ℕ} → Digits w r → Front Digits w r
digits_front (last_digit {b} {r} h) = (b ∷ [], refl, λ r'. last_digit h)
digits_front (one_digit {b} h k) = after_byte b Digits Digits (λ a c x. one_digit h x) (digits_front k)

further_front : {x v : ℕ} {w r : List ℕ} → Further x v w r → Front (Further x v) w r
further_front (no_further {v}) = nothing (Further v v) (λ a. no_further)
further_front (one_further {x} {v} {b} h k) = after_byte b _ (Further x v) (λ a c y. one_further h y) (further_front k)

number-front : {v : ℕ} {w r : List ℕ} → Number v w r → Front (Number v) w r
number-front (nought {r}) = (48 ∷ [], refl, λ r'. nought)
number-front (other {v} {b} h z k) = after_byte b _ (Number v) (λ a c y. other h z y) (further_front k)

-- what R names, and the byte c behind it
abbrev Closed : (List ℕ → List ℕ → Type 0) → ℕ → List ℕ → List ℕ → Type 0
Closed R c w r = R w (c ∷ r)

closed_front : (R : List ℕ → List ℕ → Type 0) (c : ℕ) {w r : List ℕ} → Front R w (c ∷ r) → Front (Closed R c) w r
closed_front R c {w} {r} h = (
  h.0 ++ (c ∷ []),
  h.1 ∙ sym (append_assoc h.0 (c ∷ []) r),
  λ r'. subst (λ (l : List ℕ). R l (c ∷ r')) (sym (append_assoc h.0 (c ∷ []) r')) (h.2 (c ∷ r')),
)

-- what two rules name, one behind the other
data Both (R S : List ℕ → List ℕ → Type 0) : List ℕ → List ℕ → Type 0 where
  both : {a b c : List ℕ} → R a b → S b c → Both R S a c

both-front : (R S : List ℕ → List ℕ → Type 0) {w x r : List ℕ} → Front R w x → Front S x r → Front (Both R S) w r
both-front R S h k = chain R S (Both R S) (λ a b c p q. both p q) h k

same_front : (R S : List ℕ → List ℕ → Type 0) {w r : List ℕ} → ((a b : List ℕ) → R a b → S a b) → Front R w r → Front S w r
same_front R S f h = (h.0, h.1, λ r'. f _ _ (h.2 r'))

branch_front : {w r : List ℕ} → BranchLength w r → Front BranchLength w r
branch_front no_length = nothing BranchLength (λ a. no_length)
branch_front (whole_length a b g) =
    same_front (Both (Closed Blanks 58) (Both Blanks Digits)) BranchLength (λ x y. elim [ both p (both q t) ↦ whole_length p q t ])
    (both-front _ _ (closed_front Blanks 58 (blanks_front a)) (both-front _ _ (blanks_front b) (digits_front g)))
branch_front (parted_length a b g h) =
    same_front (Both (Closed Blanks 58) (Both Blanks (Both (Closed Digits 46) Digits))) BranchLength (λ x y. elim [ both p (both q (both s t)) ↦ parted_length p q s t ])
    (both-front _ _ (closed_front Blanks 58 (blanks_front a)) (both-front _ _ (blanks_front b) (both-front _ _ (closed_front Digits 46 (digits_front g)) (digits_front h))))

mutual
  pub subtree-front : {t : Tree} {w r : List ℕ} → Subtree t w r → Front (Subtree t) w r
  subtree-front (lone {v} a m g) =
      same_front (Both Blanks (Both (Number v) BranchLength)) (Subtree (leaf v)) (λ x y. elim [ both p (both q s) ↦ lone p q s ])
      (both-front _ _ (blanks_front a) (both-front _ _ (number-front m) (branch_front g)))
  subtree-front (bracket {f} a m g) =
      same_front (Both (Closed Blanks 40) (Both (Subtrees f) BranchLength)) (Subtree (node f)) (λ x y. elim [ both p (both q s) ↦ bracket p q s ])
      (both-front _ _ (closed_front Blanks 40 (blanks_front a)) (both-front _ _ (listed_front m) (branch_front g)))

  pub listed_front : {f : Forest} {w r : List ℕ} → Subtrees f w r → Front (Subtrees f) w r
  listed_front (last_one {t} m a) =
      same_front (Both (Subtree t) (Closed Blanks 41)) (Subtrees (cons t nil)) (λ x y. elim [ both p q ↦ last_one p q ])
      (both-front _ _ (subtree-front m) (closed_front Blanks 41 (blanks_front a)))
  listed_front (one_more {t} {f} m a g) =
      same_front (Both (Subtree t) (Both (Closed Blanks 44) (Subtrees f))) (Subtrees (cons t f)) (λ x y. elim [ both p (both q s) ↦ one_more p q s ])
      (both-front _ _ (subtree-front m) (both-front _ _ (closed_front Blanks 44 (blanks_front a)) (listed_front g)))
