-- Texts of the form of request T-01, limits aside. In each rule w begins with what the rule names, and r is all that stands behind it.
use Rattle.std.specs.Prelude.{Bool, not, ◌&&◌, ◌||◌, List, [], ◌∷◌, ℕ, ◌+◌, ◌-◌, ◌*◌, eqb, leb}
use Rattle.std.proofs.Math.Bool.{So}
use Rattle.trees.specs.Trees.{Tree, Forest, leaf, node, nil, cons}

-- "Spaces and bytes 10 and 13"
abbrev pub blank : ℕ → Bool
blank b = eqb b 32 || (eqb b 10 || eqb b 13)

abbrev pub digit : ℕ → Bool
digit b = leb 48 b && leb b 57

pub data Blanks : List ℕ → List ℕ → Type 0 where
  no_blank : {r : List ℕ} → Blanks r r
  one_blank : {b : ℕ} {w r : List ℕ} → So (blank b) → Blanks w r → Blanks (b ∷ w) r

-- one digit or more
pub data Digits : List ℕ → List ℕ → Type 0 where
  last_digit : {b : ℕ} {r : List ℕ} → So (digit b) → Digits (b ∷ r) r
  one_digit : {b : ℕ} {w r : List ℕ} → So (digit b) → Digits w r → Digits (b ∷ w) r

-- the further digits of a number whose first ones make x, and which has the value v
pub data Further : ℕ → ℕ → List ℕ → List ℕ → Type 0 where
  no_further : {v : ℕ} {r : List ℕ} → Further v v r r
  one_further : {x v b : ℕ} {w r : List ℕ} → So (digit b) → Further (10 * x + (b - 48)) v w r → Further x v (b ∷ w) r

-- "a species number in decimal without leading zeros": 48 is the digit 0
pub data Number : ℕ → List ℕ → List ℕ → Type 0 where
  nought : {r : List ℕ} → Number 0 (48 ∷ r) r
  other : {v b : ℕ} {w r : List ℕ} → So (digit b) → So (not (eqb b 48)) → Further (b - 48) v w r → Number v (b ∷ w) r

-- "A branch length (colon, digits, perhaps a point and digits)", or none: 58 is the colon, 46 the point
pub data BranchLength : List ℕ → List ℕ → Type 0 where
  no_length : {r : List ℕ} → BranchLength r r
  whole_length : {w u x r : List ℕ} → Blanks w (58 ∷ u) → Blanks u x → Digits x r → BranchLength w r
  parted_length : {w u x y r : List ℕ} → Blanks w (58 ∷ u) → Blanks u x → Digits x (46 ∷ y) → Digits y r → BranchLength w r

-- "a bracket holds a list of subtrees, and a subtree may be a bracket or a species number": 40 and 41 are the brackets, 44 the comma
mutual
  pub data Subtree : Tree → List ℕ → List ℕ → Type 0 where
    lone : {v : ℕ} {w u x r : List ℕ} → Blanks w u → Number v u x → BranchLength x r → Subtree (leaf v) w r
    bracket : {f : Forest} {w u x r : List ℕ} → Blanks w (40 ∷ u) → Subtrees f u x → BranchLength x r → Subtree (node f) w r

  -- the subtrees of a bracket, with what closes it
  pub data Subtrees : Forest → List ℕ → List ℕ → Type 0 where
    last_one : {t : Tree} {w u r : List ℕ} → Subtree t w u → Blanks u (41 ∷ r) → Subtrees (cons t nil) w r
    one_more : {t : Tree} {f : Forest} {w u x r : List ℕ} → Subtree t w u → Blanks u (44 ∷ x) → Subtrees f x r → Subtrees (cons t f) w r

-- "a semicolon closes the text, and only such blanks may follow": w is a text of this form, of the tree t
pub data Form : Tree → List ℕ → Type 0 where
  text : {t : Tree} {w u x : List ℕ} → Subtree t w u → Blanks u (59 ∷ x) → Blanks x [] → Form t w
