-- The table of pairs, entry by entry: a row, and all rows. Assumes nothing.
use mathlib.Core.Bool.{◌&&◌, and-false, and-true, cond, false, not}
use mathlib.Core.List.{List}
use mathlib.Core.Logic.{◌≢◌}
use mathlib.Core.Path.{◌∙◌, ◌≡◌, ap, refl, sym}
use Prim.Native.Nat.{◌*◌, ◌+◌, ◌<◌, ℕ}
use native.Mathlib.Decide.{ℕ_discrete}
use native.Mathlib.Omega.{arith}
use borrow.Author.Tests.{eq-eqb, ne_eqb}
use lib.Dec.{eqb}
use lib.ListN.{length, length-set, set}
use lib.Seq.{get_or-set_other, get_or-set_same}
use Rattle.sets.proofs.Digits.{minus_other, minus_same}
use Rattle.sets.proofs.Tests.{false_has, has_empty, true_has}
use Rattle.sets.specs.Sets.{Has, Lowest, Rest, Subset, has, minus, single}
use Rattle.sets.specs.Walks.{Turn}
use Rattle.groups.specs.Groups.{Stamped, cell, cells}

-- ---- a walk from the lowest species up: b is the lowest of s, and r the rest

module _ (s b r : ℕ) (l : Lowest s b) (k : Rest s r) where
  is_less : r ≡ minus s (single b)
  is_less = k.is ∙ ap (λ (z : ℕ). minus s (single z)) (sym l.is)

  pub rest_lacks : has r b ≡ false
  rest_lacks = rw is_less (false_has _ b (minus_same s b))

  pub rest_others : (y : ℕ) → b ≢ y → has r y ≡ has s y
  rest_others y n = rw (is_less, minus_other s b y n)

  pub rest-inside : (g : ℕ) → Subset s g → Subset r g
  rest-inside g h y m = go (ℕ_discrete b y)
    where
      go : Dec (b ≡ y) → Has g y
      go (yes e) = absurd (omega (arith, rw (is_less, ← e) at m, minus_same s b))
      go (no n) = h y (rw (is_less, minus_other s b y n) at m)

-- ---- a row: the entries of a with the species of g that are not left

pub record Row (g a left : ℕ) (old out : List ℕ) : Type 0 where
  pub size : length out ≡ cells
  pub inside : Subset left g
  pub cell : (x y : ℕ) → y < 64 → cell out x y ≡ cond (eqb x a && (has g y && not (has left y))) g (cell old x y)

pub row_step : (g a left b r : ℕ) (old out : List ℕ) → a < 64 → Turn left b r → Row g a left old out → Row g a r old (set out (a * 64 + b) g)
row_step g a left b r old out ha t w = record {
  size = length-set out (a * 64 + b) g ∙ w.size;
  inside = rest-inside left b r t.lowest t.rest g w.inside;
  cell = λ x y h. go x y h t.below (ℕ_discrete x a) (ℕ_discrete y b);
}
  where
    go : (x y : ℕ) → y < 64 → b < 64 → Dec (x ≡ a) → Dec (y ≡ b) → cell (set out (a * 64 + b) g) x y ≡ cond (eqb x a && (has g y && not (has r y))) g (cell old x y)
    go x y h hb (yes p) (yes q) =
        rw (p, q)
        (get_or-set_same out (a * 64 + b) g 0 (omega (arith, w.size))
        ∙ rw (eq-eqb a a refl, true_has g b (w.inside b t.member), rest_lacks left b r t.lowest t.rest) refl)
    go x y h hb (yes p) (no q) =
        get_or-set_other out (a * 64 + b) (x * 64 + y) g 0 (λ e. omega arith) ∙ w.cell x y h ∙ rw (rest_others left b r t.lowest t.rest y (λ e. q (sym e))) refl
    go x y h hb (no m) q = get_or-set_other out (a * 64 + b) (x * 64 + y) g 0 (λ e. m (omega arith)) ∙ w.cell x y h ∙ rw (ne_eqb x a m) refl

pub row_end : (g a left : ℕ) (old out : List ℕ) → left ≡ 0 → Row g a left old out → Stamped (λ x y. eqb x a && has g y) g old out
row_end g a left old out e w = (w.size, λ x y h. w.cell x y h ∙ rw (e, has_empty y, and-true (has g y)) refl)

-- ---- all rows: the rows of the species of g that are not left

pub record Rows (g left : ℕ) (old out : List ℕ) : Type 0 where
  pub size : length out ≡ cells
  pub inside : Subset left g
  pub cell : (x y : ℕ) → y < 64 → cell out x y ≡ cond ((has g x && not (has left x)) && has g y) g (cell old x y)

pub rows_step : (g left a r : ℕ) (old out new : List ℕ) → Turn left a r → Stamped (λ x y. eqb x a && has g y) g out new → Rows g left old out → Rows g r old new
rows_step g left a r old out new t q w = record {
  size = q.0;
  inside = rest-inside left a r t.lowest t.rest g w.inside;
  cell = λ x y h. q.1 x y h ∙ go x y h (ℕ_discrete x a);
}
  where
    go : (x y : ℕ) → y < 64 → Dec (x ≡ a) → cond (eqb x a && has g y) g (cell out x y) ≡ cond ((has g x && not (has r x)) && has g y) g (cell old x y)
    go x y h (yes e) =
        let z : cell out a y ≡ cell old a y = w.cell a y h ∙ rw (true_has left a t.member, and-false (has g a)) refl in
        rw (e, eq-eqb a a refl, true_has g a (w.inside a t.member), rest_lacks left a r t.lowest t.rest, z) refl
    go x y h (no m) = rw (ne_eqb x a m, rest_others left a r t.lowest t.rest x (λ e. m (sym e))) (w.cell x y h)

pub rows_end : (g left : ℕ) (old out : List ℕ) → left ≡ 0 → Rows g left old out → Stamped (λ x y. has g x && has g y) g old out
rows_end g left old out e w = (w.size, λ x y h. w.cell x y h ∙ rw (e, has_empty x, and-true (has g x)) refl)
