-- A search through all triples a < b < c of n species, in nested loops over c, b and a: the places run in index order, one by one; and what is the
-- first triple, where nothing comes before it, or where there is none. For anything that speaks of triples. Assumes nothing.
use mathlib.Core.Bool.{So, not}
use mathlib.Core.Path.{◌∙◌, ◌≡◌, ap}
use Prim.Native.Nat.{◌+◌, ◌<◌, suc, ℕ}
use native.Mathlib.Numerals.{add-one}
use native.Mathlib.Omega.{arith}
use Rattle.sets.proofs.Bools.{by_order, not_e}
use Rattle.trees.specs.Triplets.{Triplets, on_triple}
use Rattle.triples.proofs.Find.{at-index, first_at, first_is, first_le}
use Rattle.trees.proofs.Combinations.{C-none}
use Rattle.triples.proofs.Indices.{C-three, C-two, index-lt}
use Rattle.triples.specs.Find.{at, first_triple}
use Rattle.triples.specs.Index.{C, index}
use Rattle.triples.specs.Finds.{Finds}
use Rattle.std.specs.Prelude.{None, Some}

-- P speaks of no triple of n species with an index below i
abbrev pub Clear : ℕ → Triplets → ℕ → Type 0
Clear n P i = (j : ℕ) → j < i → So (not (at n P j))

-- ---- the places of the loops

pub start : index 0 0 0 ≡ 0
unfolding index
start = omega (arith, C-none 1, C-none 2)

pub next : (a b c : ℕ) → index (a + 1) b c ≡ suc (index a b c)
unfolding index
next a b c = omega arith

pub row_end : (b c : ℕ) → index b b c ≡ index 0 (b + 1) c
unfolding index
row_end b c = omega (arith, C-two b, ap (λ (x : ℕ). C x 2) (add-one b))

pub level_end : (c : ℕ) → index 0 c c ≡ index 0 0 (c + 1)
unfolding index
level_end c = omega (arith, C-three c, C-none 1, ap (λ (x : ℕ). C x 3) (add-one c))

pub last : (n : ℕ) → index 0 0 n ≡ C n 3
unfolding index
last n = omega (arith, C-none 1)

-- ---- the first triple

module _ (n : ℕ) (P : Triplets) where
  -- it speaks of none
  pub finds_none : Clear n P (C n 3) → Finds n P None
  finds_none h = by_order (first_triple n P) (C n 3)
      (λ l. absurd (not_e (at n P (first_triple n P)) (h (first_triple n P) l) (first_at n P l)))
      (λ x. x)
      (λ l. absurd (omega (arith, first_le n P)))

  -- it stopped at a < b < c, of which P speaks
  pub finds_at : (a b c : ℕ) → a < b → b < c → c < n → So (on_triple P a b c) → Clear n P (index a b c) → Finds n P (Some (record { low = a; mid = b; high = c }))
  finds_at a b c p q r s h =
      record { low_mid = p; mid_high = q; high_below = r; is = first_is n P (index a b c) (index-lt a b c n p q r) (at-index n P a b c p q r ∙ s) h }
