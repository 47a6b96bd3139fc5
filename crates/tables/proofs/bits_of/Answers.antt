-- Each bit by its digit of the byte. Assumes nothing.
use Rattle.std.proofs.Common.{ℕ, ◌%◌, ◌∙◌, ap, eqb, sym}
use native.Mathlib.Nat.{div-one}
use Rattle.sets.specs.Sets.{digit}
use Rattle.tables.proofs.bits_of.Goals as goal

pub returns : goal.returns
unfolding digit
returns c = let b = c.byte-v.ensures in (ap (λ (x : ℕ). eqb (x % 2) 1) (sym (div-one c.byte-v.result)) ∙ b.ab, b.ac, b.bc)
