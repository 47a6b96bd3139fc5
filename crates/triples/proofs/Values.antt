-- The values that document 01 states. Assumes nothing.
use mathlib.Core.Path.{◌≡◌, refl, sym}
use native.Mathlib.Omega.{arith}
use Rattle.triples.specs.Index.{C, index}
use Rattle.triples.proofs.Indices.{halves, sixths}

pub C-1_3 : C 1 3 ≡ 0
unfolding C
C-1_3 = refl

pub C-2_3 : C 2 3 ≡ 0
unfolding C
C-2_3 = refl

pub C-64_3 : C 64 3 ≡ 41664
C-64_3 = sym (sixths 64 (omega arith))

pub index_0_1_2 : index 0 1 2 ≡ 0
unfolding index C
index_0_1_2 = refl

pub index_1_2_3 : index 1 2 3 ≡ 3
unfolding index C
index_1_2_3 = refl

pub index_61_62_63 : index 61 62 63 ≡ 41663
unfolding index
index_61_62_63 = omega (arith, halves 62 (omega arith), sixths 63 (omega arith))
