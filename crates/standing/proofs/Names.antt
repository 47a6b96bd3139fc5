-- The names of the signs that may stand, one sign more. Assumes nothing.
use mathlib.Core.Bool.{Bool, false, true}
use mathlib.Core.List.{List, ◌++◌, append_assoc}
use mathlib.Core.Path.{◌≡◌, refl, sym}
use Prim.Native.Nat.{ℕ, ◌+◌, ◌<◌, ◌≤◌}
use native.Mathlib.Numerals.{add-one}
use native.Mathlib.Omega.{arith}
use lib.ListN.{drop, get_or}
use lib.Seq.{drop-cons}
use Rattle.standing.specs.Expected.{between, may_stand, nameless, names_from, sign_name, signs, standing}

module _ (t : List ℕ) (q k : ℕ) (some : Bool) where
  abbrev pub names_left : List ℕ
  names_left = names_from some (standing t q (drop k signs))

  -- none is left
  pub names_end : 7 ≤ k → k ≤ 7 → names_left ≡ nameless some
  unfolding standing
  names_end h i = let z : k ≡ 7 = omega arith in rw z refl

  -- the k-th may not stand, or it may
  pub names_without : k < 7 → may_stand t q (get_or signs k 0) ≡ false → names_left ≡ names_from some (standing t q (drop (k + 1) signs))
  unfolding standing
  names_without l h = rw (drop-cons signs k 0 l, h, add-one k) refl

  pub names_with : k < 7 → may_stand t q (get_or signs k 0) ≡ true
      → names_left ≡ (between some ++ sign_name (get_or signs k 0)) ++ names_from true (standing t q (drop (k + 1) signs))
  unfolding standing
  names_with l h = rw (drop-cons signs k 0 l, h, add-one k) (sym (append_assoc (between some) (sign_name (get_or signs k 0)) _))
