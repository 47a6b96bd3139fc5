-- All n species as a set: one that a build may be handed, with any table. Assumes nothing.
use mathlib.Core.List.{List}
use mathlib.Core.Path.{◌∙◌, ap, sym}
use Prim.Native.Nat.{ℕ, ◌<◌}
use native.Mathlib.Omega.{arith}
use borrow.Author.Tests.{ltb-true}
use Rattle.sets.proofs.Digits.{upto_in}
use Rattle.sets.proofs.Sizes.{size-upto}
use Rattle.sets.proofs.Tests.{has-upto, true_has}
use Rattle.sets.specs.Sets.{upto}
use Rattle.sets.specs.Species.{Species}
use Rattle.outside.specs.Reaches.{Enclosed}
use Rattle.admitting.specs.GoodSet.{GoodSet}

pub all_set : (n : ℕ) → 0 < n → GoodSet n (upto n)
all_set n some = record { some = omega (arith, size-upto n); below = λ x h. ltb-true x n (ap (λ (S : Species). S x) (sym (has-upto n)) ∙ true_has (upto n) x h) }

pub all_enclosed : (n : ℕ) (t : List ℕ) → Enclosed n (upto n) t
all_enclosed n t a b c p q l h = (upto_in n a (omega arith), upto_in n b (omega arith), upto_in n c l)
