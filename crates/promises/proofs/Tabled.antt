-- The table that says given triplets and fans, as the demands speak of a table. Assumes nothing.
use mathlib.Core.Bool.{So}
use mathlib.Core.Path.{◌∙◌, ◌≡◌, sym}
use Prim.Native.Nat.{◌<◌, ◌≤◌, suc, zero, ℕ}
use native.Mathlib.Omega.{arith}
use borrow.Author.Tests.{eq-eqb}
use lib.ListN.{get_or, length}
use Rattle.sets.proofs.Bools.{bool_ext}
use Rattle.sets.proofs.Least.{some_member}
use Rattle.sets.proofs.Tests.{has_true, true_has}
use Rattle.sets.specs.Sets.{Has, has}
use Rattle.tables.proofs.Bytes.{entered_below}
use Rattle.tables.proofs.Fillings.{table_length, table_says, table_small}
use Rattle.tables.proofs.Telling.{table_tells}
use Rattle.tables.specs.Bytes.{entered, fan_bit}
use Rattle.tables.specs.Filled.{Said, table_for}
use Rattle.triples.specs.Index.{C, index}
use Rattle.trees.specs.Triplets.{Proper, Triplets}
use Rattle.outside.specs.Reaches.{Enclosed}
use Rattle.answers.specs.Inputs.{Table}

-- E speaks of species below n
abbrev pub Speaks : ℕ → Triplets → Type 0
Speaks n E = (x y z : ℕ) → So (E x y z) → (x < n) × (y < n) × (z < n)

module _ (n : ℕ) (S : Said) where
  pub table_good : Table n (table_for n S)
  table_good = record { long = table_length n S; small = table_small n S }

  -- it says the triplets of S and no other, of any three numbers
  pub table_exact : Proper S.triplets → Speaks n S.triplets → (x y z : ℕ) → entered (table_for n S) x y z ≡ S.triplets x y z
  table_exact pr w x y z = bool_ext (entered (table_for n S) x y z) (S.triplets x y z)
      (λ h. (says (entered_below (table_for n S) n (eq-eqb (length (table_for n S)) (C n 3) (table_length n S)) x y z h)).0 h)
      (λ h. (says (w x y z h)).1 h)
    where
      says : (x < n) × (y < n) × (z < n) → (So (entered (table_for n S) x y z) → So (S.triplets x y z)) × (So (S.triplets x y z) → So (entered (table_for n S) x y z))
      says l = let e = table_says n S pr x y z l.0 l.1 l.2 in ((λ h. sym e ∙ h), λ h. e ∙ h)

-- u has the three species of all that E says
abbrev pub Names : ℕ → Triplets → Type 0
Names u E = (x y z : ℕ) → So (E x y z) → So (has u x) × So (has u y) × So (has u z)

-- a table that says S alone is enclosed by a set that has the species of S
module _ (n u : ℕ) (S : Said) (all : Names u S.triplets) (fans : Names u S.fans) where
  pub table_enclosed : Enclosed n u (table_for n S)
  table_enclosed a b c p q l h =
      let v = get_or (table_for n S) (index a b c) 0 in
      let m = some_member v h in
      let k = true_has v m.0 m.1 in
      bit m.0 k (((table_tells n S).bytes a b c p q l).no_other m.0 k)
    where
      three : (x y z : ℕ) → So (has u x) × So (has u y) × So (has u z) → Has u x × Has u y × Has u z
      three x y z r = (has_true u x r.0, has_true u y r.1, has_true u z r.2)

      bit : (i : ℕ) → So (has (get_or (table_for n S) (index a b c) 0) i) → i ≤ fan_bit → Has u a × Has u b × Has u c
      bit zero k s = three a b c (all a b c (((table_tells n S).bytes a b c p q l).ab.0 k))
      bit (suc zero) k s = let r = three a c b (all a c b (((table_tells n S).bytes a b c p q l).ac.0 k)) in (r.0, r.2, r.1)
      bit (suc (suc zero)) k s = let r = three b c a (all b c a (((table_tells n S).bytes a b c p q l).bc.0 k)) in (r.2, r.0, r.1)
      bit (suc (suc (suc zero))) k s = three a b c (fans a b c (((table_tells n S).bytes a b c p q l).fan.0 k))
      bit (suc (suc (suc (suc i)))) k s = absurd (omega arith)
