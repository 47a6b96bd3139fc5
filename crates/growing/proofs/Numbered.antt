-- The connected parts of a set as a list of numbers: each is a set that is not empty, together they have as many species as the set. And the rule
-- of either build over this list, and of the triples that it looks at. Assumes nothing.
use mathlib.Core.Bool.{Bool, So, false, not, true}
use mathlib.Core.List.{List, [], ◌∷◌, map}
use mathlib.Core.Logic.{◌≢◌}
use mathlib.Core.Path.{◌∙◌, ◌≡◌, ap, ap₂, fun_ext, refl, sym}
use Prim.Native.Nat.{◌+◌, ◌<◌, ◌^◌, ◌≤◌, suc, zero, ℕ}
use native.Mathlib.Omega.{arith}
use borrow.Author.Tests.{not-true}
use lib.ListN.{get_or, length, length-map}
use Rattle.sets.proofs.Bools.{bool_ext, not_i}
use Rattle.sets.proofs.Digits.{apart, has-lt}
use Rattle.sets.proofs.Least.{lowest_in}
use Rattle.sets.proofs.Members.{Apart, Every, any_of, members_one}
use Rattle.sets.proofs.Ordered.{lowest-members}
use Rattle.sets.proofs.Sizes.{not_empty, size-apart, size_empty, size-members}
use Rattle.sets.proofs.Tests.{has-below, has_false, has-number, number_empty, number-has, number_is, number_lt, number-union, true_has}
use Rattle.sets.specs.Sets.{Lacks, Has, has, lowest, number, size}
use Rattle.sets.specs.Species.{Below, Species, members}
use Rattle.trees.proofs.Outcomes.{any_of_length, length-lone, lone-length}
use Rattle.trees.proofs.Parts.{part_in, part_refl, parts-apart, parts_cover, parts_every, parts_in}
use Rattle.trees.proofs.CountTheorems.{looked_64}
use Rattle.trees.proofs.Stopping.{both_rule, fewer}
use Rattle.trees.proofs.VisitRule.{counted, looked_rule, looked_each}
use Rattle.trees.specs.Build.{Outcomes, build_by, choose, ending, gather, tree}
use Rattle.trees.specs.Combinations.{C}
use Rattle.trees.specs.Links.{joined, lone, part, parts}
use Rattle.trees.specs.Trees.{leaf}
use Rattle.trees.specs.Triplets.{Proper, Triplets}
use Rattle.trees.specs.Visits.{looked}
use Rattle.splitting.specs.Split.{parts_of}

-- how many species some sets have, counted set by set
abbrev pub total : List ℕ → ℕ
total [] = 0
total (p ∷ l) = size p + total l

size_number : (P : Species) → Below 64 P → size (number 64 P) ≡ length (members 64 P)
size_number P bd = size-members 64 (number 64 P) (number_lt 64 P) ∙ ap (λ (Q : Species). length (members 64 Q)) (number_is 64 P bd)

number-apart : (P Q : Species) → ((x : ℕ) → So (P x) → So (Q x) → ⊥) → (i : ℕ) → Has (number 64 P) i → Lacks (number 64 Q) i
number-apart P Q d i h =
    let l : i < 64 = has-lt 64 (number 64 P) i (number_lt 64 P) h in
    let p : So (P i) = sym (has-number 64 P i l) ∙ true_has (number 64 P) i h in
    has_false (number 64 Q) i (has-number 64 Q i l ∙ not-true (Q i) (not_i (Q i) (d i p)))

total_apart : (ps : List Species) → Apart ps → total (map (number 64) ps) ≡ size (number 64 (any_of ps))
total_apart [] d = sym (ap size (number_empty 64) ∙ size_empty)
total_apart (p ∷ ps) d = omega (
  arith,
  total_apart ps d.1,
  size-apart (number 64 p) (number 64 (any_of ps)) (apart (number 64 p) (number 64 (any_of ps)) (number-apart p (any_of ps) d.0)),
  ap size (number-union 64 p (any_of ps)),
)

has_back : (ps : List Species) → Every (Below 64) ps → map has (map (number 64) ps) ≡ ps
has_back [] h = refl
has_back (p ∷ ps) h = ap₂ ◌∷◌ (number_is 64 p h.0) (has_back ps h.1)

-- what is so of the number of each set is so of each number of the list
every_at : (Q : ℕ → Type 0) (ps : List Species) → Every (λ p. Q (number 64 p)) ps → (k : ℕ) → k < length (map (number 64) ps) → Q (get_or (map (number 64) ps) k 0)
every_at Q [] h k l = absurd (omega arith)
every_at Q (p ∷ ps) h zero l = h.0
every_at Q (p ∷ ps) h (suc k) l = every_at Q ps h.1 k (omega arith)

-- of sets that are not empty: there are no more of them than species in all, and one of them, with one species for each other, has no more either
pub length_total : (l : List ℕ) → ((k : ℕ) → k < length l → 0 < size (get_or l k 0)) → length l ≤ total l
length_total [] h = omega arith
length_total (p ∷ l) h = omega (arith, h 0 (omega arith), length_total l (λ k b. h (suc k) (omega arith)))

pub one_total : (l : List ℕ) → ((k : ℕ) → k < length l → 0 < size (get_or l k 0)) → (k : ℕ) → k < length l → size (get_or l k 0) + length l ≤ total l + 1
one_total [] h k b = absurd (omega arith)
one_total (p ∷ l) h zero b = omega (arith, length_total l (λ j c. h (suc j) (omega arith)))
one_total (p ∷ l) h (suc k) b = omega (arith, h 0 (omega arith), one_total l (λ j c. h (suc j) (omega arith)) k (omega arith))

-- the children that the sets l become, in the plain build (false) or the veto build (true)
abbrev pub children_of : Bool → Triplets → List ℕ → Outcomes
children_of v E l = gather (build_by v E 64) (map has l)

-- the triples that are looked at for the sets l, one set after the other, no further than the first that stops
abbrev pub looked_for : Bool → Triplets → List ℕ → ℕ
looked_for v E l = looked_each v E 64 (map has l)

-- p is a part of s, which has more than one
pub record Part (s p : ℕ) : Type 0 where
  pub some : 0 < size p
  pub fewer : size p < size s

module _ (E : Triplets) (pr : Proper E) (s : ℕ) (hs : s < 2 ^ 64) where
  bd : Below 64 (has s)
  bd = has-below 64 s hs

  parts_below : Every (Below 64) (parts E 64 (has s))
  parts_below = parts_every E 64 (has s) bd pr (Below 64) (λ j hj lj x q. bd x (part_in E 64 (has s) bd pr j x hj q))

  parts-has : map has (parts_of E s) ≡ parts E 64 (has s)
  unfolding parts_of
  parts-has = has_back (parts E 64 (has s)) parts_below

  parts-length : length (parts_of E s) ≡ length (parts E 64 (has s))
  unfolding parts_of
  parts-length = length-map (parts E 64 (has s)) (number 64)

  -- each species is in one part
  pub parts_total : total (parts_of E s) ≡ size s
  unfolding parts_of
  parts_total = total_apart (parts E 64 (has s)) (parts-apart E 64 (has s) bd pr)
      ∙ ap size (ap (number 64) (fun_ext (λ x. bool_ext _ _ (parts_in E 64 (has s) bd pr x) (parts_cover E 64 (has s) bd pr x))) ∙ number-has 64 s hs)

  module _ (pos : 0 < size s) where
    low_in : So (has s (lowest s))
    low_in = true_has s (lowest s) (lowest_in s hs (not_empty s pos))

    rule : (v : Bool) → build_by v E 64 (has s) ≡ choose (lone (members 64 (has s))) (joined E 64 (has s)) (lowest s) (ending v 64 (has s)) (children_of v E (parts_of E s))
    rule v = both_rule v E 64 pr (has s) bd (lowest s) low_in
        ∙ ap₂ (λ (x : ℕ) (ps : List Species). choose (lone (members 64 (has s))) (joined E 64 (has s)) x (ending v 64 (has s)) (gather (build_by v E 64) ps))
        (lowest-members s hs (not_empty s pos)) (sym parts-has)

    looked-parts : (v : Bool) → looked v E 64 (has s) ≡ counted (lone (members 64 (has s))) (joined E 64 (has s)) (C (size s) 3) (looked_for v E (parts_of E s))
    looked-parts v = looked_rule v E 64 pr (has s) bd (lowest s) low_in
        ∙ ap₂ (λ (n : ℕ) (ps : List Species). counted (lone (members 64 (has s))) (joined E 64 (has s)) (C n 3) (looked_each v E 64 ps)) (sym (size-members 64 s hs)) (sym parts-has)

    pub looked_few : (v : Bool) → looked v E 64 (has s) ≤ 677040
    looked_few v = looked_64 E pr 64 (has s) bd (lowest s) low_in (omega arith) v

    -- one species has no triples
    pub leaf_looked : (v : Bool) → size s ≡ 1 → looked v E 64 (has s) ≡ 0
    leaf_looked v e = looked-parts v
        ∙ ap (λ (b : Bool). counted b (joined E 64 (has s)) (C (size s) 3) (looked_for v E (parts_of E s))) (length-lone (members 64 (has s)) (sym (size-members 64 s hs) ∙ e))

    -- one species is a leaf
    pub leaf_rule : (v : Bool) → size s ≡ 1 → build_by v E 64 (has s) ≡ tree (leaf (lowest s))
    leaf_rule v e = rule v
        ∙ ap (λ (b : Bool). choose b (joined E 64 (has s)) (lowest s) (ending v 64 (has s)) (children_of v E (parts_of E s)))
        (length-lone (members 64 (has s)) (sym (size-members 64 s hs) ∙ e))

    module _ (several : size s ≢ 1) where
      not_one : So (not (lone (members 64 (has s))))
      not_one = not_i _ (λ h. several (size-members 64 s hs ∙ lone-length (members 64 (has s)) h))

      rule_several : (v b : Bool) → joined E 64 (has s) ≡ b → build_by v E 64 (has s) ≡ choose false b (lowest s) (ending v 64 (has s)) (children_of v E (parts_of E s))
      rule_several v b e = rule v
          ∙ ap₂ (λ (a b : Bool). choose a b (lowest s) (ending v 64 (has s)) (children_of v E (parts_of E s))) (not-true (lone (members 64 (has s))) not_one) e

      looked_several : (v b : Bool) → joined E 64 (has s) ≡ b → looked v E 64 (has s) ≡ counted false b (C (size s) 3) (looked_for v E (parts_of E s))
      looked_several v b e = looked-parts v
          ∙ ap₂ (λ (a b : Bool). counted a b (C (size s) 3) (looked_for v E (parts_of E s))) (not-true (lone (members 64 (has s))) not_one) e

      -- one part: its own triples are all
      pub joined-looked : (v : Bool) → length (parts_of E s) ≡ 1 → looked v E 64 (has s) ≡ C (size s) 3
      joined-looked v e = looked_several v true (length-lone (parts E 64 (has s)) (sym parts-length ∙ e))

      -- one part: here the two builds differ
      pub joined_rule : (v : Bool) → length (parts_of E s) ≡ 1 → build_by v E 64 (has s) ≡ ending v 64 (has s)
      joined_rule v e = rule_several v true (length-lone (parts E 64 (has s)) (sym parts-length ∙ e))

      -- otherwise each part becomes a child
      module _ (more : length (parts_of E s) ≢ 1) where
        apart_all : So (not (joined E 64 (has s)))
        apart_all = not_i _ (λ h. more (parts-length ∙ lone-length (parts E 64 (has s)) h))

        pub node_rule : (v : Bool) → build_by v E 64 (has s) ≡ choose false false (lowest s) (ending v 64 (has s)) (children_of v E (parts_of E s))
        node_rule v = rule_several v false (not-true (joined E 64 (has s)) apart_all)

        pub node_looked : (v : Bool) → looked v E 64 (has s) ≡ C (size s) 3 + looked_for v E (parts_of E s)
        node_looked v = looked_several v false (not-true (joined E 64 (has s)) apart_all)

        pub parts-two : 2 ≤ length (parts_of E s)
        parts-two = omega (arith, more, parts-length, any_of_length (parts E 64 (has s)) (lowest s) (parts_cover E 64 (has s) bd pr (lowest s) low_in))

        pub part_at : (k : ℕ) → k < length (parts_of E s) → Part s (get_or (parts_of E s) k 0)
        unfolding parts_of
        part_at = every_at (Part s) (parts E 64 (has s)) (parts_every E 64 (has s) bd pr (λ p. Part s (number 64 p)) (λ j hj lj.
            let b : Below 64 (part E 64 (has s) j) = λ x q. bd x (part_in E 64 (has s) bd pr j x hj q) in
            let z = size_number (part E 64 (has s) j) b in
            record {
              some = omega (arith, z, members_one 64 (part E 64 (has s) j) j (bd j hj) (part_refl E 64 (has s) bd pr j));
              fewer = omega (arith, z, size-members 64 s hs, fewer E 64 pr (has s) bd (lowest s) low_in j hj apart_all);
            }))

-- s has two or more parts
pub record Splits (E : Triplets) (s : ℕ) : Type 0 where
  pub proper : Proper E
  pub fits : s < 2 ^ 64
  pub some : 0 < size s
  pub several : size s ≢ 1
  pub more : length (parts_of E s) ≢ 1
