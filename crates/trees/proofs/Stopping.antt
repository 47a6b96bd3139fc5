-- A set at which the plain build stops lies in the set that was built, has three or more species, and is joined: no tree holds its triplets. And how
-- far either build goes down. Assumes nothing.
use mathlib.Core.Bool.{Bool, So, ◌&&◌, false, not}
use mathlib.Core.Logic.{◌≢◌, ⊎_elim}
use mathlib.Core.Path.{◌∙◌, ◌≡◌, fun_ext, sym}
use Prim.Native.Nat.{◌<◌, ◌≤◌, suc, zero, ℕ}
use native.Mathlib.Omega.{arith}
use borrow.Author.Tests.{eqb-true}
use lib.Dec.{eqb}
use lib.ListN.{get_or, length}
use Rattle.sets.proofs.Bools.{and_l, and_r, bool_ext, ne_e, test}
use Rattle.sets.proofs.Members.{any_e, inside_e, members_bound, members-lt, members_one, members_uniq}
use Rattle.sets.specs.Species.{Below, Inside, Species, Two, any, members}
use Rattle.trees.proofs.Outcomes.{any_of_length, choose_same, choose_stop, gather_same, gather_stop, lone-length, not-lone}
use Rattle.trees.proofs.Parts.{part_in, part-least, part_refl, parts_cover, parts_every, parts_one, parts_whole}
use Rattle.trees.specs.Build.{build, build_by, build_in, choose, ending, gather, stop}
use Rattle.trees.specs.Links.{Closed, Joined, joined, lone, part, parts}
use Rattle.trees.specs.Triplets.{Proper, Triplets}

-- U lies in S, has two species, and its links join it all
pub record Stopping (E : Triplets) (S U : Species) : Type 0 where
  pub inside : Inside U S
  pub join : Joined E U
  pub two : Two U

pub two-species : (N : ℕ) (S : Species) → Below N S → (u : ℕ) → So (S u) → So (not (lone (members N S))) → (v : ℕ) × So (S v) × (u ≢ v)
two-species N S bd u hu h = test (any N (λ v. S v && not (eqb u v)))
    (λ w. let r = any_e N (λ v. S v && not (eqb u v)) w in (r.0, and_l (S r.0) _ r.2, ne_e u r.0 (and_r (S r.0) _ r.2)))
    (λ w. let eq : (a : ℕ) → So (S a) → u ≡ a = λ a ha. eqb-true u a (inside_e N S (eqb u) bd w a ha) in
    absurd (omega (
      arith,
      not-lone (members N S) h,
      members_one N S u (bd u hu) hu,
      members_uniq N S (λ a b ha hb. sym (eq a ha) ∙ eq b hb),
    )))

module _ (E : Triplets) (N : ℕ) (pr : Proper E) where
  -- where there is more than one part each has fewer species
  pub fewer : (S : Species) (bd : Below N S) (u : ℕ) → So (S u) → (j : ℕ) → So (S j) → So (not (joined E N S))
      → length (members N (part E N S j)) < length (members N S)
  fewer S bd u hu j hj h = test (any N (λ x. S x && not (part E N S j x)))
      (λ w. let r = any_e N (λ x. S x && not (part E N S j x)) w in
      members-lt N (part E N S j) S (λ x q. part_in E N S bd pr j x hj q) r.0 r.1 (and_r (S r.0) _ r.2) (and_l (S r.0) _ r.2))
      (λ w. absurd (omega (
        arith,
        not-lone (parts E N S) h,
        any_of_length (parts E N S) u (parts_cover E N S bd pr u hu),
        parts_whole E N S bd pr j hj (inside_e N S (part E N S j) bd w),
      )))

  stopping_in : (k : ℕ) (S : Species) → Below N S → (u : ℕ) → So (S u) → length (members N S) ≤ k → (U : Species) → build_in false E N k S ≡ stop U → Stopping E S U
  unfolding build_in
  stopping_in zero S bd u hu le U e = absurd (omega (arith, members_one N S u (bd u hu) hu))
  stopping_in (suc k) S bd u hu le U e = ⊎_elim
      (λ h. let v = two-species N S bd u hu h.0 in let q : U ≡ S = cc h.2 in rw q (record {
        inside = λ x p. p;
        join = parts_one E N S bd pr (omega (arith, lone-length (parts E N S) h.1));
        two = (u, v.0, hu, v.1, v.2);
      }))
      (λ h. gather_stop (λ p. build_in false E N k p) (Stopping E S) (parts E N S)
      (parts_every E N S bd pr (λ p. (U : Species) → build_in false E N k p ≡ stop U → Stopping E S U)
      (λ j hj lj U e'. let r = stopping_in k (part E N S j) (λ x q. bd x (part_in E N S bd pr j x hj q)) j (part_refl E N S bd pr j) (omega (arith, fewer S bd u hu j hj h.1)) U e' in
      record {
        inside = λ x q. part_in E N S bd pr j x hj (r.inside x q);
        join = r.join;
        two = r.two;
      }))
      U h.2)
      (choose_stop (lone (members N S)) (joined E N S) (get_or (members N S) 0 0) (stop S) (gather (λ p. build_in false E N k p) (parts E N S)) U e)

  pub stopping : (S : Species) → Below N S → (u : ℕ) → So (S u) → (U : Species) → build E N S ≡ stop U → Stopping E S U
  unfolding build_by
  stopping S bd u hu U e = stopping_in N S bd u hu (members_bound N S) U e

  -- a set that has a, lies in the part of a, and is closed, is that part
  pub part_unique : (S : Species) (bd : Below N S) (a : ℕ) (X : Species) → So (X a) → Inside X (part E N S a) → Closed E S X → X ≡ part E N S a
  part_unique S bd a X xa sub cl = fun_ext (λ x. bool_ext (X x) (part E N S a x) (sub x) (λ h. part-least E N S bd pr X cl a x h xa))

-- ---- how far either build goes down

module _ (v : Bool) (E : Triplets) (N : ℕ) (pr : Proper E) where
  -- any number of levels from the number of species on gives the same
  levels : (k k' : ℕ) (S : Species) → Below N S → (u : ℕ) → So (S u) → length (members N S) ≤ k → length (members N S) ≤ k' → build_in v E N k S ≡ build_in v E N k' S
  unfolding build_in
  levels zero k' S bd u hu l l' = absurd (omega (arith, members_one N S u (bd u hu) hu))
  levels (suc k) zero S bd u hu l l' = absurd (omega (arith, members_one N S u (bd u hu) hu))
  levels (suc k) (suc k') S bd u hu l l' = choose_same (lone (members N S)) (joined E N S) (get_or (members N S) 0 0) (ending v N S) _ _
      (λ o. gather_same (λ p. build_in v E N k p) (λ p. build_in v E N k' p) (parts E N S)
      (parts_every E N S bd pr (λ p. build_in v E N k p ≡ build_in v E N k' p)
      (λ j hj lj. let fw = fewer E N pr S bd u hu j hj o in
      levels k k' (part E N S j) (λ x q. bd x (part_in E N S bd pr j x hj q)) j (part_refl E N S bd pr j) (omega arith) (omega arith))))

  pub both_levels : (k : ℕ) (S : Species) → Below N S → (u : ℕ) → So (S u) → length (members N S) ≤ k → build_in v E N k S ≡ build_by v E N S
  unfolding build_by
  both_levels k S bd u hu l = levels k N S bd u hu l (members_bound N S)

  -- the rule without a number of levels, as code follows it
  pub both_rule : (S : Species) → Below N S → (u : ℕ) → So (S u)
      → build_by v E N S ≡ choose (lone (members N S)) (joined E N S) (get_or (members N S) 0 0) (ending v N S) (gather (build_by v E N) (parts E N S))
  unfolding build_by build_in
  both_rule S bd u hu = levels N (suc N) S bd u hu (members_bound N S) (omega (arith, members_bound N S))
