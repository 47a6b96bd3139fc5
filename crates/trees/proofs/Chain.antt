-- When E together with one triplet more can be held by no tree: a joined set of E and that triplet has its three species, and lies in the parts of
-- the two that are linked anew, on every set that it lies in. Assumes nothing.
use mathlib.Core.Bool.{So, ◌&&◌}
use mathlib.Core.Logic.{◌≢◌, ⊎_elim}
use mathlib.Core.Path.{sym}
use Prim.Native.Nat.{ℕ}
use Rattle.sets.proofs.Bools.{and_i, and_l, and_r, not_e, or_case, or_l, or_r, test}
use Rattle.sets.specs.Species.{Below, Inside, Species}
use Rattle.trees.proofs.Criterion.{held_inside, no_tree, not_held, stopping_up}
use Rattle.trees.proofs.Parts.{part_closed, part_in, part-least, part_refl, part_sym}
use Rattle.trees.proofs.Stopping.{Stopping}
use Rattle.trees.proofs.Triplets.{both_proper, only_e, only_l, only_proper, only_r}
use Rattle.trees.specs.Check.{pair}
use Rattle.trees.specs.Held.{CanBeHeld}
use Rattle.trees.specs.Links.{Closed, Joined, part}
use Rattle.trees.specs.Triplets.{Proper, Triplets, both, only}

-- E together with ac|b can be held by no tree with the species S
abbrev pub Barred : Triplets → Species → ℕ → ℕ → ℕ → Type 0
Barred E S a b c = CanBeHeld (both E (only a c b)) S → ⊥

-- whatever is closed under E's links on U, and has a and c, has all of U
abbrev pub Spans : Triplets → Species → ℕ → ℕ → Type 0
Spans E U a c = (X : Species) → Closed E U X → So (X a) → So (X c) → Inside U X

module _ (E : Triplets) (N : ℕ) (pr : Proper E) (S : Species) (bd : Below N S) (a c : ℕ) (ha : So (S a)) (hc : So (S c)) where
  pub pair_in : Inside (pair E N S a c) S
  pair_in x h = or_case (part E N S a x) _ h (part_in E N S bd pr a x ha) (part_in E N S bd pr c x hc)

  pub pair_a : So (pair E N S a c a)
  pair_a = or_l (part E N S a a) _ (part_refl E N S bd pr a)

  pub pair_c : So (pair E N S a c c)
  pair_c = or_r (part E N S a c) _ (part_refl E N S bd pr c)

  pub grown_pair : (U : Species) → Inside U S → Spans E U a c → Inside U (pair E N S a c)
  grown_pair U sub g = g (pair E N S a c) (λ x y z p hx hy hz e. or_case (part E N S a x) _ p
      (λ q. or_l (part E N S a y) _ (part_closed E N S bd pr a x y z q (sub x hx) (sub y hy) (sub z hz) e))
      (λ q. or_r (part E N S a y) _ (part_closed E N S bd pr c x y z q (sub x hx) (sub y hy) (sub z hz) e))) pair_a pair_c

  module _ (b : ℕ) (hb : So (S b)) where
    -- two parts, of a and of c: the link joins them
    pub pair-joins : Inside S (pair E N S a c) → Joined (both E (only a c b)) S
    pair-joins all X cl u hu xu x hx =
        let least : (i j : ℕ) → So (part E N S i j) → So (X i) → So (X j) = part-least E N S bd pr X (λ x y z p hx hy hz e. cl x y z p hx hy hz (or_l (E x y z) _ e)) in
        let xa : So (X a) = or_case (part E N S a u) _ (all u hu)
        (λ q. least u a (part_sym E N S bd pr a u q) xu)
        (λ q. cl c a b (least u c (part_sym E N S bd pr c u q) xu) hc ha hb (or_r (E c a b) _ (only_r a c b))) in
        or_case (part E N S a x) _ (all x hx) (λ q. least a x q xa) (λ q. least c x q (cl a c b xa ha hc hb (or_r (E a c b) _ (only_l a c b))))

    module _ (ac : a ≢ c) where
      pub pair_bars : Inside S (pair E N S a c) → Barred E S a b c
      pair_bars all = no_tree _ S S (record {
        inside = λ x h. h;
        join = pair-joins all;
        two = (a, c, ha, hc, ac);
      })

      module _ (ab : a ≢ b) (bc : b ≢ c) where
        one_more : Proper (both E (only a c b))
        one_more = both_proper E (only a c b) pr (only_proper a c b ac ab (λ e. bc (sym e)))

        pub barred_up : (S' : Species) → Inside S' S → So (S' a) → Barred E S' a b c → Barred E S a b c
        barred_up S' sub ha' h f = h (held_inside _ N one_more S S' bd sub a ha' f)

        module _ (held : CanBeHeld E S) where
          -- where E alone can be held, what stands in the way has a, b and c
          in_way : (U : Species) → Stopping (both E (only a c b)) S U → So (U a && (U b && U c))
          in_way U w = test (U a && (U b && U c)) (λ q. q) (λ q. absurd (no_tree E S U (record {
            inside = w.inside;
            join = λ X cl. w.join X (λ x y z p hx hy hz e. or_case (E x y z) _ e (cl x y z p hx hy hz)
                (λ r. let i = only_e a c b x y z r in
                let ub : So (U b) = rw i.0 at hz in
                absurd (not_e _ q (⊎_elim
                (λ s. let ua : So (U a) = rw s.0 at hx in let uc : So (U c) = rw s.1 at hy in and_i (U a) _ ua (and_i (U b) _ ub uc))
                (λ s. let ua : So (U a) = rw s.1 at hy in let uc : So (U c) = rw s.0 at hx in and_i (U a) _ ua (and_i (U b) _ ub uc))
                i.1))));
            two = w.two;
          }) held))

          pub way : Barred E S a b c → (U : Species) × Stopping (both E (only a c b)) S U × So (U a) × So (U b) × So (U c) × Spans E U a c
          way h =
              let w = not_held (both E (only a c b)) N one_more S bd a ha h in
              let U = w.0 in
              let i = in_way U w.1 in
              let ua = and_l (U a) _ i in (
                U,
                w.1,
                ua,
                and_l (U b) _ (and_r (U a) _ i),
                and_r (U b) _ (and_r (U a) _ i),
                λ X cl xa xc x hx. w.1.join X (λ x y z p hx hy hz e. or_case (E x y z) _ e (cl x y z p hx hy hz)
                    (λ q. ⊎_elim (λ r. rw r.1 xc) (λ r. rw r.1 xa) (only_e a c b x y z q).1)) a ua xa x hx,
              )

          -- any smaller set that what stands in the way cannot leave
          pub narrow : (S' : Species) → ((U : Species) → Inside U S → Spans E U a c → Inside U S') → Barred E S a b c → So (S' b) × Barred E S' a b c
          narrow S' k h = let w = way h in let s = k w.0 w.1.inside w.5 in (s b w.3, no_tree _ S' w.0 (stopping_up _ S S' w.0 s w.1))
