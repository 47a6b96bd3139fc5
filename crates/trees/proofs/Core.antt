-- For two species a and c, all b for which ac|b is barred, as one set: the end of one chain of sets, each the parts of a and of c on the one
-- before. With this a triplet of a tree that passes PC is decided by looking once at each of two such sets. Assumes nothing.
use mathlib.Core.Bool.{So, ◌&&◌, not}
use mathlib.Core.Logic.{◌↔◌, ◌≢◌}
use mathlib.Core.Path.{◌≡◌, fun_ext, refl, subst, sym}
use Prim.Native.Nat.{◌≤◌, suc, zero, ℕ}
use native.Mathlib.Omega.{arith}
use lib.ListN.{length}
use Rattle.sets.proofs.Bools.{and_i, and_l, and_r, bool_ext, test}
use Rattle.sets.proofs.Members.{any_e, inside_e, members_bound, members-lt, members_one}
use Rattle.sets.specs.Species.{Below, Inside, Species, any, members}
use Rattle.trees.proofs.Agreement.{Agrees, R-proper, agrees_held, one_wider}
use Rattle.trees.proofs.Chain.{Barred, Spans, barred_up, grown_pair, narrow, pair_a, pair_bars, pair_c, pair_in}
use Rattle.trees.proofs.Criterion.{held_inside}
use Rattle.trees.proofs.Formed.{Formed}
use Rattle.trees.proofs.Splits.{holds_e, holds_swap}
use Rattle.trees.specs.Check.{Forced, R, core, pair, sure}
use Rattle.trees.specs.Held.{CanBeHeld}
use Rattle.trees.specs.Trees.{Tree, under}
use Rattle.trees.specs.Triplets.{Proper, Triplets, holds}

-- X is the set of all b of S, other than a and c, for which ac|b is barred on S
abbrev pub Core : Triplets → Species → ℕ → ℕ → Species → Type 0
Core E S a c X = (b : ℕ) → a ≢ b → b ≢ c → So (X b) ↔ (So (S b) × Barred E S a b c)

-- a set that the parts of a and of c leave as it is stays so
pub core_stays : (E : Triplets) (N : ℕ) (a c : ℕ) (S : Species) → pair E N S a c ≡ S → (k : ℕ) → core E N k S a c ≡ S
core_stays E N a c S e zero = refl
core_stays E N a c S e (suc k) = subst (λ (Z : Species). core E N k Z a c ≡ S) (sym e) (core_stays E N a c S e k)

module _ (E : Triplets) (N : ℕ) (pr : Proper E) (a c : ℕ) (ac : a ≢ c) where
  module _ (S : Species) (bd : Below N S) (ha : So (S a)) (hc : So (S c)) where
    pub core_end : Inside S (pair E N S a c) → Core E S a c S
    core_end all b ab bc = ((λ h. (h, pair_bars E N pr S bd a c ha hc b h ac all)), λ h. h.0)

    -- any set in between that what stands in the way cannot leave
    pub core_in : CanBeHeld E S → (S' X : Species) → Inside S' S → So (S' a) → ((U : Species) → Inside U S → Spans E U a c → Inside U S') → Core E S' a c X → Core E S a c X
    core_in held S' X sub ha' gr k b ab bc = (
      (λ h. let r = (k b ab bc).0 h in (sub b r.0, barred_up E N pr S bd a c ha hc b (sub b r.0) ac ab bc S' sub ha' r.1)),
      λ h. (k b ab bc).1 (narrow E N pr S bd a c ha hc b h.0 ac ab bc held S' gr h.1),
    )

    pub core-step : CanBeHeld E S → (X : Species) → Core E (pair E N S a c) a c X → Core E S a c X
    core-step held X = core_in held (pair E N S a c) X (pair_in E N pr S bd a c ha hc) (pair_a E N pr S bd a c ha hc) (grown_pair E N pr S bd a c ha hc)

  -- as many steps as species are enough
  pub core-right : (k : ℕ) (S : Species) (bd : Below N S) → So (S a) → So (S c) → CanBeHeld E S → length (members N S) ≤ k → Core E S a c (core E N k S a c)
  core-right zero S bd ha hc held le = absurd (omega (arith, members_one N S a (bd a ha) ha))
  core-right (suc k) S bd ha hc held le =
      let P = pair E N S a c in
      let sub = pair_in E N pr S bd a c ha hc in
      let pa = pair_a E N pr S bd a c ha hc in
      test (any N (λ x. S x && not (P x)))
      (λ q. let w = any_e N (λ x. S x && not (P x)) q in
      core-step S bd ha hc held _ (core-right k P (λ x h. bd x (sub x h)) pa (pair_c E N pr S bd a c ha hc) (held_inside E N pr S P bd sub a pa held)
      (omega (arith, members-lt N P S sub w.0 w.1 (and_r (S w.0) _ w.2) (and_l (S w.0) _ w.2)))))
      (λ q. let all = inside_e N S P bd q in
      subst (Core E S a c) (sym (core_stays E N a c S (fun_ext (λ x. bool_ext (P x) (S x) (sub x) (all x))) (suc k))) (core_end S bd ha hc all))

module _ (E : Triplets) (pr : Proper E) (N : ℕ) (T : Tree) (w : Formed T) (bd : Below N (under T)) (ag : Agrees E T) where
  -- the core of a and c over T's species has b exactly when ac|b is barred
  pub core_bars : (a b c : ℕ) → So (holds T a b c) → So (core (R E T) N N (under T) a c b) ↔ Barred (R E T) (under T) a b c
  core_bars a b c h = let o = holds_e T a b c h in
      let k = core-right (R E T) N (R-proper E pr T) a c o.ac N (under T) bd o.in_a o.in_c (agrees_held E pr T w ag) (members_bound N (under T)) b o.ab o.bc in
      ((λ q. (k.0 q).1), λ q. k.1 (o.in_b, q))

  -- on trees with exactly the species S, of which T has some
  module _ (S : Species) (sbd : Below N S) (sub : Inside (under T) S) where
    barred_on : (a b c : ℕ) → So (holds T a b c) → Barred (R E T) (under T) a b c ↔ Barred (R E T) S a b c
    barred_on a b c h = let o = holds_e T a b c h in
        let e = one_wider E pr T w N S sbd sub a c b o.in_a o.in_c o.ac o.ab (λ q. o.bc (sym q)) in
        ((λ k f. k (e.1 f)), λ k f. k (e.0 f))

    pub sure_forced : (a b c : ℕ) → So (holds T a b c) → So (sure E N T a b c) ↔ Forced (R E T) S a b c
    sure_forced a b c h =
        let h' = holds_swap T a b c h in
        let X = core (R E T) N N (under T) a c b in (
          (λ k. record {
            no_ac = (barred_on a b c h).0 ((core_bars a b c h).0 (and_l X _ k));
            no_bc = (barred_on b a c h').0 ((core_bars b a c h').0 (and_r X _ k));
          }),
          λ f. and_i X _ ((core_bars a b c h).1 ((barred_on a b c h).1 f.no_ac)) ((core_bars b a c h').1 ((barred_on b a c h').1 f.no_bc)),
        )
