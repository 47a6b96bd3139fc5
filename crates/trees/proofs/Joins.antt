-- A joined set, in three ways that say the same: there is one part; every closed set with one species of it has it all; any two of its species
-- are linked by a walk. Assumes nothing.
use mathlib.Core.Bool.{So, ◌&&◌, not}
use mathlib.Core.Logic.{◌≢◌}
use mathlib.Core.Path.{refl, subst, sym}
use Prim.Native.Nat.{◌≤◌, suc, zero, ℕ}
use native.Mathlib.Omega.{arith}
use borrow.Author.Tests.{eq-eqb, eqb-true}
use lib.Dec.{eqb}
use lib.ListN.{get_or, length}
use Rattle.sets.proofs.Bools.{and_i, and_l, and_r, not_e, not_i, or_case}
use Rattle.sets.proofs.Members.{any_e, members_head, members-lt, members-two}
use Rattle.sets.specs.Species.{Below, Inside, Species, Two, members}
use Rattle.trees.proofs.Outcomes.{any_of_length, length-lone, lone-length, many}
use Rattle.trees.proofs.Parts.{part_closed, part_refl, parts_cover, parts_one, parts_whole}
use Rattle.trees.proofs.Stopping.{Stopping, two-species}
use Rattle.trees.specs.Links.{Closed, Joined, JoinedByWalks, Walk, joined, linked, part, parts, reach, stay, via}
use Rattle.trees.specs.Triplets.{Proper, Triplets}

module _ (E : Triplets) (N : ℕ) (pr : Proper E) (U : Species) (bd : Below N U) where
  pub joined_e : So (joined E N U) → Joined E U
  joined_e h = parts_one E N U bd pr (omega (arith, lone-length (parts E N U) h))

  pub joined_i : (u : ℕ) → So (U u) → Joined E U → So (joined E N U)
  joined_i u hu j = length-lone (parts E N U) (omega (
    arith,
    any_of_length (parts E N U) u (parts_cover E N U bd pr u hu),
    parts_whole E N U bd pr u hu (j (part E N U u) (part_closed E N U bd pr u) u hu (part_refl E N U bd pr u)),
  ))

module _ (E : Triplets) (U : Species) where
  pub follow : (X : Species) → Closed E U X → (a b : ℕ) → Walk E U a b → So (X a) → So (X b)
  follow X cl a b (stay z) h = h
  follow X cl a b (via z i j ha hi hj e k) h = follow X cl i b k (cl z i j h ha hi hj e)

  onward : (a b c : ℕ) → Walk E U a b → Walk E U b c → Walk E U a c
  onward a b c (stay z) k = k
  onward a b c (via z i j ha hi hj e w) k = via z i j ha hi hj e (onward i b c w k)

  walk : (N k a b : ℕ) → So (reach E N U k a b) → Walk E U a b
  walk N zero a b h = or_case (eqb a b) (linked E N U a b) h
      (λ e. subst (λ (z : ℕ). Walk E U a z) (eqb-true a b e) (stay a))
      (λ l. let m = and_r (U a) _ l in let w = any_e N (λ c. U c && E a b c) (and_r (U b) _ m) in
      via a b w.0 (and_l (U a) _ l) (and_l (U b) _ m) (and_l (U w.0) _ w.2) (and_r (U w.0) _ w.2) (stay b))
  walk N (suc k) a b h = or_case (reach E N U k a b) _ h (λ j. walk N k a b j)
      (λ j. onward a k b (walk N k a k (and_l (reach E N U k a k) _ j)) (walk N k k b (and_r (reach E N U k a k) _ j)))

  pub part_walk : (N a b : ℕ) → So (part E N U a b) → Walk E U a b
  unfolding part
  part_walk N a b h = walk N N a b h

  pub walks_joined : JoinedByWalks E U → Joined E U
  walks_joined l X cl u hu xu x hx = follow X cl u x (l u x hu hx) xu

  pub joined_walks : (N : ℕ) → Proper E → Below N U → Joined E U → JoinedByWalks E U
  joined_walks N pr bd c a b ha hb = part_walk N a b (c (part E N U a) (part_closed E N U bd pr a) a ha (part_refl E N U bd pr a) b hb)

-- ---- two species, and three

pub three : (N : ℕ) (S : Species) → Below N S → (a b c : ℕ) → So (S a) → So (S b) → So (S c) → a ≢ b → a ≢ c → b ≢ c → 3 ≤ length (members N S)
three N S bd a b c ha hb hc ab ac bc =
    let Q : Species = λ x. S x && not (eqb c x) in
    let sub : Inside Q S = λ x h. and_l (S x) _ h in
    let q : (x : ℕ) → So (S x) → x ≢ c → So (Q x) = λ x h n. and_i (S x) _ h (not_i (eqb c x) (λ e. n (sym (eqb-true c x e)))) in
    omega (
      arith,
      members-two N Q (λ x h. bd x (sub x h)) a b (q a ha ac) (q b hb bc) ab,
      members-lt N Q S sub c (bd c hc) (not_i (Q c) (λ h. not_e (eqb c c) (and_r (S c) _ h) (eq-eqb c c refl))) hc,
    )

-- a joined set with two species has a third: a link needs one
pub stopping_three : (E : Triplets) (N : ℕ) → Proper E → (S U : Species) → Below N U → Stopping E S U → 3 ≤ length (members N U)
stopping_three E N pr S U bd b = let (u, v, hu, hv, ne) = b.two in go (joined_walks E U N pr bd b.join u v hu hv) ne
  where
    go : {x y : ℕ} → Walk E U x y → x ≢ y → 3 ≤ length (members N U)
    go (stay z) n = absurd (n refl)
    go (via x y z hx hy hz e w) n = three N U bd x y z hx hy hz (pr.two x y z e) (pr.third x y z e) (pr.third y x z (pr.swap x y z e))

pub two-members : (N : ℕ) (U : Species) → Below N U → 2 ≤ length (members N U) → Two U
two-members N U bd h =
    let a = get_or (members N U) 0 0 in
    let ha : So (U a) = members_head N U (omega arith) in
    let w = two-species N U bd a ha (many (members N U) h) in
    (a, w.0, ha, w.1, w.2)
