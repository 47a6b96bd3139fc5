-- The connected parts of a set under its links: each is closed, and the least closed set with its species; together they are the set, and
-- no two meet. Assumes nothing.
use mathlib.Core.Bool.{So, ◌&&◌}
use mathlib.Core.Path.{◌≡◌, refl, subst, sym}
use Prim.Native.Nat.{◌<◌, ◌≤◌, suc, zero, ℕ}
use native.Mathlib.Omega.{arith}
use borrow.Author.Tests.{eq-eqb, eqb-true}
use lib.Dec.{eqb}
use lib.ListN.{length, length-map}
use Rattle.sets.proofs.Bools.{and_i, and_l, and_r, by_order, lt_of_ne, not_e, not_i, or_case, or_l, or_r, test}
use Rattle.sets.proofs.Members.{Apart, Every, any_e, any_i, any_of, from-apart, from_e, from_every, from_i, from-two, from_uniq, least_of_lem}
use Rattle.sets.specs.Species.{Below, Species, any, from, members}
use Rattle.trees.specs.Links.{Closed, Joined, leads, linked, part, parts, reach}
use Rattle.trees.specs.Triplets.{Proper, Triplets}

module _ (E : Triplets) (N : ℕ) (S : Species) (bd : Below N S) where
  pub linked_e : (a b : ℕ) → So (linked E N S a b) → So (S a) × So (S b) × ((c : ℕ) × So (S c) × So (E a b c))
  linked_e a b h =
      let h₁ = and_r (S a) _ h in
      let w = any_e N (λ c. S c && E a b c) (and_r (S b) _ h₁) in
      (and_l (S a) _ h, and_l (S b) _ h₁, (w.0, and_l (S w.0) _ w.2, and_r (S w.0) _ w.2))

  pub linked_i : (a b c : ℕ) → So (S a) → So (S b) → So (S c) → So (E a b c) → So (linked E N S a b)
  linked_i a b c ha hb hc e = and_i (S a) _ ha (and_i (S b) _ hb (any_i N (λ d. S d && E a b d) c (bd c hc) (and_i (S c) _ hc e)))

  reach_refl : (k a : ℕ) → So (reach E N S k a a)
  reach_refl zero a = or_l (eqb a a) _ (eq-eqb a a refl)
  reach_refl (suc k) a = or_l (reach E N S k a a) _ (reach_refl k a)

  reach_link : (k a b : ℕ) → So (linked E N S a b) → So (reach E N S k a b)
  reach_link zero a b h = or_r (eqb a b) _ h
  reach_link (suc k) a b h = or_l (reach E N S k a b) _ (reach_link k a b h)

  -- whatever is closed and has a has all that a reaches
  reach-least : (X : Species) → Closed E S X → (k a b : ℕ) → So (reach E N S k a b) → So (X a) → So (X b)
  reach-least X cl zero a b h p = or_case (eqb a b) (linked E N S a b) h
      (λ e. subst (λ (z : ℕ). So (X z)) (eqb-true a b e) p)
      (λ l. let w = linked_e a b l in cl a b w.2.0 p w.0 w.1 w.2.1 w.2.2)
  reach-least X cl (suc k) a b h p = or_case (reach E N S k a b) _ h
      (λ j. reach-least X cl k a b j p)
      (λ j. reach-least X cl k k b (and_r (reach E N S k a k) _ j) (reach-least X cl k a k (and_l (reach E N S k a k) _ j) p))

  reach_sym : Proper E → (k a b : ℕ) → So (reach E N S k a b) → So (reach E N S k b a)
  reach_sym pr zero a b h = or_case (eqb a b) (linked E N S a b) h
      (λ e. or_l (eqb b a) _ (eq-eqb b a (sym (eqb-true a b e))))
      (λ l. let w = linked_e a b l in or_r (eqb b a) _ (linked_i b a w.2.0 w.1 w.0 w.2.1 (pr.swap a b w.2.0 w.2.2)))
  reach_sym pr (suc k) a b h = or_case (reach E N S k a b) _ h
      (λ j. or_l (reach E N S k b a) _ (reach_sym pr k a b j))
      (λ j. or_r (reach E N S k b a) _ (and_i (reach E N S k b k) _
      (reach_sym pr k k b (and_r (reach E N S k a k) _ j)) (reach_sym pr k a k (and_l (reach E N S k a k) _ j))))

  -- at the species k itself one more step adds nothing
  to_k : (k a : ℕ) → So (reach E N S (suc k) a k) → So (reach E N S k a k)
  to_k k a h = or_case (reach E N S k a k) _ h (λ j. j) (λ j. and_l (reach E N S k a k) _ j)

  from_k : (k a : ℕ) → So (reach E N S (suc k) k a) → So (reach E N S k k a)
  from_k k a h = or_case (reach E N S k k a) _ h (λ j. j) (λ j. and_r (reach E N S k k k) _ j)

  reach_trans : (k a b c : ℕ) → b < k → So (reach E N S k a b) → So (reach E N S k b c) → So (reach E N S k a c)
  reach_trans zero a b c lt p q = absurd (omega arith)
  reach_trans (suc k) a b c lt p q = test (eqb b k)
      (λ e. let eq = eqb-true b k e in or_r (reach E N S k a c) _ (and_i (reach E N S k a k) _
      (to_k k a (subst (λ (z : ℕ). So (reach E N S (suc k) a z)) eq p)) (from_k k c (subst (λ (z : ℕ). So (reach E N S (suc k) z c)) eq q))))
      (λ ne. let lt' = lt_of_ne b k lt ne in
      or_case (reach E N S k a b) _ p
      (λ p₁. or_case (reach E N S k b c) _ q
      (λ q₁. or_l (reach E N S k a c) _ (reach_trans k a b c lt' p₁ q₁))
      (λ q₁. or_r (reach E N S k a c) _ (and_i (reach E N S k a k) _ (reach_trans k a b k lt' p₁ (and_l (reach E N S k b k) _ q₁)) (and_r (reach E N S k b k) _ q₁))))
      (λ p₁. or_case (reach E N S k b c) _ q
      (λ q₁. or_r (reach E N S k a c) _ (and_i (reach E N S k a k) _ (and_l (reach E N S k a k) _ p₁) (reach_trans k k b c lt' (and_r (reach E N S k a k) _ p₁) q₁)))
      (λ q₁. or_r (reach E N S k a c) _ (and_i (reach E N S k a k) _ (and_l (reach E N S k a k) _ p₁) (and_r (reach E N S k b k) _ q₁)))))

  module _ (pr : Proper E) where
    pub part_refl : (a : ℕ) → So (part E N S a a)
    unfolding part
    part_refl a = reach_refl N a

    pub part_sym : (a b : ℕ) → So (part E N S a b) → So (part E N S b a)
    unfolding part
    part_sym a b h = reach_sym pr N a b h

    pub part_trans : (a b c : ℕ) → So (S b) → So (part E N S a b) → So (part E N S b c) → So (part E N S a c)
    unfolding part
    part_trans a b c hb p q = reach_trans N a b c (bd b hb) p q

    pub part-least : (X : Species) → Closed E S X → (a b : ℕ) → So (part E N S a b) → So (X a) → So (X b)
    unfolding part
    part-least X cl a b h p = reach-least X cl N a b h p

    pub part_link : (a b c : ℕ) → So (S a) → So (S b) → So (S c) → So (E a b c) → So (part E N S a b)
    unfolding part
    part_link a b c ha hb hc e = reach_link N a b (linked_i a b c ha hb hc e)

    pub part_closed : (i : ℕ) → Closed E S (part E N S i)
    part_closed i a b c p ha hb hc e = part_trans i a b ha p (part_link a b c ha hb hc e)

    pub part_in : (i x : ℕ) → So (S i) → So (part E N S i x) → So (S x)
    part_in i x hi h = part-least S (λ a b c p ha hb hc e. hb) i x h hi

    -- every species has a first one of its part
    pub leads_of : (x : ℕ) → So (S x) → (j : ℕ) × (j < N) × So (leads E N S j) × So (part E N S j x)
    unfolding leads
    leads_of x hx =
        let P : Species = λ j. S j && part E N S j x in
        let r = least_of_lem N P (any_i N P x (bd x hx) (and_i (S x) _ hx (part_refl x))) in
        let j = r.0 in
        let hj = and_l (S j) (part E N S j x) r.2 in
        let jx = and_r (S j) (part E N S j x) r.2 in (
          j,
          r.1,
          and_i (S j) _ hj (not_i _ (λ h. let w = any_e j (λ i. S i && part E N S i j) h in
              not_e (any j P) r.3 (any_i j P w.0 w.1 (and_i (S w.0) _ (and_l (S w.0) _ w.2)
              (part_trans w.0 j x hj (and_r (S w.0) (part E N S w.0 j) w.2) jx))))),
          jx,
        )

    pub leads_in : (i : ℕ) → So (leads E N S i) → So (S i)
    unfolding leads
    leads_in i h = and_l (S i) _ h

    pub leads-lowest : (i j : ℕ) → So (leads E N S j) → i < j → So (S i) → So (part E N S i j) → ⊥
    unfolding leads
    leads-lowest i j h lt hi ij = not_e _ (and_r (S j) _ h) (any_i j (λ k. S k && part E N S k j) i lt (and_i (S i) _ hi ij))

    -- the laws of the parts
    pub parts_in : (x : ℕ) → So (any_of (parts E N S) x) → So (S x)
    unfolding parts members
    parts_in x h = let r = from_e (part E N S) (leads E N S) x N 0 h in part_in r.0 x (leads_in r.0 r.3) r.4

    pub parts_cover : (x : ℕ) → So (S x) → So (any_of (parts E N S) x)
    unfolding parts members
    parts_cover x h = let r = leads_of x h in from_i (part E N S) (leads E N S) x N 0 r.0 (omega arith) (omega (arith, r.1)) r.2 r.3

    pub parts-apart : Apart (parts E N S)
    unfolding parts members
    parts-apart = from-apart (part E N S) (leads E N S)
        (λ i j x lt p q h k. leads-lowest i j q lt (leads_in i p) (part_trans i x j (part_in i x (leads_in i p) h) h (part_sym j x k))) N 0

    pub parts_every : (Q : Species → Type 0) → ((j : ℕ) → So (S j) → So (leads E N S j) → Q (part E N S j)) → Every Q (parts E N S)
    unfolding parts members
    parts_every Q d = from_every (part E N S) (leads E N S) Q (λ j p. d j (leads_in j p) p) N 0

    -- one part: joined
    pub parts_one : length (parts E N S) ≤ 1 → Joined E S
    unfolding parts members
    parts_one le X cl u hu xu x hx =
        let f = leads_of u hu in
        let g = leads_of x hx in
        let le' : length (from 0 N (leads E N S)) ≤ 1 = omega (arith, length-map (from 0 N (leads E N S)) (part E N S)) in
        let two : (i j : ℕ) → i < j → j < N → So (leads E N S i) → So (leads E N S j) → ⊥
        = λ i j lt lt' p q. let k = from-two (leads E N S) N 0 i j (omega arith) lt (omega arith) p q in omega arith in
        let eq : f.0 ≡ g.0 = by_order f.0 g.0 (λ l. absurd (two f.0 g.0 l g.1 f.2 g.2)) (λ e. e)
        (λ l. absurd (two g.0 f.0 l f.1 g.2 f.2)) in
        part-least X cl u x (part_trans u f.0 x (leads_in f.0 f.2) (part_sym f.0 u f.3) (subst (λ (z : ℕ). So (part E N S z x)) (sym eq) g.3)) xu

    -- one part that is all: no other part
    pub parts_whole : (j : ℕ) → So (S j) → ((x : ℕ) → So (S x) → So (part E N S j x)) → length (parts E N S) ≤ 1
    unfolding parts members
    parts_whole j hj all =
        let uq : (a b : ℕ) → So (leads E N S a) → So (leads E N S b) → a ≡ b = λ a b p q.
        let ab : So (part E N S a b) = part_trans a j b hj (part_sym j a (all a (leads_in a p))) (all b (leads_in b q)) in
        by_order a b (λ l. absurd (leads-lowest a b q l (leads_in a p) ab)) (λ e. e) (λ l. absurd (leads-lowest b a p l (leads_in b q) (part_sym a b ab))) in
        omega (arith, length-map (from 0 N (leads E N S)) (part E N S), from_uniq (leads E N S) uq N 0)

    pub leads_i : (j : ℕ) → So (S j) → ((i : ℕ) → i < j → So (S i) → So (part E N S i j) → ⊥) → So (leads E N S j)
    unfolding leads
    leads_i j hj f = and_i (S j) _ hj (not_i _ (λ h. let w = any_e j (λ i. S i && part E N S i j) h in
        f w.0 w.1 (and_l (S w.0) _ w.2) (and_r (S w.0) (part E N S w.0 j) w.2)))
