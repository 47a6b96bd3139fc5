-- The parts of s that are still to come: those of the species that are left. Assumes nothing.
use mathlib.Core.Bool.{So, ◌&&◌, false}
use mathlib.Core.List.{List, [], ◌∷◌, map}
use mathlib.Core.Logic.{◌≢◌}
use mathlib.Core.Path.{◌∙◌, ◌≡◌, ap, subst, sym}
use Prim.Native.Nat.{◌+◌, ◌<◌, ◌^◌, ◌≤◌, suc, ℕ}
use native.Mathlib.Numerals.{add-one}
use native.Mathlib.Omega.{arith}
use borrow.Author.Tests.{not-true}
use lib.ListN.{length, length-map, set}
use lib.Seq.{sets}
use Rattle.sets.proofs.Bools.{and_i, and_l, and_r, bool_ext, by_order, not_i}
use Rattle.sets.proofs.Facts.{empty_e, minus_e, minus_i}
use Rattle.sets.proofs.Least.{lowest-least}
use Rattle.sets.proofs.Members.{members_bound}
use Rattle.sets.proofs.Ordered.{members_empty, members_pop, members_same}
use Rattle.sets.proofs.Sizes.{size_more}
use Rattle.sets.proofs.Tests.{has-below, has_false, has_true, number-has, true_has}
use Rattle.sets.specs.Floods.{Flooded}
use Rattle.sets.specs.Sets.{Lowest, has, minus, number, size}
use Rattle.sets.specs.Species.{Below, Species, members}
use Rattle.trees.proofs.Parts.{leads_i, leads_in, leads-lowest, part_in, part_refl, part_sym, part_trans}
use Rattle.trees.proofs.Flooding.{flooded_part}
use Rattle.trees.specs.Links.{leads, part, parts}
use Rattle.trees.specs.Triplets.{Proper, Triplets}
use Rattle.splitting.specs.Rows.{Rows, RowsShow, flag}
use Rattle.splitting.specs.Split.{parts_of}

unfoldable pub coming : Triplets → ℕ → ℕ → List ℕ
coming E s left = map (number 64) (map (part E 64 (has s)) (members 64 (λ i. leads E 64 (has s) i && has left i)))

-- the parts of s that have a species of what is left lie in it
pub record Whole (E : Triplets) (s left : ℕ) : Type 0 where
  pub inside : (x : ℕ) → So (has left x) → So (has s x)
  pub whole : (x y : ℕ) → So (has left x) → So (part E 64 (has s) x y) → So (has left y)

-- k parts stand at the front of l, and the others are still to come
pub record Listed (E : Triplets) (s : ℕ) (l₀ l : List ℕ) (left k : ℕ) : Type 0 where
  pub whole : Whole E s left
  pub count : k + length (coming E s left) ≡ length (parts_of E s)
  pub stored : sets l k (coming E s left) ≡ sets l₀ 0 (parts_of E s)

-- what listing one more part comes to
pub record Next (E : Triplets) (s : ℕ) (l₀ l : List ℕ) (left k p : ℕ) : Type 0 where
  pub room : k < 64
  pub more : (left' : ℕ) → left' ≡ minus left p → Listed E s l₀ (set l k p) left' (k + 1)
  pub less : (left' : ℕ) → left' ≡ minus left p → size left' < size left

to_false : (P : Species) (x : ℕ) → (So (P x) → ⊥) → P x ≡ false
to_false P x f = not-true (P x) (not_i (P x) f)

module _ (E : Triplets) (pr : Proper E) (s : ℕ) (hs : s < 2 ^ 64) where
  abbrev bd : Below 64 (has s)
  bd = has-below 64 s hs

  abbrev led : ℕ → Species
  led left i = leads E 64 (has s) i && has left i

  led_e : (left i : ℕ) → So (led left i) → So (leads E 64 (has s) i) × So (has left i)
  led_e left i h = (and_l (leads E 64 (has s) i) (has left i) h, and_r (leads E 64 (has s) i) (has left i) h)

  led_i : (left i : ℕ) → So (leads E 64 (has s) i) → So (has left i) → So (led left i)
  led_i left i p h = and_i (leads E 64 (has s) i) (has left i) p h

  abbrev listed : List ℕ → List ℕ
  listed l = map (number 64) (map (part E 64 (has s)) l)

  whole_start : Whole E s s
  whole_start = record { inside = λ x h. h; whole = λ x y h p. part_in E 64 (has s) bd pr x y h p }

  coming_start : coming E s s ≡ parts_of E s
  unfolding coming parts_of parts
  coming_start = ap listed (members_same 64 (led s) (leads E 64 (has s))
      (λ x l. bool_ext (led s x) (leads E 64 (has s) x) (λ h. (led_e s x h).0) (λ h. led_i s x h (leads_in E 64 (has s) bd pr x h))))

  parts_bound : length (parts_of E s) ≤ 64
  unfolding coming
  parts_bound =
      let l = members 64 (led s) in
      omega (arith, ap length coming_start, length-map (map (part E 64 (has s)) l) (number 64), length-map l (part E 64 (has s)), members_bound 64 (led s))

  coming_end : coming E s 0 ≡ []
  unfolding coming
  coming_end = ap listed (members_same 64 (led 0) (has 0)
      (λ x l. bool_ext (led 0 x) (has 0 x) (λ h. (led_e 0 x h).1) (λ h. absurd (empty_e x h)))
      ∙ members_empty 64)

  -- the part of the lowest species comes next
  module _ (left : ℕ) (n : left ≢ 0) (a : ℕ) (lo : Lowest left a) (w : Whole E s left) where
    a_left : So (has left a)
    a_left = true_has left a (lo.member n)

    a_in : So (has s a)
    a_in = w.inside a a_left

    below_a : (j : ℕ) → j < a → So (has left j) → ⊥
    below_a j l h = omega (arith, has_true left j h, lowest-least left j (subst (λ (z : ℕ). j < z) lo.is l))

    a_leads : So (leads E 64 (has s) a)
    a_leads = leads_i E 64 (has s) bd pr a a_in (λ i l hi q. below_a i l (w.whole a i a_left (part_sym E 64 (has s) bd pr i a q)))

    module _ (p : ℕ) (hp : p < 2 ^ 64) (e : has p ≡ part E 64 (has s) a) where
      p_part : (x : ℕ) → So (has p x) → So (part E 64 (has s) a x)
      p_part x h = subst (λ (P : Species). So (P x)) e h

      part_p : (x : ℕ) → So (part E 64 (has s) a x) → So (has p x)
      part_p x h = subst (λ (P : Species). So (P x)) (sym e) h

      p_has : So (has p a)
      p_has = part_p a (part_refl E 64 (has s) bd pr a)

      -- no other part begins in this one
      alone : (j : ℕ) → a ≢ j → So (led left j) → So (has p j) → ⊥
      alone j ne h q = by_order a j
          (λ l. leads-lowest E 64 (has s) bd pr a j (led_e left j h).0 l a_in (p_part j q))
          ne
          (λ l. below_a j l (led_e left j h).1)

      whole_next : Whole E s (minus left p)
      whole_next = record {
        inside = λ x h. w.inside x (minus_e left p x h).0;
        whole = λ x y h q. let r = minus_e left p x h in
            let hy = w.whole x y r.0 q in
            minus_i left p y hy (λ k. r.1 (part_p x (part_trans E 64 (has s) bd pr a y x (w.inside y hy) (p_part y k) (part_sym E 64 (has s) bd pr x y q))));
      }

      coming_next : coming E s left ≡ p ∷ coming E s (minus left p)
      unfolding coming
      coming_next =
          ap listed (members_pop (led left) (led (minus left p)) a
          (led_i left a a_leads a_left)
          (λ j l. to_false (led left) j (λ h. below_a j l (led_e left j h).1))
          (to_false (led (minus left p)) a (λ h. (minus_e left p a (led_e (minus left p) a h).1).1 p_has))
          (λ j ne. bool_ext (led (minus left p) j) (led left j)
          (λ h. let r = led_e (minus left p) j h in led_i left j r.0 (minus_e left p j r.1).0)
          (λ h. let r = led_e left j h in led_i (minus left p) j r.0 (minus_i left p j r.1 (alone j ne h))))
          64 (bd a a_in))
          ∙ ap (λ (x : ℕ). x ∷ listed (members 64 (led (minus left p)))) (ap (number 64) (sym e) ∙ number-has 64 p hp)

      size-next : size (minus left p) < size left
      size-next = size_more (minus left p) left a (λ i h. has_true left i (minus_e left p i (true_has (minus left p) i h)).0)
          (has_false (minus left p) a (to_false (has (minus left p)) a (λ h. (minus_e left p a h).1 p_has))) (lo.member n)

  -- ---- the list

  pub listed_start : (l : List ℕ) → Listed E s l l s 0
  listed_start l = record { whole = whole_start; count = omega (arith, ap length coming_start); stored = ap (sets l 0) coming_start }

  pub listed_end : (l₀ l : List ℕ) (left k : ℕ) → left ≡ 0 → Listed E s l₀ l left k → (k ≡ length (parts_of E s)) × (l ≡ sets l₀ 0 (parts_of E s))
  listed_end l₀ l left k e w =
      let z : coming E s left ≡ [] = ap (coming E s) e ∙ coming_end in
      (omega (arith, w.count, ap length z), sym (ap (sets l k) z) ∙ w.stored)

  module _ (g : Rows) (sh : RowsShow g E s) (l₀ l : List ℕ) (left k : ℕ) (n : left ≢ 0) (a : ℕ) (lo : Lowest left a) (p : ℕ) (hp : p < 2 ^ 64) (f : Flooded (flag g) a p)
      (w : Listed E s l₀ l left k) where
    is_part : has p ≡ part E 64 (has s) a
    unfolding RowsShow
    is_part = flooded_part E pr s hs (flag g) a p (a_in left n a lo w.whole) sh f

    next : coming E s left ≡ p ∷ coming E s (minus left p)
    next = coming_next left n a lo w.whole p hp is_part

    listed_minus : Listed E s l₀ (set l k p) (minus left p) (suc k)
    listed_minus = record {
      whole = whole_next left n a lo w.whole p hp is_part;
      count = omega (arith, w.count, ap length next);
      stored = sym (ap (sets l k) next) ∙ w.stored;
    }

    pub listed_next : Next E s l₀ l left k p
    listed_next = record {
      room = omega (arith, w.count, ap length next, parts_bound);
      more = λ left' e. rw (e, add-one k) listed_minus;
      less = λ left' e. rw e (size-next left n a lo w.whole p hp is_part);
    }
