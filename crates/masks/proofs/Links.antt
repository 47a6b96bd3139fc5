-- The links of masks on a set: gathered species by species, they are the links of the triplets; and a group that its links join. Assumes nothing.
use mathlib.Core.Bool.{Bool, So, ◌&&◌, ◌||◌, and-false, and-not_self, and-true, false, false≢true, not, or-false, or-true, true}
use mathlib.Core.List.{List}
use mathlib.Core.Logic.{◌↔◌, ◌≢◌}
use mathlib.Core.Path.{◌∙◌, ◌≡◌, ap, fun_ext, refl, subst, sym}
use Prim.Native.Nat.{◌<◌, ◌^◌, ℕ}
use native.Mathlib.Decide.{ℕ_discrete}
use borrow.Author.Tests.{eq-eqb, eqb-true, ne_eqb}
use lib.Dec.{eqb}
use Rattle.sets.proofs.Bools.{and_i, and_l, and_r, bool_ext, ne_e, not_i}
use Rattle.sets.proofs.Digits.{lt_of_has}
use Rattle.sets.proofs.Facts.{empty_e}
use Rattle.sets.proofs.Least.{some_member}
use Rattle.sets.proofs.Members.{any_e, any_i}
use Rattle.sets.proofs.Tests.{has-below, has_empty, has_meet, has-minus, has-number, has-single, has_true, has-union, number-has, number-union, number_unique, true_has}
use Rattle.sets.specs.Floods.{Kept}
use Rattle.sets.specs.Sets.{Subset, has, meet, minus, number, single, union}
use Rattle.sets.specs.Species.{Below, Inside, Species, any, either}
use Rattle.sets.specs.Walks.{Turn}
use Rattle.trees.proofs.Parts.{part_closed, part-least, part_refl, part_sym}
use Rattle.trees.specs.Check.{Joins}
use Rattle.trees.specs.Links.{linked, part}
use Rattle.trees.specs.Triplets.{Proper, Triplets}
use Rattle.groups.proofs.Cells.{rest_lacks, rest_others}
use Rattle.groups.specs.Groups.{cell}
use Rattle.masks.specs.Filling.{ties, touch}
use Rattle.masks.specs.Masks.{Masks}

-- ---- a walk from the lowest species up: r has the species of s that are not left and for which P is so

pub record Gathered (P : Species) (s left r : ℕ) : Type 0 where
  pub inside : (k : ℕ) → So (has left k) → So (has s k)
  pub is : (k : ℕ) → has r k ≡ ((has s k && not (has left k)) && P k)

module _ (P : Species) (s : ℕ) where
  pub gather-start : (left : ℕ) → left ≡ s → Gathered P s left 0
  gather-start left e = rw e (record { inside = λ k h. h; is = λ k. has_empty k ∙ rw (and-not_self (has s k)) refl })

  module _ (left j left' r : ℕ) (t : Turn left j left') (g : Gathered P s left r) where
    in_left : So (has left j)
    in_left = true_has left j t.member

    inside' : (k : ℕ) → So (has left' k) → So (has s k)
    inside' k h = go (ℕ_discrete j k)
      where
        go : Dec (j ≡ k) → So (has s k)
        go (yes e) = absurd (false≢true (sym (rest_lacks left j left' t.lowest t.rest) ∙ rw e h))
        go (no m) = g.inside k (sym (rest_others left j left' t.lowest t.rest k m) ∙ h)

    -- what a step makes of r, at j and elsewhere
    gathered : (r' : ℕ) → has r' j ≡ P j → ((k : ℕ) → j ≢ k → has r' k ≡ has r k) → Gathered P s left' r'
    gathered r' here there = record { inside = inside'; is = λ k. go k (ℕ_discrete j k) }
      where
        go : (k : ℕ) → Dec (j ≡ k) → has r' k ≡ ((has s k && not (has left' k)) && P k)
        go k (yes e) = rw (← e, g.inside j in_left, rest_lacks left j left' t.lowest t.rest) here
        go k (no m) = there k m ∙ g.is k ∙ rw (rest_others left j left' t.lowest t.rest k m) refl

    pub gather_yes : (r' : ℕ) → P j ≡ true → r' ≡ union r (single j) → Gathered P s left' r'
    gather_yes r' p e = gathered r'
        (ap (λ (z : ℕ). has z j) e ∙ has-union r (single j) j ∙ rw (has-single j j, eq-eqb j j refl, p) (or-true (has r j)))
        (λ k m. ap (λ (z : ℕ). has z k) e ∙ has-union r (single j) k ∙ rw (has-single j k, ne_eqb j k m) (or-false (has r k)))

    pub gather_no : P j ≡ false → Gathered P s left' r
    gather_no p = gathered r (g.is j ∙ rw (p, and-false (has s j && not (has left j))) refl) (λ k m. refl)

  pub gather_end : (left r : ℕ) → s < 2 ^ 64 → left ≡ 0 → Gathered P s left r → r ≡ number 64 (λ k. has s k && P k)
  gather_end left r hs e g =
      let is : (k : ℕ) → has r k ≡ (has s k && P k) = λ k. g.is k ∙ rw (e, has_empty k, and-true (has s k)) refl in
      number_unique 64 r (λ k. has s k && P k)
      (lt_of_has 64 r (λ k h. has-below 64 s hs k (and_l (has s k) _ (sym (is k) ∙ true_has r k h))))
      (λ k _. is k)

-- what a test of the mask tells
module _ (m : List ℕ) (s i j v : ℕ) (e : v ≡ meet (cell m i j) s) where
  pub touch_yes : v ≢ 0 → touch m s i j ≡ true
  touch_yes n = ap not (ne_eqb (meet (cell m i j) s) 0 (λ z. n (e ∙ z)))

  pub touch_no : v ≡ 0 → touch m s i j ≡ false
  touch_no z = ap not (eq-eqb (meet (cell m i j) s) 0 (sym e ∙ z))

-- of what is linked to i, only what is not in x is looked for
module _ (m : List ℕ) (s i x f n : ℕ) (hx : x < 2 ^ 64) (ef : f ≡ minus s x) (en : n ≡ number 64 (λ j. has f j && touch m s i j)) (h : So (has s i)) where
  with_number : (Q : Species) → union x (number 64 Q) ≡ number 64 (either (has x) Q)
  with_number Q = ap (λ (z : ℕ). union z (number 64 Q)) (sym (number-has 64 x hx)) ∙ sym (number-union 64 (has x) Q)

  same : (j : ℕ) → either (has x) (λ k. has f k && touch m s i k) j ≡ either (has x) (ties m s i) j
  same j = rw (ef, has-minus s x j, h) (go (has x j) (has s j) (touch m s i j))
    where
      go : (p q r : Bool) → (p || ((q && not p) && r)) ≡ (p || (q && r))
      go true q r = refl
      go false q r = ap (λ (w : Bool). w && r) (and-true q)

  pub fresh_ties : union x n ≡ union x (number 64 (ties m s i))
  fresh_ties = ap (union x) en ∙ with_number (λ j. has f j && touch m s i j) ∙ ap (number 64) (fun_ext same) ∙ sym (with_number (ties m s i))

-- ---- the links of the triplets

module _ (E : Triplets) (m : List ℕ) (k : Masks E m) (s : ℕ) (hs : s < 2 ^ 64) where
  touch-any : (x y : ℕ) → x < 64 → y < 64 → touch m s x y ≡ any 64 (λ z. has s z && E x y z)
  touch-any x y hx hy =
      let both : (z : ℕ) → has (meet (cell m x y) s) z ≡ (has (number 64 (E x y)) z && has s z)
      = λ z. has_meet (cell m x y) s z ∙ ap (λ (w : ℕ). has w z && has s z) (k.mask x y hx hy) in
      bool_ext (touch m s x y) (any 64 (λ z. has s z && E x y z))
      (λ h. let w = some_member (meet (cell m x y) s) (ne_e (meet (cell m x y) s) 0 h) in
      let z = w.0 in
      let b = sym (both z) ∙ true_has (meet (cell m x y) s) z w.1 in
      let hz = and_r (has (number 64 (E x y)) z) _ b in
      let lz = has-below 64 s hs z hz in
      any_i 64 (λ z. has s z && E x y z) z lz (and_i (has s z) _ hz (sym (has-number 64 (E x y) z lz) ∙ and_l (has (number 64 (E x y)) z) _ b)))
      (λ h. let w = any_e 64 (λ z. has s z && E x y z) h in
      let z = w.0 in
      not_i (eqb (meet (cell m x y) s) 0) (λ e. empty_e z (subst (λ (v : ℕ). So (has v z)) (eqb-true (meet (cell m x y) s) 0 e)
      (both z ∙ and_i (has (number 64 (E x y)) z) _ (has-number 64 (E x y) z w.1 ∙ and_r (has s z) _ w.2) (and_l (has s z) _ w.2)))))

  pub ties-linked : (x y : ℕ) → ties m s x y ≡ linked E 64 (has s) x y
  ties-linked x y = under (has s x) (has s y) _ _ (λ hx hy. touch-any x y (has-below 64 s hs x hx) (has-below 64 s hs y hy))
    where
      under : (a b p q : Bool) → (So a → So b → p ≡ q) → (a && (b && p)) ≡ (a && (b && q))
      under true true p q f = f refl refl
      under true false p q f = refl
      under false b p q f = refl

-- what is linked on s lies in s
pub ties_kept : (m : List ℕ) (s : ℕ) → Kept (ties m s) (has s)
ties_kept m s i j h l t = and_l (has s j) _ (and_r (has s i) _ t)

-- ---- a group that its links join: all of it lies in the part of one of its species

pub part-joins : (E : Triplets) (N : ℕ) (S : Species) → Below N S → Proper E → (A : Species) (u : ℕ) → So (A u) → Inside A (part E N S u) ↔ Joins E S A
part-joins E N S bd pr A u hu = (
  λ f X cl v hv xv x hx. part-least E N S bd pr X cl u x (f x hx) (part-least E N S bd pr X cl v u (part_sym E N S bd pr u v (f v hv)) xv),
  λ j. j (part E N S u) (part_closed E N S bd pr u) u hu (part_refl E N S bd pr u),
)

pub beside_joins : (E : Triplets) → Proper E → (g h v p u : ℕ) (r : Bool) → v < 2 ^ 64 → v ≡ union g h → So (has g u) → has p ≡ part E 64 (has v) u
    → (r ≡ true) ↔ Subset g p → (r ≡ true) ↔ Joins E (either (has g) (has h)) (has g)
beside_joins E pr g h v p u r hv e hu q sub =
    let S : has v ≡ either (has g) (has h) = fun_ext (λ x. ap (λ (z : ℕ). has z x) e ∙ has-union g h x) in
    let j : Inside (has g) (part E 64 (has v) u) ↔ Joins E (has v) (has g) = part-joins E 64 (has v) (has-below 64 v hv) pr (has g) u hu in (
      λ t. subst (λ (P : Species). Joins E P (has g)) S (j.0 (λ x hx. subst (λ (P : Species). So (P x)) q (true_has p x (sub.0 t x (has_true g x hx))))),
      λ t. sub.1 (λ x hx. has_true p x (subst (λ (P : Species). So (P x)) (sym q) (j.1 (subst (λ (P : Species). Joins E P (has g)) (sym S) t) x (true_has g x hx)))),
    )
