-- The lowest species of a tree, and house order child by child: every child has a species below all those of the later children. Assumes nothing.
use mathlib.Core.Bool.{So, ◌||◌, false, false≢true}
use mathlib.Core.List.{List, [], ◌∷◌}
use mathlib.Core.Path.{◌∙◌, refl, sym}
use Prim.Native.Nat.{◌<◌, ◌≤◌, min, ℕ}
use native.Mathlib.Omega.{arith}
use borrow.Author.Tests.{eq-eqb, eqb-true, lt-ltb, ltb-true}
use lib.Dec.{eqb}
use Rattle.sets.proofs.Bools.{and_i, and_l, and_r, by_order, or_case, or_l, or_r}
use Rattle.trees.proofs.Formed.{Formed, FormedF, elem-leaves}
use Rattle.trees.specs.Trees.{Forest, Tree, before, cons, degree, elem, in_house_order, in_house_order_f, leaf, least, least_of, leaves, lowest, nil, node, under, under_f}

least-le : (x : ℕ) (l : List ℕ) (y : ℕ) → So (eqb x y || elem y l) → least x l ≤ y
least-le x [] y h = or_case (eqb x y) false h (λ e. let q = eqb-true x y e in omega arith) (λ k. absurd (false≢true k))
least-le x (z ∷ l) y h = or_case (eqb x y) (eqb z y || elem y l) h
    (λ e. let q = eqb-true x y e in omega (arith, least_first (min x z) l))
    (λ k. or_case (eqb z y) (elem y l) k (λ e. let q = eqb-true z y e in omega (arith, least_first (min x z) l)) (λ m. least-le (min x z) l y (or_r (eqb (min x z) y) _ m)))
  where
    least_first : (x : ℕ) (l : List ℕ) → least x l ≤ x
    least_first x [] = omega arith
    least_first x (y ∷ l) = omega (arith, least_first (min x y) l)

least_in : (x : ℕ) (l : List ℕ) → So (eqb x (least x l) || elem (least x l) l)
least_in x [] = or_l (eqb x x) _ (eq-eqb x x refl)
least_in x (y ∷ l) = let m = least (min x y) l in or_case (eqb (min x y) m) (elem m l) (least_in (min x y) l)
    (λ e. by_order x y
    (λ h. or_l (eqb x m) _ (eq-eqb x m (let q = eqb-true (min x y) m e in omega arith)))
    (λ h. or_l (eqb x m) _ (eq-eqb x m (let q = eqb-true (min x y) m e in omega arith)))
    (λ h. or_r (eqb x m) _ (or_l (eqb y m) _ (eq-eqb y m (let q = eqb-true (min x y) m e in omega arith)))))
    (λ k. or_r (eqb x m) _ (or_r (eqb y m) _ k))

least_of-le : (l : List ℕ) (y : ℕ) → So (elem y l) → least_of l ≤ y
least_of-le [] y h = absurd (false≢true h)
least_of-le (x ∷ l) y h = least-le x l y h

least_of_in : (l : List ℕ) (y : ℕ) → So (elem y l) → So (elem (least_of l) l)
least_of_in [] y h = h
least_of_in (x ∷ l) y h = least_in x l

pub lowest-le : (t : Tree) (y : ℕ) → So (under t y) → lowest t ≤ y
lowest-le t y h = least_of-le (leaves t) y (elem-leaves t y ∙ h)

-- no tree is empty
mutual
  pub some_species : (t : Tree) → Formed t → (x : ℕ) × So (under t x)
  some_species (leaf x) w = (x, eq-eqb x x refl)
  some_species (node f) w = some_species_f f (omega (arith, w.0)) w.1

  pub some_species_f : (f : Forest) → 1 ≤ degree f → FormedF f → (x : ℕ) × So (under_f f x)
  some_species_f nil le w = absurd (omega arith)
  some_species_f (cons t f) le w = let r = some_species t w.0 in (r.0, or_l (under t r.0) (under_f f r.0) r.1)

pub lowest_in : (t : Tree) → Formed t → So (under t (lowest t))
lowest_in t w = let r = some_species t w in sym (elem-leaves t (lowest t)) ∙ least_of_in (leaves t) r.0 (elem-leaves t r.0 ∙ r.1)

-- ---- house order

abbrev mutual
  pub Housed : Tree → Type 0
  Housed (leaf x) = Unit {0}
  Housed (node f) = HousedF f

  pub HousedF : Forest → Type 0
  HousedF nil = Unit {0}
  HousedF (cons t f) = Housed t × ((y : ℕ) → So (under_f f y) → (x : ℕ) × So (under t x) × (x < y)) × HousedF f

-- the first child's lowest species is below all the others, if it is below the next child's and those are in house order
first_low : (t : Tree) (f : Forest) → FormedF f → HousedF f → So (before t f) → (y : ℕ) → So (under_f f y) → lowest t < y
first_low t nil w h b y k = absurd (false≢true k)
first_low t (cons u f) w h b y k =
    let l : lowest t < lowest u = ltb-true (lowest t) (lowest u) b in
    or_case (under u y) (under_f f y) k (λ p. omega (arith, lowest-le u y p)) (λ p. let r = h.1 y p in omega (arith, r.2, lowest-le u r.0 r.1))

mutual
  pub housed_e : (t : Tree) → Formed t → So (in_house_order t) → Housed t
  housed_e (leaf x) w h = tt
  housed_e (node f) w h = housed_f_e f w.1 h

  housed_f_e : (f : Forest) → FormedF f → So (in_house_order_f f) → HousedF f
  housed_f_e nil w h = tt
  housed_f_e (cons t f) w h =
      let k = and_r (in_house_order t) _ h in
      let r = housed_f_e f w.2 (and_r (before t f) _ k) in
      (housed_e t w.0 (and_l (in_house_order t) _ h), (λ y p. (lowest t, lowest_in t w.0, first_low t f w.2 r (and_l (before t f) _ k) y p)), r)

before_i : (t : Tree) (f : Forest) → FormedF f → ((y : ℕ) → So (under_f f y) → lowest t < y) → So (before t f)
before_i t nil w h = refl
before_i t (cons u f) w h = lt-ltb (lowest t) (lowest u) (h (lowest u) (or_l (under u (lowest u)) _ (lowest_in u w.0)))

mutual
  pub housed_i : (t : Tree) → Formed t → Housed t → So (in_house_order t)
  housed_i (leaf x) w h = refl
  housed_i (node f) w h = housed_f_i f w.1 h

  housed_f_i : (f : Forest) → FormedF f → HousedF f → So (in_house_order_f f)
  housed_f_i nil w h = refl
  housed_f_i (cons t f) w h = and_i (in_house_order t) _ (housed_i t w.0 h.0) (and_i (before t f) _
      (before_i t f w.2 (λ y p. let r = h.1 y p in omega (arith, r.2, lowest-le t r.0 r.1))) (housed_f_i f w.2 h.2))
