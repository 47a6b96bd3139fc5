-- A well-formed tree, child by child: each inner node has two or more children, and no species stands under two of them. Assumes nothing.
use mathlib.Core.Bool.{Bool, So, ◌&&◌, ◌||◌, false≢true, not, or_assoc, or-false, true}
use mathlib.Core.List.{List, [], ◌++◌, ◌∷◌}
use mathlib.Core.Path.{◌∙◌, ◌≡◌, ap, ap₂, refl, subst, sym}
use Prim.Native.Nat.{◌≤◌, ℕ}
use borrow.Author.Tests.{eq-eqb, eqb-true, le-leb, leb-true}
use lib.Dec.{eqb, leb}
use Rattle.sets.proofs.Bools.{and_i, and_l, and_r, not_e, not_i, or_case, or_l, or_r}
use Rattle.sets.specs.Species.{Inside, Species}
use Rattle.trees.specs.Trees.{Forest, Tree, branching, branching_f, cons, degree, distinct, elem, leaf, leaves, leaves_f, nil, node, under, under_f, well_formed}

abbrev mutual
  pub Formed : Tree → Type 0
  Formed (leaf x) = Unit {0}
  Formed (node f) = (2 ≤ degree f) × FormedF f

  pub FormedF : Forest → Type 0
  FormedF nil = Unit {0}
  FormedF (cons t f) = Formed t × ((x : ℕ) → So (under t x) → So (under_f f x) → ⊥) × FormedF f

elem-append : (x : ℕ) (l m : List ℕ) → elem x (l ++ m) ≡ (elem x l || elem x m)
elem-append x [] m = refl
elem-append x (y ∷ l) m = ap (λ (z : Bool). eqb y x || z) (elem-append x l m) ∙ sym (or_assoc (eqb y x) (elem x l) (elem x m))

-- the leaves are the species under the root
mutual
  pub elem-leaves : (t : Tree) (x : ℕ) → elem x (leaves t) ≡ under t x
  elem-leaves (leaf y) x = or-false (eqb y x)
  elem-leaves (node f) x = elem-leaves_f f x

  pub elem-leaves_f : (f : Forest) (x : ℕ) → elem x (leaves_f f) ≡ under_f f x
  elem-leaves_f nil x = refl
  elem-leaves_f (cons t f) x = elem-append x (leaves t) (leaves_f f) ∙ ap₂ (λ (y z : Bool). y || z) (elem-leaves t x) (elem-leaves_f f x)

-- so they lie in S where each leaf does
abbrev pub all_in' : Species → List ℕ → Bool
all_in' S [] = true
all_in' S (x ∷ l) = S x && all_in' S l

elem_in : (S : Species) (l : List ℕ) → So (all_in' S l) → (x : ℕ) → So (elem x l) → So (S x)
elem_in S [] h x k = absurd (false≢true k)
elem_in S (y ∷ l) h x k = or_case (eqb y x) (elem x l) k (λ e. subst (λ (z : ℕ). So (S z)) (eqb-true y x e) (and_l (S y) _ h)) (elem_in S l (and_r (S y) _ h) x)

pub leaves_in : (t : Tree) (S : Species) → So (all_in' S (leaves t)) → Inside (under t) S
leaves_in t S h x k = elem_in S (leaves t) h x (elem-leaves t x ∙ k)

-- ---- no species twice in two lists: in neither, and none in both

distinct_e : (l m : List ℕ) → So (distinct (l ++ m)) → So (distinct l) × ((x : ℕ) → So (elem x l) → So (elem x m) → ⊥) × So (distinct m)
distinct_e [] m h = (refl, (λ x p q. false≢true p), h)
distinct_e (y ∷ l) m h =
    let r = distinct_e l m (and_r (not (elem y (l ++ m))) _ h) in
    let n : (So (elem y l || elem y m)) → ⊥ = λ k. not_e (elem y (l ++ m)) (and_l (not (elem y (l ++ m))) _ h) (elem-append y l m ∙ k) in (
      and_i (not (elem y l)) _ (not_i (elem y l) (λ k. n (or_l (elem y l) _ k))) r.0,
      (λ x p q. or_case (eqb y x) (elem x l) p (λ e. n (or_r (elem y l) _ (subst (λ (z : ℕ). So (elem z m)) (sym (eqb-true y x e)) q))) (λ k. r.1 x k q)),
      r.2,
    )

distinct_i : (l m : List ℕ) → So (distinct l) → ((x : ℕ) → So (elem x l) → So (elem x m) → ⊥) → So (distinct m) → So (distinct (l ++ m))
distinct_i [] m p d q = q
distinct_i (y ∷ l) m p d q = and_i (not (elem y (l ++ m))) _
    (not_i (elem y (l ++ m)) (λ k. or_case (elem y l) (elem y m) (sym (elem-append y l m) ∙ k)
    (not_e (elem y l) (and_l (not (elem y l)) _ p)) (d y (or_l (eqb y y) _ (eq-eqb y y refl)))))
    (distinct_i l m (and_r (not (elem y l)) _ p) (λ x r s. d x (or_r (eqb y x) _ r) s) q)

-- ---- the computed test is the statement

mutual
  formed_t : (t : Tree) → So (branching t) → So (distinct (leaves t)) → Formed t
  formed_t (leaf x) b d = tt
  formed_t (node f) b d = (leb-true 2 (degree f) (and_l (leb 2 (degree f)) _ b), formed_f f (and_r (leb 2 (degree f)) _ b) d)

  formed_f : (f : Forest) → So (branching_f f) → So (distinct (leaves_f f)) → FormedF f
  formed_f nil b d = tt
  formed_f (cons t f) b d =
      let r = distinct_e (leaves t) (leaves_f f) d in
      (formed_t t (and_l (branching t) _ b) r.0, (λ x p q. r.1 x (elem-leaves t x ∙ p) (elem-leaves_f f x ∙ q)), formed_f f (and_r (branching t) _ b) r.2)

mutual
  t_formed : (t : Tree) → Formed t → So (branching t) × So (distinct (leaves t))
  t_formed (leaf x) w = (refl, refl)
  t_formed (node f) w = let r = f_formed f w.1 in (and_i (leb 2 (degree f)) _ (le-leb 2 (degree f) w.0) r.0, r.1)

  f_formed : (f : Forest) → FormedF f → So (branching_f f) × So (distinct (leaves_f f))
  f_formed nil w = (refl, refl)
  f_formed (cons t f) w =
      let p = t_formed t w.0 in
      let q = f_formed f w.2 in (
        and_i (branching t) _ p.0 q.0,
        distinct_i (leaves t) (leaves_f f) p.1 (λ x a b. w.1 x (sym (elem-leaves t x) ∙ a) (sym (elem-leaves_f f x) ∙ b)) q.1,
      )

pub formed_e : (t : Tree) → So (well_formed t) → Formed t
formed_e t h = formed_t t (and_l (branching t) _ h) (and_r (branching t) _ h)

pub formed_i : (t : Tree) → Formed t → So (well_formed t)
formed_i t w = let r = t_formed t w in and_i (branching t) _ r.0 r.1
