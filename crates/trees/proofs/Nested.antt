-- Fully nested trees: their triples are exactly C(s+1,4), in house order they are fully nested too, and there is one for every number of species. Assumes nothing.
use mathlib.Core.Bool.{◌||◌, false, false≢true}
use mathlib.Core.List.{[], ◌∷◌}
use mathlib.Core.Path.{◌∙◌, ◌≡◌, ap, refl, sym}
use Prim.Native.Nat.{suc, zero, ℕ}
use native.Mathlib.Omega.{arith}
use borrow.Author.Tests.{eq-eqb, eqb-true, lt-ltb, ltb-true}
use lib.Dec.{eqb, ltb}
use lib.ListN.{length, length-append}
use Rattle.sets.proofs.Bools.{bool_ext, ne_e, or_case, or_l, or_r, test}
use Rattle.sets.specs.Species.{Below, below}
use Rattle.trees.proofs.Combinations.{C-rule, C-two_four}
use Rattle.trees.proofs.Formed.{Formed}
use Rattle.trees.proofs.House.{by_low}
use Rattle.trees.proofs.Sizes.{size, size_empty, size_one}
use Rattle.trees.proofs.Weights.{first_below, others_below, size-cons, weight, weight_cons, weight_f}
use Rattle.trees.specs.Combinations.{C}
use Rattle.trees.specs.Trees.{Forest, Tree, cons, house, leaf, leaves, nil, node, under, under_f}
use Rattle.trees.specs.Visits.{Nested, leaf_first, leaf_last, nest, one}

module _ (N : ℕ) where
  -- a node over a leaf and t
  one_more : (f : Forest) (t : Tree) → weight_f N f ≡ weight N t → size N (under_f f) ≡ suc (size N (under t)) → weight N t ≡ C (suc (size N (under t))) 4
      → weight N (node f) ≡ C (suc (size N (under_f f))) 4
  one_more f t e n h = rw n (omega (arith, C-rule (suc (size N (under t))) 3))

  pub nested_weight : (t : Tree) → Nested t → Formed t → Below N (under t) → weight N t ≡ C (suc (size N (under t))) 4
  nested_weight t (one x) w bd = sym C-two_four ∙ ap (λ (s : ℕ). C (suc s) 4) (sym (size_one N x (bd x (eq-eqb x x refl))))
  nested_weight t (leaf_first x {t = s} q) w bd =
      let f = cons s nil in
      one_more (cons (leaf x) f) s
      (omega (arith, weight_cons N (leaf x) f, weight_cons N s nil))
      (omega (arith, size-cons N (leaf x) f w.1, size-cons N s nil w.1.2, size_one N x (bd x (or_l (eqb x x) (under_f f x) (eq-eqb x x refl))), size_empty N))
      (nested_weight s q w.1.2.0 (first_below N s nil (others_below N (leaf x) f bd)))
  nested_weight t (leaf_last x {t = s} q) w bd =
      let f = cons (leaf x) nil in
      let xbd = first_below N (leaf x) nil (others_below N s f bd) in
      one_more (cons s f) s
      (omega (arith, weight_cons N s f, weight_cons N (leaf x) nil))
      (omega (arith, size-cons N s f w.1, size-cons N (leaf x) nil w.1.2, size_one N x (xbd x (eq-eqb x x refl)), size_empty N))
      (nested_weight s q w.1.0 (first_below N s f bd))

pub nested_house : (t : Tree) → Nested t → Nested (house t)
nested_house t (one x) = one x
nested_house t (leaf_first x {t = s} q) = by_low (leaf x) (house s) nil (λ z. Nested (node z)) (λ l. leaf_first x (nested_house s q)) (λ l. leaf_last x (nested_house s q))
nested_house t (leaf_last x {t = s} q) = by_low (house s) (leaf x) nil (λ z. Nested (node z)) (λ l. leaf_last x (nested_house s q)) (λ l. leaf_first x (nested_house s q))

-- ---- one for every number of species

pub nest_nested : (k : ℕ) → Nested (nest k)
nest_nested zero = one 0
nest_nested (suc k) = leaf_last (suc k) (nest_nested k)

pub nest-under : (k x : ℕ) → under (nest k) x ≡ below (suc k) x
nest-under zero x = bool_ext (eqb 0 x) (ltb x 1) (λ h. lt-ltb x 1 (omega (arith, eqb-true 0 x h))) (λ h. eq-eqb 0 x (omega (arith, ltb-true x 1 h)))
nest-under (suc k) x = bool_ext (under (nest k) x || (eqb (suc k) x || false)) (ltb x (suc (suc k)))
    (λ h. or_case (under (nest k) x) _ h
    (λ p. lt-ltb x (suc (suc k)) (omega (arith, ltb-true x (suc k) (sym (nest-under k x) ∙ p))))
    (λ p. or_case (eqb (suc k) x) false p (λ q. lt-ltb x (suc (suc k)) (omega (arith, eqb-true (suc k) x q))) (λ q. absurd (false≢true q))))
    (λ h. let l = ltb-true x (suc (suc k)) h in test (eqb (suc k) x)
    (λ q. or_r (under (nest k) x) _ (or_l (eqb (suc k) x) false q))
    (λ q. let ne : suc k ≡ x → ⊥ = ne_e (suc k) x q in or_l (under (nest k) x) _ (nest-under k x ∙ lt-ltb x (suc k) (omega arith))))

pub nest_formed : (k : ℕ) → Formed (nest k)
nest_formed zero = tt
nest_formed (suc k) = (
  omega arith,
  (
    nest_formed k,
    (λ x p q. or_case (eqb (suc k) x) false q (λ r. omega (arith, eqb-true (suc k) x r, ltb-true x (suc k) (sym (nest-under k x) ∙ p))) (λ r. false≢true r)),
    (tt, (λ x p q. false≢true q), tt),
  ),
)

pub nest-leaves : (k : ℕ) → length (leaves (nest k)) ≡ suc k
nest-leaves zero = refl
nest-leaves (suc k) = omega (arith, length-append (leaves (nest k)) (suc k ∷ []), nest-leaves k)
