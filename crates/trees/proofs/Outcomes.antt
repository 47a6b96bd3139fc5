-- What a step of a build gives, taken apart; lists of exactly one. Assumes nothing.
use mathlib.Core.Bool.{Bool, So, false, false≢true, not, true}
use mathlib.Core.List.{List, [], ◌∷◌}
use mathlib.Core.Logic.{◌≢◌, ◌⊎◌, inl, inr, ⊎_elim}
use mathlib.Core.Path.{◌≡◌, ap, refl}
use Prim.Native.Nat.{◌≤◌, ℕ}
use native.Mathlib.Omega.{arith}
use borrow.Author.Tests.{eqb-true}
use lib.Dec.{eqb}
use lib.ListN.{length}
use Rattle.sets.proofs.Bools.{ne_e, not_i, test}
use Rattle.sets.proofs.Members.{Every, any_of, members-two}
use Rattle.sets.specs.Species.{Below, Species, members}
use Rattle.trees.specs.Build.{Outcome, Outcomes, choose, gather, next, stop, stops, tree, trees}
use Rattle.trees.specs.Links.{lone}
use Rattle.trees.specs.Trees.{Forest, Tree, cons, leaf, node}

pub tree_same : (s t : Tree) → tree s ≡ tree t → s ≡ t
tree_same s t e = cc

pub next_tree : (r : Outcome) (q : Outcomes) (f : Forest) → next r q ≡ trees f → (t : Tree) × (f' : Forest) × (r ≡ tree t) × (q ≡ trees f') × (f ≡ cons t f')
next_tree (stop U) q f e = let z : ◌≡◌ {A = ℕ} 0 1 = cc in absurd (omega arith)
next_tree (tree t) (stops U) f e = let z : ◌≡◌ {A = ℕ} 0 1 = cc in absurd (omega arith)
next_tree (tree t) (trees f') f e = (t, f', refl, refl, cc)

pub next_stop : (r : Outcome) (q : Outcomes) (U : Species) → next r q ≡ stops U → (r ≡ stop U) ⊎ (q ≡ stops U)
next_stop (stop W) q U e = inl (cc)
next_stop (tree t) (stops W) U e = inr (cc)
next_stop (tree t) (trees f) U e = let z : ◌≡◌ {A = ℕ} 0 1 = cc in absurd (omega arith)

pub choose_stop : (s j : Bool) (x : ℕ) (w : Outcome) (r : Outcomes) (U : Species) → choose s j x w r ≡ stop U
    → (So (not s) × So j × (w ≡ stop U)) ⊎ (So (not s) × So (not j) × (r ≡ stops U))
choose_stop true j x w r U e = let z : ◌≡◌ {A = ℕ} 0 1 = cc in absurd (omega arith)
choose_stop false true x w r U e = inl (refl, refl, e)
choose_stop false false x w (trees f) U e = let z : ◌≡◌ {A = ℕ} 0 1 = cc in absurd (omega arith)
choose_stop false false x w (stops W) U e = inr (refl, refl, cc)

pub choose_tree : (s j : Bool) (x : ℕ) (w : Outcome) (r : Outcomes) (t : Tree) → choose s j x w r ≡ tree t
    → (So s × (t ≡ leaf x)) ⊎ ((So (not s) × So j × (w ≡ tree t)) ⊎ (So (not s) × So (not j) × ((f : Forest) × (r ≡ trees f) × (t ≡ node f))))
choose_tree true j x w r t e = inl (refl, cc)
choose_tree false true x w r t e = inr (inl (refl, refl, e))
choose_tree false false x w (trees f) t e = inr (inr (refl, refl, (f, refl, cc)))
choose_tree false false x w (stops U) t e = let z : ◌≡◌ {A = ℕ} 0 1 = cc in absurd (omega arith)

-- the children are looked at only where the set is neither one species nor joined
pub choose_same : (s j : Bool) (x : ℕ) (w : Outcome) (r r' : Outcomes) → (So (not j) → r ≡ r') → choose s j x w r ≡ choose s j x w r'
choose_same true j x w r r' h = refl
choose_same false true x w r r' h = refl
choose_same false false x w r r' h = ap (choose false false x w) (h refl)

-- what is so of each part's stopping set is so of the one that is named
pub gather_stop : (g : Species → Outcome) (Q : Species → Type 0) (ps : List Species) → Every (λ p. (U : Species) → g p ≡ stop U → Q U) ps
    → (U : Species) → gather g ps ≡ stops U → Q U
gather_stop g Q [] h U e = let z : ◌≡◌ {A = ℕ} 0 1 = cc in absurd (omega arith)
gather_stop g Q (p ∷ ps) h U e = ⊎_elim (λ k. h.0 U k) (λ k. gather_stop g Q ps h.1 U k) (next_stop (g p) (gather g ps) U e)

pub gather_same : (g g' : Species → Outcome) (ps : List Species) → Every (λ p. g p ≡ g' p) ps → gather g ps ≡ gather g' ps
gather_same g g' [] h = refl
gather_same g g' (p ∷ ps) h = rw (h.0, gather_same g g' ps h.1) refl

pub lone-length {ℓ} : {A : Type ℓ} (l : List A) → So (lone l) → length l ≡ 1
lone-length [] h = absurd (false≢true h)
lone-length (x ∷ []) h = refl
lone-length (x ∷ (y ∷ l)) h = absurd (false≢true h)

pub not-lone {ℓ} : {A : Type ℓ} (l : List A) → So (not (lone l)) → length l ≢ 1
not-lone [] h = omega arith
not-lone (x ∷ []) h = absurd (false≢true h)
not-lone (x ∷ (y ∷ l)) h = omega arith

pub length-lone {ℓ} : {A : Type ℓ} (l : List A) → length l ≡ 1 → So (lone l)
length-lone [] h = absurd (omega arith)
length-lone (x ∷ []) h = refl
length-lone (x ∷ (y ∷ l)) h = absurd (omega arith)

pub many {ℓ} : {A : Type ℓ} (l : List A) → 2 ≤ length l → So (not (lone l))
many l h = not_i (lone l) (λ k. let e = lone-length l k in omega arith)

pub any_of_length : (ps : List Species) (x : ℕ) → So (any_of ps x) → 1 ≤ length ps
any_of_length [] x h = absurd (false≢true h)
any_of_length (p ∷ ps) x h = omega arith

-- a set of one species
pub only_one : (N : ℕ) (S : Species) → Below N S → length (members N S) ≡ 1 → (a b : ℕ) → So (S a) → So (S b) → a ≡ b
only_one N S bd len a b ha hb = test (eqb a b) (λ e. eqb-true a b e) (λ e. absurd (omega (arith, members-two N S bd a b ha hb (ne_e a b e))))
