-- A tree cuts ab|c by one of its groups: the same as a recursion on the tree, and what a triplet that a tree holds says. Assumes nothing.
use mathlib.Core.Bool.{Bool, So, ◌||◌, false, false≢true, not, or_assoc, or-false}
use mathlib.Core.List.{List, [], ◌++◌, ◌∷◌}
use mathlib.Core.Logic.{◌≢◌}
use mathlib.Core.Path.{◌∙◌, ◌≡◌, ap, ap₂, refl, subst, sym}
use Prim.Native.Nat.{ℕ}
use borrow.Author.Tests.{eqb-true}
use lib.Dec.{eqb}
use Rattle.sets.proofs.Bools.{and_i, and_l, and_r, ne_e, not_e, not_i, or_case, or_l, or_r}
use Rattle.sets.specs.Species.{Species}
use Rattle.trees.specs.Trees.{Forest, Tree, cons, groups, groups_f, leaf, nil, node, under, under_f}
use Rattle.trees.specs.Triplets.{Proper, Triplets, cut_by, cuts, holds}

abbrev mutual
  pub splits : Tree → Triplets
  splits (leaf x) a b c = cuts (under (leaf x)) a b c
  splits (node f) a b c = cuts (under_f f) a b c || splits_f f a b c

  pub splits_f : Forest → Triplets
  splits_f nil a b c = false
  splits_f (cons t f) a b c = splits t a b c || splits_f f a b c

cut-append : (l m : List Species) (a b c : ℕ) → cut_by (l ++ m) a b c ≡ (cut_by l a b c || cut_by m a b c)
cut-append [] m a b c = refl
cut-append (G ∷ l) m a b c = ap (λ (z : Bool). cuts G a b c || z) (cut-append l m a b c) ∙ sym (or_assoc (cuts G a b c) (cut_by l a b c) (cut_by m a b c))

mutual
  pub splits_groups : (t : Tree) (a b c : ℕ) → splits t a b c ≡ cut_by (groups t) a b c
  splits_groups (leaf x) a b c = sym (or-false (cuts (under (leaf x)) a b c))
  splits_groups (node f) a b c = ap (λ (z : Bool). cuts (under_f f) a b c || z) (splits_f_groups f a b c)

  pub splits_f_groups : (f : Forest) (a b c : ℕ) → splits_f f a b c ≡ cut_by (groups_f f) a b c
  splits_f_groups nil a b c = refl
  splits_f_groups (cons t f) a b c = ap₂ (λ (y z : Bool). y || z) (splits_groups t a b c) (splits_f_groups f a b c) ∙ sym (cut-append (groups t) (groups_f f) a b c)

pub cuts_e : (a b c : ℕ) (G : Species) → So (cuts G a b c) → So (G a) × So (G b) × So (not (G c))
cuts_e a b c G h = (and_l (G a) _ h, and_l (G b) _ (and_r (G a) _ h), and_r (G b) _ (and_r (G a) _ h))

pub cuts_i : (a b c : ℕ) (G : Species) → So (G a) → So (G b) → So (not (G c)) → So (cuts G a b c)
cuts_i a b c G p q r = and_i (G a) _ p (and_i (G b) _ q r)

-- what is cut off lies in the tree
mutual
  pub splits_in : (t : Tree) (a b c : ℕ) → So (splits t a b c) → So (under t a) × So (under t b)
  splits_in (leaf x) a b c h = let k = cuts_e a b c (under (leaf x)) h in (k.0, k.1)
  splits_in (node f) a b c h = or_case (cuts (under_f f) a b c) (splits_f f a b c) h
      (λ k. let q = cuts_e a b c (under_f f) k in (q.0, q.1))
      (λ k. splits_f_in f a b c k)

  pub splits_f_in : (f : Forest) (a b c : ℕ) → So (splits_f f a b c) → So (under_f f a) × So (under_f f b)
  splits_f_in nil a b c h = absurd (false≢true h)
  splits_f_in (cons t f) a b c h = or_case (splits t a b c) (splits_f f a b c) h
      (λ k. let r = splits_in t a b c k in (or_l (under t a) (under_f f a) r.0, or_l (under t b) (under_f f b) r.1))
      (λ k. let r = splits_f_in f a b c k in (or_r (under t a) (under_f f a) r.0, or_r (under t b) (under_f f b) r.1))

-- the root's own group
pub root_splits : (t : Tree) (a b c : ℕ) → So (under t a) → So (under t b) → So (not (under t c)) → So (splits t a b c)
root_splits (leaf x) a b c p q r = cuts_i a b c (under (leaf x)) p q r
root_splits (node f) a b c p q r = or_l (cuts (under_f f) a b c) (splits_f f a b c) (cuts_i a b c (under_f f) p q r)

-- below a node: where all of a, b and c lie under it, one of its children splits them
pub node_splits : (f : Forest) (a b c : ℕ) → So (under_f f c) → So (splits (node f) a b c) → So (splits_f f a b c)
node_splits f a b c hc h = or_case (cuts (under_f f) a b c) (splits_f f a b c) h (λ k. absurd (not_e (under_f f c) (cuts_e a b c (under_f f) k).2 hc)) (λ k. k)

cuts_swap : (G : Species) (a b c : ℕ) → So (cuts G a b c) → So (cuts G b a c)
cuts_swap G a b c h = let q = cuts_e a b c G h in cuts_i b a c G q.1 q.0 q.2

mutual
  pub splits_swap : (t : Tree) (a b c : ℕ) → So (splits t a b c) → So (splits t b a c)
  splits_swap (leaf x) a b c h = cuts_swap (under (leaf x)) a b c h
  splits_swap (node f) a b c h = or_case (cuts (under_f f) a b c) (splits_f f a b c) h
      (λ k. or_l (cuts (under_f f) b a c) _ (cuts_swap (under_f f) a b c k)) (λ k. or_r (cuts (under_f f) b a c) _ (splits_f_swap f a b c k))

  splits_f_swap : (f : Forest) (a b c : ℕ) → So (splits_f f a b c) → So (splits_f f b a c)
  splits_f_swap nil a b c h = h
  splits_f_swap (cons t f) a b c h = or_case (splits t a b c) (splits_f f a b c) h
      (λ k. or_l (splits t b a c) _ (splits_swap t a b c k)) (λ k. or_r (splits t b a c) _ (splits_f_swap f a b c k))

-- a third species that is cut off is another one
cuts_third : (G : Species) (a b c : ℕ) → So (cuts G a b c) → a ≢ c
cuts_third G a b c h e = let q = cuts_e a b c G h in not_e (G c) q.2 (subst (λ (z : ℕ). So (G z)) e q.0)

mutual
  splits_third : (t : Tree) (a b c : ℕ) → So (splits t a b c) → a ≢ c
  splits_third (leaf x) a b c h = cuts_third (under (leaf x)) a b c h
  splits_third (node f) a b c h = or_case (cuts (under_f f) a b c) (splits_f f a b c) h (cuts_third (under_f f) a b c) (λ k. splits_f_third f a b c k)

  splits_f_third : (f : Forest) (a b c : ℕ) → So (splits_f f a b c) → a ≢ c
  splits_f_third nil a b c h = absurd (false≢true h)
  splits_f_third (cons t f) a b c h = or_case (splits t a b c) (splits_f f a b c) h (λ k. splits_third t a b c k) (λ k. splits_f_third f a b c k)

-- ---- what a triplet that t holds says

pub record Held (t : Tree) (a b c : ℕ) : Type 0 where
  pub in_a : So (under t a)
  pub in_b : So (under t b)
  pub in_c : So (under t c)
  pub ab : a ≢ b
  pub ac : a ≢ c
  pub bc : b ≢ c
  pub splits : So (splits t a b c)

pub holds_e : (t : Tree) (a b c : ℕ) → So (holds t a b c) → Held t a b c
holds_e t a b c h =
    let k = and_r (not (eqb a b)) _ h in
    let s : So (splits t a b c) = splits_groups t a b c ∙ and_r (under t c) _ k in
    let i = splits_in t a b c s in
    record {
      in_a = i.0;
      in_b = i.1;
      in_c = and_l (under t c) _ k;
      ab = ne_e a b (and_l (not (eqb a b)) _ h);
      ac = splits_third t a b c s;
      bc = splits_third t b a c (splits_swap t a b c s);
      splits = s;
    }

pub holds_i : (t : Tree) (a b c : ℕ) → a ≢ b → So (under t c) → So (splits t a b c) → So (holds t a b c)
holds_i t a b c ne hc s = and_i (not (eqb a b)) _ (not_i (eqb a b) (λ e. ne (eqb-true a b e))) (and_i (under t c) _ hc (sym (splits_groups t a b c) ∙ s))

pub holds_swap : (t : Tree) (a b c : ℕ) → So (holds t a b c) → So (holds t b a c)
holds_swap t a b c h = let o = holds_e t a b c h in holds_i t b a c (λ e. o.ab (sym e)) o.in_c (splits_swap t a b c o.splits)

pub holds_proper : (t : Tree) → Proper (holds t)
holds_proper t = record { swap = holds_swap t; two = λ a b c h. (holds_e t a b c h).ab; third = λ a b c h. (holds_e t a b c h).ac }
