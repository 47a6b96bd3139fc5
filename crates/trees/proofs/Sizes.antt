-- How many species there are: in two sets apart, under a tree. Assumes nothing.
use mathlib.Core.Bool.{Bool, So, ◌||◌, false, true}
use mathlib.Core.List.{List}
use mathlib.Core.Path.{◌≡◌, refl}
use Prim.Native.Nat.{◌+◌, ◌<◌, suc, zero, ℕ}
use native.Mathlib.Omega.{arith}
use borrow.Author.Tests.{eq-eqb, eqb-true}
use lib.Dec.{eqb}
use lib.ListN.{length, length-append}
use Rattle.sets.proofs.Bools.{or_l, or_r}
use Rattle.sets.proofs.Members.{members_one, members_uniq}
use Rattle.sets.specs.Species.{Below, Species, either, from, members, put}
use Rattle.trees.proofs.Formed.{Formed, FormedF}
use Rattle.trees.specs.Trees.{Forest, Tree, cons, leaf, leaves, leaves_f, nil, node, under, under_f}

-- how many species of S are below N
abbrev pub size : ℕ → Species → ℕ
size N S = length (members N S)

put-either : (b c : Bool) (i : ℕ) (l m n : List ℕ) → (So b → So c → ⊥) → length n ≡ length l + length m → length (put (b || c) i n) ≡ length (put b i l) + length (put c i m)
put-either true true i l m n d e = absurd (d refl refl)
put-either true false i l m n d e = omega arith
put-either false true i l m n d e = omega arith
put-either false false i l m n d e = e

from_either : (P Q : Species) → ((x : ℕ) → So (P x) → So (Q x) → ⊥) → (n i : ℕ) → length (from i n (either P Q)) ≡ length (from i n P) + length (from i n Q)
from_either P Q d zero i = omega arith
from_either P Q d (suc n) i = put-either (P i) (Q i) i (from (suc i) n P) (from (suc i) n Q) (from (suc i) n (either P Q)) (d i) (from_either P Q d n (suc i))

pub size-either : (N : ℕ) (P Q : Species) → ((x : ℕ) → So (P x) → So (Q x) → ⊥) → size N (either P Q) ≡ size N P + size N Q
unfolding members
size-either N P Q d = from_either P Q d N 0

from_empty : (n i : ℕ) → length (from i n (λ x. false)) ≡ 0
from_empty zero i = refl
from_empty (suc n) i = from_empty n (suc i)

pub size_empty : (N : ℕ) → size N (λ x. false) ≡ 0
unfolding members
size_empty N = from_empty N 0

pub size_one : (N x : ℕ) → x < N → size N (eqb x) ≡ 1
size_one N x lt = omega (arith, members_one N (eqb x) x lt (eq-eqb x x refl), members_uniq N (eqb x) (λ a b p q. omega (arith, eqb-true x a p, eqb-true x b q)))

-- ---- a tree has as many species as leaves

mutual
  pub size-under : (N : ℕ) (t : Tree) → Formed t → Below N (under t) → size N (under t) ≡ length (leaves t)
  size-under N (leaf x) w bd = size_one N x (bd x (eq-eqb x x refl))
  size-under N (node f) w bd = size-under_f N f w.1 bd

  pub size-under_f : (N : ℕ) (f : Forest) → FormedF f → Below N (under_f f) → size N (under_f f) ≡ length (leaves_f f)
  size-under_f N nil w bd = size_empty N
  size-under_f N (cons t f) w bd = omega (
    arith,
    size-either N (under t) (under_f f) w.1,
    size-under N t w.0 (λ x h. bd x (or_l (under t x) (under_f f x) h)),
    size-under_f N f w.2 (λ x h. bd x (or_r (under t x) (under_f f x) h)),
    length-append (leaves t) (leaves_f f),
  )
