-- The backward pass over the nodes: each gives its group to its parent. Assumes nothing.
use mathlib.Core.Bool.{Bool, cond}
use mathlib.Core.List.{List, [], ◌∷◌}
use mathlib.Core.Path.{◌∙◌, ◌≡◌, ap, ap₂, refl, subst, sym}
use Prim.Native.Nat.{◌+◌, ◌-◌, ◌<◌, ◌≤◌, suc, ℕ}
use native.Mathlib.Decide.{ℕ_discrete}
use native.Mathlib.Numerals.{add-one}
use native.Mathlib.Omega.{arith}
use borrow.Author.Tests.{eq-eqb, lt-ltb, ne_eqb}
use lib.Dec.{eqb, ltb}
use lib.ListN.{get_or, length, length-replicate, length-set, replicate, set}
use lib.Seq.{get_or-set_other, get_or-set_same}
use Rattle.sets.proofs.Zeros.{zero-at}
use Rattle.sets.proofs.Tests.{number_empty, number-single, number-union}
use Rattle.sets.specs.Sets.{number, single, union}
use Rattle.sets.specs.Species.{put}
use Rattle.trees.specs.Trees.{Forest, under, under_f}
use Rattle.bodies.proofs.Under.{children-after, subtree-eq, subtree_leaf}
use Rattle.bodies.specs.Draws.{forest_of, grow, subtree}
use Rattle.groups.specs.Groups.{set_of}
use Rattle.bodies.specs.Nodes.{Good, Nodes, children_among, children, most_nodes}

-- the species of a forest as a number
abbrev set_of_f : Forest → ℕ
set_of_f f = number 64 (under_f f)

-- ---- one node more

among_step : (v : Nodes) (i c j : ℕ) → j < c → children_among v i (c - j) j ≡ put (eqb (v.parent j) i) j (children_among v i (c - (j + 1)) (j + 1))
among_step v i c j h = let e : c - j ≡ suc (c - (j + 1)) = omega arith in rw (e, add-one j) refl

-- the groups of the children of j from i on
abbrev given : Nodes → ℕ → ℕ → ℕ
given v i j = set_of_f (forest_of (subtree v) (children_among v j (v.count - i) i))

module _ (v : Nodes) (i : ℕ) (h : i < v.count) where
  given_own : given v i (v.parent i) ≡ union (set_of (subtree v i)) (given v (i + 1) (v.parent i))
  given_own =
      ap (λ (l : List ℕ). set_of_f (forest_of (subtree v) l)) (among_step v (v.parent i) v.count i h ∙ ap (λ (b : Bool). put b i (children_among v (v.parent i) (v.count - (i + 1)) (i + 1))) (eq-eqb (v.parent i) (v.parent i) refl))
      ∙ number-union 64 (under (subtree v i)) (under_f (forest_of (subtree v) (children_among v (v.parent i) (v.count - (i + 1)) (i + 1))))

  given_other : (j : ℕ) → (v.parent i ≡ j → ⊥) → given v i j ≡ given v (i + 1) j
  given_other j n = ap (λ (l : List ℕ). set_of_f (forest_of (subtree v) l)) (among_step v j v.count i h ∙ ap (λ (b : Bool). put b i (children_among v j (v.count - (i + 1)) (i + 1))) (ne_eqb (v.parent i) j n))

given_none : (v : Nodes) (j : ℕ) → given v v.count j ≡ 0
given_none v j = let e : v.count - v.count ≡ 0 = omega arith in rw e (number_empty 64)

-- ---- the pass: the nodes from i on are done, and an earlier node has the groups of its children from k on, where k is i, or i + 1 while node i has
-- not given its own

pub record Pass (v : Nodes) (k i : ℕ) (out : List ℕ) : Type 0 where
  pub size : length out ≡ most_nodes
  pub done : (j : ℕ) → i ≤ j → j < v.count → get_or out j 0 ≡ set_of (subtree v j)
  pub part : (j : ℕ) → j < i → get_or out j 0 ≡ given v k j
  pub rest : (j : ℕ) → v.count ≤ j → get_or out j 0 ≡ 0

pub pass_start : (v : Nodes) (i : ℕ) → i ≡ v.count → Pass v i i (replicate most_nodes 0)
pass_start v i e = record {
  size = length-replicate {A = ℕ} most_nodes 0;
  done = λ j h k. absurd (omega arith);
  part = λ j h. zero-at most_nodes j ∙ sym (rw e (given_none v j));
  rest = λ j h. zero-at most_nodes j;
}

module _ (v : Nodes) (g : Good 64 v) (i : ℕ) (h : i < v.count) (small : v.count ≤ most_nodes) (out : List ℕ) where
  -- a leaf's group is its species, an inner node's what its children gave
  pub own_group : Pass v (i + 1) (i + 1) out → cond (ltb (v.species i) 64) (single (v.species i)) (get_or out i 0) ≡ set_of (subtree v i)
  own_group p = go (children v i) refl
    where
      go : (l : List ℕ) → children v i ≡ l → cond (ltb (v.species i) 64) (single (v.species i)) (get_or out i 0) ≡ set_of (subtree v i)
      go [] e =
          let s = g.outer i h (ap length e) in
          rw (lt-ltb (v.species i) 64 s) (sym (ap set_of (subtree_leaf 64 v g i h e) ∙ number-single 64 (v.species i) s))
      go (c ∷ l) e =
          let f : set_of (subtree v i) ≡ set_of (grow (v.species i) (forest_of (subtree v) (c ∷ l))) = ap set_of (subtree-eq 64 v g i h ∙ ap (λ (l : List ℕ). grow (v.species i) (forest_of (subtree v) l)) e) in
          rw (g.inner i h (omega (arith, ap length e)))
          (p.part i (omega arith) ∙ ap (λ (l : List ℕ). set_of_f (forest_of (subtree v) l)) (sym (children-after 64 v g i h) ∙ e) ∙ sym f)

  pub pass_own : (w : ℕ) → w ≡ set_of (subtree v i) → Pass v (i + 1) (i + 1) out → Pass v (i + 1) i (set out i w)
  pass_own w e p = record {
    size = length-set out i w ∙ p.size;
    done = λ j a b. go j a b (ℕ_discrete j i);
    part = λ j a. get_or-set_other out i j w 0 (λ q. omega arith) ∙ p.part j (omega arith);
    rest = λ j a. get_or-set_other out i j w 0 (λ q. omega arith) ∙ p.rest j a;
  }
    where
      go : (j : ℕ) → i ≤ j → j < v.count → Dec (j ≡ i) → get_or (set out i w) j 0 ≡ set_of (subtree v j)
      go j a b (yes q) = rw q (get_or-set_same out i w 0 (omega (arith, p.size)) ∙ e)
      go j a b (no n) = get_or-set_other out i j w 0 n ∙ p.done j (omega arith) b

  -- the root gives its group to nobody
  pub pass_root : i ≡ 0 → Pass v (i + 1) i out → Pass v i i out
  pass_root z p = record { size = p.size; done = p.done; part = λ j a. absurd (omega arith); rest = p.rest }

  pub pass_up : (q u w : ℕ) → 0 < i → q ≡ v.parent i → u ≡ set_of (subtree v i) → w ≡ union u (get_or out q 0) → Pass v (i + 1) i out → Pass v i i (set out q w)
  pass_up q u w pos e s f p = record {
    size = length-set out q w ∙ p.size;
    done = λ j a b. get_or-set_other out q j w 0 (λ d. omega (arith, g.later i pos h)) ∙ p.done j a b;
    part = λ j a. go j a (g.later i pos h) (ℕ_discrete j q);
    rest = λ j a. get_or-set_other out q j w 0 (λ d. omega (arith, g.later i pos h)) ∙ p.rest j a;
  }
    where
      go : (j : ℕ) → j < i → v.parent i < i → Dec (j ≡ q) → get_or (set out q w) j 0 ≡ given v i j
      go j a lt (yes d) =
          rw d
          (get_or-set_same out q w 0 (omega (arith, p.size)) ∙ f
          ∙ ap₂ union s (p.part q (omega arith) ∙ ap (given v (i + 1)) e) ∙ sym (given_own v i h) ∙ ap (given v i) (sym e))
      go j a lt (no n) = get_or-set_other out q j w 0 n ∙ p.part j a ∙ sym (given_other v i h j (λ d. n (sym d ∙ sym e)))

-- the turn of node i - 1: its group, which then stands at its place
pub pass_turn : (v : Nodes) → Good 64 v → (i : ℕ) → 0 < i → i ≤ v.count → v.count ≤ most_nodes → (out : List ℕ) (w : ℕ)
    → w ≡ cond (ltb (v.species (i - 1)) 64) (single (v.species (i - 1))) (get_or out (i - 1) 0) → Pass v i i out
    → (w ≡ set_of (subtree v (i - 1))) × Pass v ((i - 1) + 1) (i - 1) (set out (i - 1) w)
pass_turn v g i pos h small out w e p =
    let z : i ≡ (i - 1) + 1 = omega arith in
    let q : Pass v ((i - 1) + 1) ((i - 1) + 1) out = subst (λ (x : ℕ). Pass v x x out) z p in
    let k : i - 1 < v.count = omega arith in
    let o : w ≡ set_of (subtree v (i - 1)) = e ∙ own_group v g (i - 1) k small out q in
    (o, pass_own v g (i - 1) k small out w o q)
