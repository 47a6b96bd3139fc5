-- The groups of a tree's inner nodes, in preorder, are those of the inner nodes of its body, in their order; and how many there are. Assumes nothing.
use mathlib.Core.Bool.{cond}
use mathlib.Core.List.{List, [], ◌++◌, ◌∷◌, append_assoc}
use mathlib.Core.Path.{◌∙◌, ◌≡◌, ap, ap₂, refl, sym}
use Prim.Native.Nat.{◌+◌, ◌-◌, ◌<◌, ◌≤◌, suc, zero, ℕ}
use native.Mathlib.Numerals.{add-one}
use native.Mathlib.Omega.{arith}
use borrow.Author.Tests.{eq-eqb, ne_eqb}
use lib.Dec.{eqb}
use lib.ListN.{length, length-append}
use Rattle.sets.proofs.Bools.{or_l, or_r}
use Rattle.sets.specs.Species.{Below, Species}
use Rattle.trees.proofs.Formed.{Formed, FormedF}
use Rattle.trees.specs.Trees.{Forest, Tree, cons, degree, leaf, leaves, leaves_f, nil, node, under, under_f}
use Rattle.trees.specs.Visits.{inner_groups, inner_groups_f}
use Rattle.bodies.proofs.Laid.{Lays, LaysF, Outside, back, outside_first, outside_kids, outside_rest}
use Rattle.bodies.specs.Draws.{node_count, node_count_f, subtree}
use Rattle.bodies.specs.Nodes.{Good, Nodes, none}
use Rattle.sending.specs.Pulls.{behind_first}

-- the group of node i where it is an inner one
abbrev inner_at : Nodes → ℕ → List Species
inner_at v i = cond (eqb (v.species i) none) (under (subtree v i) ∷ []) []

-- the groups of the inner nodes among the k nodes from node at on
abbrev pub inner_from : Nodes → ℕ → ℕ → List Species
inner_from v zero at = []
inner_from v (suc k) at = inner_at v at ++ inner_from v k (suc at)

module _ (v : Nodes) where
  inner_split : (k l at : ℕ) → inner_from v (k + l) at ≡ inner_from v k at ++ inner_from v l (at + k)
  inner_split zero l at =
      let a : zero + l ≡ l = omega arith in
      let b : at + zero ≡ at = omega arith in
      rw (a, b) refl
  inner_split (suc k) l at =
      let a : suc k + l ≡ suc (k + l) = omega arith in
      let b : at + suc k ≡ suc at + k = omega arith in
      rw (a, b) (ap (λ (z : List Species). inner_at v at ++ z) (inner_split k l (suc at))
      ∙ sym (append_assoc (inner_at v at) (inner_from v k (suc at)) (inner_from v l (suc at + k))))

  -- ---- one by one, the nodes i to c - 1

  left : (c i : ℕ) → i < c → c - i ≡ suc (c - (i + 1))
  left c i h = omega arith

  pub inner_more : (c i : ℕ) → i < c → v.species i ≡ none → inner_from v (c - i) i ≡ under (subtree v i) ∷ inner_from v (c - (i + 1)) (i + 1)
  inner_more c i h e = rw (left c i h, eq-eqb (v.species i) none e, add-one i) refl

  pub inner_leaf : (c i : ℕ) → i < c → (v.species i ≡ none → ⊥) → inner_from v (c - i) i ≡ inner_from v (c - (i + 1)) (i + 1)
  inner_leaf c i h e = rw (left c i h, ne_eqb (v.species i) none e, add-one i) refl

  pub inner_end : (c i : ℕ) → c ≤ i → inner_from v (c - i) i ≡ []
  inner_end c i h = let e : c - i ≡ 0 = omega arith in rw e refl

  -- ---- a tree that is laid out

  module _ (n : ℕ) (small : n ≤ 255) (g : Good n v) where
    mutual
      tree_inner : (u : Tree) (p at : ℕ) → Below n (under u) → Lays v u p at → Outside v at (node_count u) → at + node_count u ≤ v.count
          → inner_groups u ≡ inner_from v (node_count u) at
      tree_inner (leaf x) p at bd l o h =
          let k = bd x (eq-eqb x x refl) in
          rw (ne_eqb (v.species at) none (λ e. omega (arith, l.1))) refl
      tree_inner (node f) p at bd l o h = rw (eq-eqb (v.species at) none l.1) (
          ap₂ (λ (G : Species) (k : List Species). G ∷ k)
          (ap under (sym (back v n small g (node f) p at l o h)))
          (forest_inner f at (suc at) bd (omega arith) l.2 (outside_kids v f at o) (omega arith))
          )

      pub forest_inner : (f : Forest) (p at : ℕ) → Below n (under_f f) → p < at → LaysF v f p at → Outside v at (node_count_f f) → at + node_count_f f ≤ v.count
          → inner_groups_f f ≡ inner_from v (node_count_f f) at
      forest_inner nil p at bd q l o h = refl
      forest_inner (cons u f) p at bd q l o h =
          ap₂ (λ (k m : List Species). k ++ m)
          (tree_inner u p at (λ x i. bd x (or_l (under u x) (under_f f x) i)) l.0 (outside_first v u f p at q l.1 o) (omega arith))
          (forest_inner f p (at + node_count u) (λ x i. bd x (or_r (under u x) (under_f f x) i)) (omega arith) l.1 (outside_rest v u f at o) (omega arith))
          ∙ sym (inner_split (node_count u) (node_count_f f) at)

    -- behind the root
    pub behind_root : (T : Tree) (p : ℕ) → Below n (under T) → Lays v T p 0 → Outside v 0 (node_count T) → node_count T ≤ v.count
        → behind_first (inner_groups T) ≡ inner_from v (node_count T - 1) 1
    behind_root (leaf x) p bd l o h = refl
    behind_root (node f) p bd l o h =
        let e : suc (node_count_f f) - 1 ≡ node_count_f f = omega arith in
        rw e (forest_inner f 0 1 bd (omega arith) l.2 (outside_kids v f 0 o) (omega arith))

-- ---- fewer than leaves

mutual
  inner_few : (t : Tree) → Formed t → length (inner_groups t) + 1 ≤ length (leaves t)
  inner_few (leaf x) w = omega arith
  inner_few (node f) w = omega (arith, inner_f_few f w.1, w.0)

  inner_f_few : (f : Forest) → FormedF f → length (inner_groups_f f) + degree f ≤ length (leaves_f f)
  inner_f_few nil w = omega arith
  inner_f_few (cons t f) w = omega (
    arith,
    inner_few t w.0,
    inner_f_few f w.2,
    length-append (inner_groups t) (inner_groups_f f),
    length-append (leaves t) (leaves_f f),
  )

behind_length : (l : List Species) → length (behind_first l) ≤ length l - 1
behind_length [] = omega arith
behind_length (G ∷ l) = omega arith

pub behind_few : (t : Tree) → Formed t → length (behind_first (inner_groups t)) ≤ length (leaves t) - 2
behind_few t w = omega (arith, inner_few t w, behind_length (inner_groups t))
