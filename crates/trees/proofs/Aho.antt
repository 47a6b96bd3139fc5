-- Aho's tree and the builds. What the plain build gives is Aho's tree: each child is a part, and walks join a part. Aho's tree in house order is what
-- either build gives: the parts are its children. Both are said over any rule of trees that goes from node to node. Assumes nothing.
use mathlib.Core.Bool.{Bool, So, ◌||◌, false, false≢true, not}
use mathlib.Core.List.{List, [], ◌∷◌, map}
use mathlib.Core.Logic.{◌⊎◌, inl, ⊎_elim}
use mathlib.Core.Path.{◌∙◌, ◌≡◌, ap, ap₂, fun_ext, refl, subst, sym}
use Prim.Native.Nat.{◌+◌, ◌<◌, ◌≤◌, suc, zero, ℕ}
use native.Mathlib.Omega.{arith}
use borrow.Author.Tests.{eq-eqb, eqb-true, not-true}
use lib.ListN.{get_or, length}
use Rattle.sets.proofs.Bools.{bool_ext, not_e, or_case, or_l, or_r, test}
use Rattle.sets.proofs.Members.{Every, members_bound, members_head, members-lt, members_one, members-two, members_uniq}
use Rattle.sets.specs.Species.{Below, Inside, Species, from, members}
use Rattle.trees.proofs.Built.{built_in}
use Rattle.trees.proofs.Formed.{Formed, FormedF}
use Rattle.trees.proofs.Joins.{follow, part_walk}
use Rattle.trees.proofs.Kids.{EveryF, Kid, Omits, child_every, child_in, child_of, child_uniq, every_child, every_f_map, kids, omits, two-under}
use Rattle.trees.proofs.Lowest.{Housed, HousedF, some_species}
use Rattle.trees.proofs.Outcomes.{choose_tree, length-lone, many, next_tree}
use Rattle.trees.proofs.Parts.{leads_i, leads_in, leads-lowest, part_closed, part_in, part_refl, part_sym, part_trans, parts_every}
use Rattle.trees.proofs.Stopping.{fewer}
use Rattle.trees.specs.Aho.{AhoForest, AhoTree, Parted}
use Rattle.trees.specs.Build.{Outcome, build, build_by, build_in, ending, gather, tree, trees}
use Rattle.trees.specs.Links.{joined, leads, lone, part, parts}
use Rattle.trees.specs.Trees.{Child, Forest, Tree, cons, degree, leaf, nil, node, under, under_f}
use Rattle.trees.specs.Triplets.{Proper, Triplets}

-- ---- what the plain build gives is Aho's tree

aho_forest : (E : Triplets) (f : Forest) → EveryF (AhoTree E) f → AhoForest E f
aho_forest E nil h = tt
aho_forest E (cons t f) h = (h.0, aho_forest E f h.1)

aho_every : (E : Triplets) (f : Forest) → AhoForest E f → EveryF (AhoTree E) f
aho_every E nil h = tt
aho_every E (cons t f) h = (h.0, aho_every E f h.1)

-- what is so of each part's tree is so of each child
gather-trees : (g : Species → Outcome) (Q : Tree → Type 0) (ps : List Species) → Every (λ p. (t : Tree) → g p ≡ tree t → Q t) ps
    → (f : Forest) → gather g ps ≡ trees f → EveryF Q f
gather-trees g Q [] h f e = let q : f ≡ nil = cc in rw q tt
gather-trees g Q (p ∷ ps) h f e =
    let r = next_tree (g p) (gather g ps) f e in
    rw r.4 (h.0 r.0 r.2, gather-trees g Q ps h.1 r.1 r.3)

module _ (E : Triplets) (N : ℕ) (pr : Proper E) where
  -- s has the species of one part of S
  abbrev PartOf : Species → Tree → Type 0
  PartOf S s = (j : ℕ) × So (S j) × ((x : ℕ) → under s x ≡ part E N S j x)

  parted : (S : Species) → Below N S → (f : Forest) → Inside S (under_f f) → EveryF (PartOf S) f → Parted E S f
  parted S bd f all q x y hx hy = (
    (λ c. let i = every_child (PartOf S) c.0 f q c.1 in
        part_walk E S N x y (part_trans E N S bd pr x i.0 y i.1 (part_sym E N S bd pr i.0 x (sym (i.2 x) ∙ c.2)) (sym (i.2 y) ∙ c.3))),
    λ w. let c = child_of f x (all x hx) in
        let i = every_child (PartOf S) c.0 f q c.1 in
        (c.0, c.1, c.2, i.2 y ∙ follow E S (part E N S i.0) (part_closed E N S bd pr i.0) x y w (sym (i.2 x) ∙ c.2)),
  )

-- What is so of a leaf, of the tree that a joined set ends in, and of a node whose group is not joined and whose children are its parts, where it is so of
-- each child, is so of every tree that the build v gives.
module _ (v : Bool) (E : Triplets) (N : ℕ) (pr : Proper E) (Q : Tree → Type 0) (at_leaf : (x : ℕ) → Q (leaf x))
    (at_joined : (S : Species) → Below N S → So (joined E N S) → (t : Tree) → ending v N S ≡ tree t → Q t)
    (at-node : (f : Forest) → Below N (under_f f) → (u : ℕ) → So (under_f f u) → So (not (joined E N (under_f f))) → Parted E (under_f f) f → EveryF Q f → Q (node f)) where
  raised_in : (k : ℕ) (S : Species) → Below N S → (u : ℕ) → So (S u) → length (members N S) ≤ k → (t : Tree) → build_in v E N k S ≡ tree t → Q t
  unfolding build_in
  raised_in zero S bd u hu le t e = absurd (omega (arith, members_one N S u (bd u hu) hu))
  raised_in (suc k) S bd u hu le t e = ⊎_elim
      (λ h. rw h.1 (at_leaf (get_or (members N S) 0 0)))
      (⊎_elim
      (λ h. at_joined S bd h.1 t h.2)
      (λ h.
      let f = h.2.0 in
      let sp : under_f f ≡ S = fun_ext (λ x. (built_in v E N pr (suc k) S bd u hu le (node f) (e ∙ ap tree h.2.2)).species x) in
      let q : EveryF (λ s. Q s × PartOf E N pr S s) f = gather-trees (λ p. build_in v E N k p) (λ s. Q s × PartOf E N pr S s) (parts E N S)
      (parts_every E N S bd pr (λ p. (s : Tree) → build_in v E N k p ≡ tree s → Q s × PartOf E N pr S s)
      (λ j hj lj s d.
      let bd' : Below N (part E N S j) = λ x r. bd x (part_in E N S bd pr j x hj r) in
      let jj = part_refl E N S bd pr j in
      let le' : length (members N (part E N S j)) ≤ k = omega (arith, fewer E N pr S bd u hu j hj h.1) in
      (raised_in k (part E N S j) bd' j jj le' s d, (j, hj, (built_in v E N pr k (part E N S j) bd' j jj le' s d).species))))
      f h.2.1 in
      let all : Inside S (under_f f) = λ x r. ap (λ (P : Species). P x) sp ∙ r in
      rw h.2.2 (at-node f (λ x r. bd x (ap (λ (P : Species). P x) (sym sp) ∙ r)) u (all u hu)
      (subst (λ (P : Species). So (not (joined E N P))) (sym sp) h.1)
      (subst (λ (P : Species). Parted E P f) (sym sp) (parted E N pr S bd f all (every_f_map _ (PartOf E N pr S) (λ s r. r.1) f q)))
      (every_f_map _ Q (λ s r. r.0) f q))))
      (choose_tree (lone (members N S)) (joined E N S) (get_or (members N S) 0 0) (ending v N S) (gather (λ p. build_in v E N k p) (parts E N S)) t e)

  pub raised : (S : Species) → Below N S → (u : ℕ) → So (S u) → (t : Tree) → build_by v E N S ≡ tree t → Q t
  unfolding build_by
  raised S bd u hu t e = raised_in N S bd u hu (members_bound N S) t e

module _ (E : Triplets) (N : ℕ) (pr : Proper E) where
  pub built_is_aho : (S : Species) → Below N S → (u : ℕ) → So (S u) → (t : Tree) → build E N S ≡ tree t → AhoTree E t
  built_is_aho = raised false E N pr (AhoTree E) (λ x. tt) (λ S bd j t e. let z : ◌≡◌ {A = ℕ} 0 1 = cc in absurd (omega arith)) (λ f bd u hu nj p q. (p, aho_forest E f q))

-- ---- Aho's tree in house order is what either build gives

abbrev child_sets : Forest → List Species
child_sets nil = []
child_sets (cons t f) = under t ∷ child_sets f

gather-children : (g : Species → Outcome) (f : Forest) → EveryF (λ t. g (under t) ≡ tree t) f → gather g (child_sets f) ≡ trees f
gather-children g nil h = refl
gather-children g (cons t f) h = rw (h.0, gather-children g f h.1) refl

child_sets_length : (f : Forest) → length (child_sets f) ≡ degree f
child_sets_length nil = refl
child_sets_length (cons t f) = ap suc (child_sets_length f)

module _ (v : Bool) (E : Triplets) (N : ℕ) (pr : Proper E) where
  module _ (F : Forest) (bd : Below N (under_f F)) where
    abbrev Whole : Tree → Type 0
    Whole t = (x y : ℕ) → So (under t x) → part E N (under_f F) x y ≡ under t y

    -- the part of a species is its child
    whole : FormedF F → Parted E (under_f F) F → (t : Tree) → Child t F → Whole t
    whole w p t m x y hx =
        let ix = child_in F t x m hx in
        bool_ext (part E N (under_f F) x y) (under t y)
        (λ h. let c = (p x y ix (part_in E N (under_f F) bd pr x y ix h)).1 (part_walk E (under_f F) N x y h) in
        subst (λ (s : Tree). So (under s y)) (child_uniq F w c.0 t x c.1 m c.2 hx) c.3)
        (λ hy. follow E (under_f F) (part E N (under_f F) x) (part_closed E N (under_f F) bd pr x) x y ((p x y ix (child_in F t y m hy)).0 (t, m, hx, hy)) (part_refl E N (under_f F) bd pr x))

    parts_from : (n i : ℕ) (f : Forest) → FormedF f → HousedF f → EveryF Whole f → ((x : ℕ) → So (under_f f x) → So (under_f F x)) → ((x : ℕ) → So (under_f f x) → i ≤ x) → ((x : ℕ) → So (under_f f x) → x < i + n)
        → ((j : ℕ) → i ≤ j → So (leads E N (under_f F) j) → So (under_f f j)) → map (part E N (under_f F)) (from i n (leads E N (under_f F))) ≡ child_sets f
    parts_from zero i nil w h k sub lo hi ex = refl
    parts_from zero i (cons t f) w h k sub lo hi ex = let r = some_species t w.0 in let m = or_l (under t r.0) (under_f f r.0) r.1 in absurd (omega (arith, lo r.0 m, hi r.0 m))
    parts_from (suc n) i nil w h k sub lo hi ex = test (leads E N (under_f F) i)
        (λ e. absurd (false≢true (ex i (omega arith) e)))
        (λ e. rw (not-true (leads E N (under_f F) i) e) (parts_from n (suc i) nil w h k sub (λ x q. absurd (false≢true q)) (λ x q. absurd (false≢true q)) (λ j le q. ex j (omega arith) q)))
    parts_from (suc n) i (cons t f) w h k sub lo hi ex = test (leads E N (under_f F) i)
        (λ e.
        let it : So (under t i) = or_case (under t i) (under_f f i) (ex i (omega arith) e) (λ q. q)
        (λ q. let r = h.1 i q in absurd (omega (arith, r.2, lo r.0 (or_l (under t r.0) (under_f f r.0) r.1)))) in
        rw e (ap₂ (λ (p : Species) (l : List Species). p ∷ l) (fun_ext (λ y. k.0 i y it))
        (parts_from n (suc i) f w.2 h.2 k.1 (λ x q. sub x (or_r (under t x) (under_f f x) q))
        (λ x q. let ne : i ≡ x → ⊥ = λ r. w.1 i it (subst (λ (z : ℕ). So (under_f f z)) (sym r) q) in omega (arith, lo x (or_r (under t x) (under_f f x) q)))
        (λ x q. omega (arith, hi x (or_r (under t x) (under_f f x) q)))
        (λ j le q. or_case (under t j) (under_f f j) (ex j (omega arith) q)
        (λ r. absurd (leads-lowest E N (under_f F) bd pr i j q (omega arith) (sub i (or_l (under t i) (under_f f i) it)) (rw (k.0 i j it) r)))
        (λ r. r)))))
        (λ e.
        let it : So (under t i || under_f f i) → ⊥ = λ m. or_case (under t i) (under_f f i) m
        (λ q. not_e _ e (leads_i E N (under_f F) bd pr i (sub i m)
        (λ j lt hj r. let r' = part_sym E N (under_f F) bd pr j i r in
        let jt : So (under t j) = rw (← (k.0 i j q)) r' in
        omega (arith, lo j (or_l (under t j) (under_f f j) jt)))))
        (λ q. let r = h.1 i q in absurd (omega (arith, r.2, lo r.0 (or_l (under t r.0) (under_f f r.0) r.1)))) in
        rw (not-true (leads E N (under_f F) i) e) (parts_from n (suc i) (cons t f) w h k sub
        (λ x q. let ne : i ≡ x → ⊥ = λ r. it (subst (λ (z : ℕ). So (under t z || under_f f z)) (sym r) q) in omega (arith, lo x q))
        (λ x q. omega (arith, hi x q))
        (λ j le q. ex j (omega arith) q)))

    parts-children : FormedF F → HousedF F → Parted E (under_f F) F → parts E N (under_f F) ≡ child_sets F
    unfolding parts members
    parts-children w h p = parts_from N 0 F w h (child_every Whole F (whole w p))
        (λ x q. q) (λ x q. omega arith) (λ x q. omega (arith, bd x q)) (λ j le q. leads_in E N (under_f F) bd pr j q)

  -- a step of the build with its tests known
  build_node : (k : ℕ) (S : Species) (f : Forest) → So (not (lone (members N S))) → So (not (joined E N S)) → gather (λ p. build_in v E N k p) (parts E N S) ≡ trees f
      → build_in v E N (suc k) S ≡ tree (node f)
  unfolding build_in
  build_node k S f p q e = rw (not-true (lone (members N S)) p, not-true (joined E N S) q, e) refl

  build-joined : (k : ℕ) (S : Species) (t : Tree) → So (not (lone (members N S))) → So (joined E N S) → ending v N S ≡ tree t → build_in v E N (suc k) S ≡ tree t
  unfolding build_in
  build-joined k S t p q e = rw (not-true (lone (members N S)) p, q) e

  -- a rule Q of trees that says of each node: its children are the parts of its group, or that is joined and ends in this very node; and Q is so of each child
  module _ (Q : Tree → Type 0)
      (at-node : (f : Forest) → Below N (under_f f) → Formed (node f) → Housed (node f) → Q (node f) → Parted E (under_f f) f ⊎ (So (joined E N (under_f f)) × (ending v N (under_f f) ≡ tree (node f))))
      (at-children : (f : Forest) → Q (node f) → EveryF Q f) where
    -- what the induction asks of a tree
    record Given (k : ℕ) (t : Tree) : Type 0 where
      bound : Below N (under t)
      formed : Formed t
      housed : Housed t
      rule : Q t
      levels : length (members N (under t)) ≤ k

    children_given : (k : ℕ) (F : Forest) → Given (suc k) (node F) → (f : Forest) → HousedF f → EveryF Q f → EveryF (Kid F) f → EveryF (Omits F) f → EveryF (Given k) f
    children_given k F g nil h a q o = tt
    children_given k F g (cons t f) h a q o = (
      record {
        bound = λ x p. g.bound x (q.0.inside x p);
        formed = q.0.formed;
        housed = h.0;
        rule = a.0;
        levels = let r = o.0 in omega (
          arith,
          g.levels,
          members-lt N (under t) (under_f F) q.0.inside r.0 (g.bound r.0 r.1) r.2 r.1,
        );
      },
      children_given k F g f h.2 a.1 q.1 o.1,
    )

    build_leaf : (k x : ℕ) → Given (suc k) (leaf x) → build_in v E N (suc k) (under (leaf x)) ≡ tree (leaf x)
    unfolding build_in
    build_leaf k x g =
        let l = members N (under (leaf x)) in
        let b : x < N = g.bound x (eq-eqb x x refl) in
        let len : length l ≡ 1 = omega (
          arith,
          members_one N (under (leaf x)) x b (eq-eqb x x refl),
          members_uniq N (under (leaf x)) (λ a b p q. sym (eqb-true x a p) ∙ eqb-true x b q),
        ) in
        let hd : get_or l 0 0 ≡ x = sym (eqb-true x (get_or l 0 0) (members_head N (under (leaf x)) (omega arith))) in
        rw (length-lone l len) (ap (λ (z : ℕ). tree (leaf z)) hd)

    two_there : (k : ℕ) (f : Forest) → Given k (node f) → 2 ≤ length (members N (under_f f))
    two_there k f g = let q = two-under f g.formed.1 g.formed.0 in members-two N (under_f f) g.bound q.0 q.1 q.2 q.3 q.4

    mutual
      rule_tree : (t : Tree) (k : ℕ) → Given k t → build_in v E N k (under t) ≡ tree t
      rule_tree (leaf x) zero g = absurd (omega (arith, g.levels, members_one N (under (leaf x)) x (g.bound x (eq-eqb x x refl)) (eq-eqb x x refl)))
      rule_tree (leaf x) (suc k) g = build_leaf k x g
      rule_tree (node f) zero g = absurd (omega (arith, g.levels, two_there zero f g))
      rule_tree (node f) (suc k) g = ⊎_elim
          (λ p.
          let e = parts-children f g.bound g.formed.1 g.housed p in
          build_node k (under_f f) f (many (members N (under_f f)) (two_there (suc k) f g))
          (many (parts E N (under_f f)) (rw (e, child_sets_length) g.formed.0))
          (rw e (gather-children (λ p. build_in v E N k p) f
          (rule_children f k (children_given k f g f g.housed (at-children f g.rule) (kids f g.formed.1) (omits f g.formed.1 g.formed.0))))))
          (λ j. build-joined k (under_f f) (node f) (many (members N (under_f f)) (two_there (suc k) f g)) j.0 j.1)
          (at-node f g.bound g.formed g.housed g.rule)

      rule_children : (f : Forest) (k : ℕ) → EveryF (Given k) f → EveryF (λ t. build_in v E N k (under t) ≡ tree t) f
      rule_children nil k g = tt
      rule_children (cons t f) k g = (rule_tree t k g.0, rule_children f k g.1)

    pub rule_is_built : (t : Tree) → Below N (under t) → Formed t → Housed t → Q t → build_by v E N (under t) ≡ tree t
    unfolding build_by
    rule_is_built t bd w h a = rule_tree t N (record { bound = bd; formed = w; housed = h; rule = a; levels = members_bound N (under t) })

  pub aho_is_built : (t : Tree) → Below N (under t) → Formed t → Housed t → AhoTree E t → build_by v E N (under t) ≡ tree t
  aho_is_built = rule_is_built (AhoTree E) (λ f bd w h a. inl a.0) (λ f a. aho_every E f a.1)
