-- Nodes that lay out a tree in preorder are good, and they draw that tree. Assumes nothing.
use mathlib.Core.Path.{◌≡◌, refl, sym, ap, ap₂, ◌∙◌, subst}
use mathlib.Core.Logic.{◌⊎◌, inl, inr, ⊎_elim}
use mathlib.Core.Bool.{◌||◌, So}
use mathlib.Core.List.{List, [], ◌∷◌, ◌++◌, append-nil}
use Prim.Native.Nat.{ℕ, suc, ◌+◌, ◌-◌, ◌≤◌, ◌<◌}
use native.Mathlib.Decide.{ℕ_discrete, dec_lt}
use native.Mathlib.Omega.{arith}
use borrow.Author.Tests.{eq-eqb}
use lib.ListN.{length}
use Rattle.sets.specs.Species.{Below}
use Rattle.sets.proofs.Bools.{or_l, or_r}
use Rattle.trees.specs.Trees.{Tree, Forest, leaf, node, nil, cons, under, under_f, degree}
use Rattle.trees.proofs.Formed.{Formed, FormedF}
use Rattle.bodies.specs.Nodes.{Nodes, children_among, children, Good}
use Rattle.bodies.specs.Draws.{forest_of, grow, subtree, node_count, node_count_f}
use Rattle.bodies.proofs.Under.{among_none, among_split, subtree-eq}

-- the tree's nodes stand in preorder from node at on, below the parent p
abbrev mutual
  pub Lays : Nodes → Tree → ℕ → ℕ → Type 0
  Lays v (leaf x) p at = (v.parent at ≡ p) × (v.species at ≡ x)
  Lays v (node f) p at = (v.parent at ≡ p) × (v.species at ≡ 255) × LaysF v f at (suc at)

  pub LaysF : Nodes → Forest → ℕ → ℕ → Type 0
  LaysF v nil p at = Unit {0}
  LaysF v (cons t f) p at = Lays v t p at × LaysF v f p (at + node_count t)

pub count_pos : (t : Tree) → 0 < node_count t
count_pos (leaf x) = omega arith
count_pos (node f) = omega arith

-- where the trees of a forest begin
abbrev kids_at : Forest → ℕ → List ℕ
kids_at nil at = []
kids_at (cons t f) at = at ∷ kids_at f (at + node_count t)

kids_degree : (f : Forest) (at : ℕ) → length (kids_at f at) ≡ degree f
kids_degree nil at = refl
kids_degree (cons t f) at = ap suc (kids_degree f (at + node_count t))

grow_node : (s at : ℕ) (f : Forest) → (length (kids_at f at) ≡ 0 → ⊥) → grow s f ≡ node f
grow_node s at nil h = absurd (h refl)
grow_node s at (cons t f) h = refl

module _ (v : Nodes) where
  -- ---- the parents inside a stretch

  head_parent : (t : Tree) (p at : ℕ) → Lays v t p at → v.parent at ≡ p
  head_parent (leaf x) p at l = l.0
  head_parent (node f) p at l = l.0

  mutual
    parents : (t : Tree) (p at : ℕ) → Lays v t p at → (c : ℕ) → at < c → c < at + node_count t → (at ≤ v.parent c) × (v.parent c < c)
    parents (leaf x) p at l c h m = absurd (omega arith)
    parents (node f) p at l c h m =
        let r = parents_f f at (suc at) (omega arith) l.2 c h (omega arith) in
        (⊎_elim (λ e. omega arith) (λ k. omega arith) r.0, r.1)

    parents_f : (f : Forest) (p at : ℕ) → p < at → LaysF v f p at → (c : ℕ) → at ≤ c → c < at + node_count_f f
        → ((v.parent c ≡ p) ⊎ (at ≤ v.parent c)) × (v.parent c < c)
    parents_f nil p at q l c h m = absurd (omega arith)
    parents_f (cons t f) p at q l c h m = go (ℕ_discrete c at) (dec_lt c (at + node_count t))
        (λ h m. parents t p at l.0 c h m) (λ h m. parents_f f p (at + node_count t) (omega (arith, count_pos t)) l.1 c h m)
      where
        go : Dec (c ≡ at) → Dec (c < at + node_count t) → (at < c → c < at + node_count t → (at ≤ v.parent c) × (v.parent c < c))
            → (at + node_count t ≤ c → c < at + node_count t + node_count_f f → ((v.parent c ≡ p) ⊎ (at + node_count t ≤ v.parent c)) × (v.parent c < c))
            → ((v.parent c ≡ p) ⊎ (at ≤ v.parent c)) × (v.parent c < c)
        go (yes e) b iT iF = let z : v.parent c ≡ p = ap v.parent e ∙ head_parent t p at l.0 in (inl z, omega arith)
        go (no n) (yes b) iT iF = let r = iT (omega arith) b in (inr r.0, r.1)
        go (no n) (no b) iT iF = let r = iF (omega arith) (omega arith) in (⊎_elim (λ z. inl z) (λ z. inr (omega arith)) r.0, r.1)

  -- ---- the children of a node are the trees of its forest

  among_head : (i k j : ℕ) → v.parent j ≡ i → ((c : ℕ) → suc j ≤ c → c < j + suc k → v.parent c ≡ i → ⊥) → children_among v i (suc k) j ≡ j ∷ []
  among_head i k j e h = rw (eq-eqb _ _ e) (ap (λ (z : List ℕ). j ∷ z) (among_none v i k (suc j) (λ c l m. h c l (omega arith))))

  among_kids : (f : Forest) (p at : ℕ) → p < at → LaysF v f p at → children_among v p (node_count_f f) at ≡ kids_at f at
  among_kids nil p at q l = refl
  among_kids (cons t f) p at q l =
      let pos = count_pos t in
      let m : node_count t ≡ suc (node_count t - 1) = omega arith in
      among_split v p (node_count t) (node_count_f f) at
      ∙ ap₂ (λ (y z : List ℕ). y ++ z)
      (ap (λ (z : ℕ). children_among v p z at) m ∙ among_head p (node_count t - 1) at (head_parent t p at l.0)
      (λ c h k e. omega (arith, (parents t p at l.0 c h (omega arith)).0)))
      (among_kids f p (at + node_count t) (omega arith) l.1)

  -- no node behind the m nodes from at on has one of them for its parent
  abbrev pub Outside : ℕ → ℕ → Type 0
  Outside at m = (c : ℕ) → at + m ≤ c → c < v.count → at ≤ v.parent c → v.parent c < at + m → ⊥

  pub outside_first : (t : Tree) (f : Forest) (p at : ℕ) → p < at → LaysF v f p (at + node_count t) → Outside at (node_count t + node_count_f f) → Outside at (node_count t)
  outside_first t f p at q l o c h m a b = go (dec_lt c (at + (node_count t + node_count_f f)))
    where
      go : Dec (c < at + (node_count t + node_count_f f)) → ⊥
      go (yes k) = ⊎_elim {C = ⊥} (λ z. omega arith) (λ z. omega arith) (parents_f f p (at + node_count t) (omega arith) l c h (omega arith)).0
      go (no k) = o c (omega arith) m a (omega arith)

  pub outside_rest : (t : Tree) (f : Forest) (at : ℕ) → Outside at (node_count t + node_count_f f) → Outside (at + node_count t) (node_count_f f)
  outside_rest t f at o c h m a b = o c (omega arith) m (omega arith) (omega arith)

  pub outside_kids : (f : Forest) (at : ℕ) → Outside at (suc (node_count_f f)) → Outside (suc at) (node_count_f f)
  outside_kids f at o c h m a b = o c (omega arith) m (omega arith) (omega arith)

  children-at : ((c : ℕ) → 0 < c → c < v.count → v.parent c < c) → (f : Forest) (at : ℕ) → LaysF v f at (suc at) → Outside at (suc (node_count_f f))
      → at + suc (node_count_f f) ≤ v.count → children v at ≡ kids_at f (suc at)
  unfolding children
  children-at later f at l o h =
      let rest = v.count - (at + suc (node_count_f f)) in
      let m : v.count - 1 ≡ at + (node_count_f f + rest) = omega arith in
      let s : 1 + at ≡ suc at = omega arith in
      ap (λ (z : ℕ). children_among v at z 1) m ∙ among_split v at at (node_count_f f + rest) 1
      ∙ ap₂ (λ (y z : List ℕ). y ++ z)
      (among_none v at at 1 (λ c p q e. omega (arith, later c (omega arith) (omega arith))))
      (ap (λ (z : ℕ). children_among v at (node_count_f f + rest) z) s ∙ among_split v at (node_count_f f) rest (suc at)
      ∙ ap₂ (λ (y z : List ℕ). y ++ z)
      (among_kids f at (suc at) (omega arith) l)
      (among_none v at rest (suc at + node_count_f f) (λ c p q e. o c (omega arith) (omega arith) (omega arith) (omega arith))))
      ∙ append-nil (kids_at f (suc at))

  -- ---- every node is the root of a tree that is laid out there

  record Spot (n c : ℕ) : Type 0 where
    pub tree : Tree
    pub above : ℕ
    pub formed : Formed tree
    pub lays : Lays v tree above c
    pub outside : Outside c (node_count tree)
    pub fits : c + node_count tree ≤ v.count
    pub small : Below n (under tree)

  mutual
    spot : (n : ℕ) (t : Tree) (p at : ℕ) → Formed t → Below n (under t) → Lays v t p at → Outside at (node_count t) → at + node_count t ≤ v.count
        → (c : ℕ) → at ≤ c → c < at + node_count t → Spot n c
    spot n (leaf x) p at w bd l o h c a b =
        let e : at ≡ c = omega arith in
        subst (λ (z : ℕ). Spot n z) e (record { tree = leaf x; above = p; formed = w; lays = l; outside = o; fits = h; small = bd })
    spot n (node f) p at w bd l o h c a b =
        go (ℕ_discrete at c) (λ m. spot_f n f at (suc at) w.1 bd (omega arith) l.2 (outside_kids f at o) (omega arith) c m (omega arith))
      where
        go : Dec (at ≡ c) → (suc at ≤ c → Spot n c) → Spot n c
        go (yes e) ih = subst (λ (z : ℕ). Spot n z) e (record { tree = node f; above = p; formed = w; lays = l; outside = o; fits = h; small = bd })
        go (no n) ih = ih (omega arith)

    spot_f : (n : ℕ) (f : Forest) (p at : ℕ) → FormedF f → Below n (under_f f) → p < at → LaysF v f p at → Outside at (node_count_f f) → at + node_count_f f ≤ v.count
        → (c : ℕ) → at ≤ c → c < at + node_count_f f → Spot n c
    spot_f n nil p at w bd q l o h c a b = absurd (omega arith)
    spot_f n (cons t f) p at w bd q l o h c a b = go (dec_lt c (at + node_count t))
        (λ m. spot n t p at w.0 (λ x i. bd x (or_l (under t x) (under_f f x) i)) l.0 (outside_first t f p at q l.1 o) (omega arith) c a m)
        (λ m. spot_f n f p (at + node_count t) w.2 (λ x i. bd x (or_r (under t x) (under_f f x) i)) (omega arith) l.1 (outside_rest t f at o) (omega arith) c m (omega arith))
      where
        go : Dec (c < at + node_count t) → (c < at + node_count t → Spot n c) → (at + node_count t ≤ c → Spot n c) → Spot n c
        go (yes m) f g = f m
        go (no n) f g = g (omega arith)

  -- ---- the species of a stretch

  mutual
    -- one that stands there is in the tree
    stands : (t : Tree) (p at : ℕ) → Lays v t p at → (c : ℕ) → at ≤ c → c < at + node_count t → v.species c < 255 → So (under t (v.species c))
    stands (leaf x) p at l c a b s = let e : at ≡ c = omega arith in eq-eqb x (v.species c) (sym l.1 ∙ ap v.species e)
    stands (node f) p at l c a b s = go (ℕ_discrete c at) (λ m. stands_f f at (suc at) l.2 c m (omega arith) s)
      where
        go : Dec (c ≡ at) → (suc at ≤ c → So (under_f f (v.species c))) → So (under_f f (v.species c))
        go (yes e) ih = absurd (omega (arith, ap v.species e, l.1))
        go (no n) ih = ih (omega arith)

    stands_f : (f : Forest) (p at : ℕ) → LaysF v f p at → (c : ℕ) → at ≤ c → c < at + node_count_f f → v.species c < 255 → So (under_f f (v.species c))
    stands_f nil p at l c a b s = absurd (omega arith)
    stands_f (cons t f) p at l c a b s =
        go (dec_lt c (at + node_count t)) (λ m. stands t p at l.0 c a m s) (λ m. stands_f f p (at + node_count t) l.1 c m (omega arith) s)
      where
        go : Dec (c < at + node_count t) → (c < at + node_count t → So (under t (v.species c))) → (at + node_count t ≤ c → So (under_f f (v.species c)))
            → So (under t (v.species c) || under_f f (v.species c))
        go (yes m) iT iF = or_l (under t (v.species c)) (under_f f (v.species c)) (iT m)
        go (no n) iT iF = or_r (under t (v.species c)) (under_f f (v.species c)) (iF (omega arith))

  mutual
    -- none stands twice
    once : (t : Tree) (p at : ℕ) → Formed t → Lays v t p at → (i j : ℕ) → at ≤ i → i < j → j < at + node_count t → v.species j < 255 → v.species i ≡ v.species j → ⊥
    once (leaf x) p at w l i j a b c s e = omega arith
    once (node f) p at w l i j a b c s e = go (ℕ_discrete i at) (λ m. once_f f at (suc at) w.1 l.2 i j m b (omega arith) s e)
      where
        go : Dec (i ≡ at) → (suc at ≤ i → ⊥) → ⊥
        go (yes q) ih = omega (arith, ap v.species q, l.1)
        go (no n) ih = ih (omega arith)

    once_f : (f : Forest) (p at : ℕ) → FormedF f → LaysF v f p at → (i j : ℕ) → at ≤ i → i < j → j < at + node_count_f f → v.species j < 255 → v.species i ≡ v.species j → ⊥
    once_f nil p at w l i j a b c s e = omega arith
    once_f (cons t f) p at w l i j a b c s e = go (dec_lt i (at + node_count t)) (dec_lt j (at + node_count t))
        (λ m. once t p at w.0 l.0 i j a b m s e)
        (λ m. once_f f p (at + node_count t) w.2 l.1 i j m b (omega arith) s e)
      where
        go : Dec (i < at + node_count t) → Dec (j < at + node_count t) → (j < at + node_count t → ⊥) → (at + node_count t ≤ i → ⊥) → ⊥
        go (no n) y iT iF = iF (omega arith)
        go (yes m) (yes k) iT iF = iT k
        go (yes m) (no k) iT iF = w.1 (v.species j)
            (subst (λ (z : ℕ). So (under t z)) e (stands t p at l.0 i a m (omega arith)))
            (stands_f f p (at + node_count t) l.1 j (omega arith) (omega arith) s)

  -- ---- good nodes draw the tree that they lay out

  module _ (n : ℕ) (small : n ≤ 255) (g : Good n v) where
    mutual
      pub back : (u : Tree) (p at : ℕ) → Lays v u p at → Outside at (node_count u) → at + node_count u ≤ v.count → subtree v at ≡ u
      back (leaf x) p at l o h =
          subtree-eq n v g at (omega arith)
          ∙ ap (λ (z : List ℕ). grow (v.species at) (forest_of (subtree v) z)) (children-at g.later nil at tt o h) ∙ ap leaf l.1
      back (node f) p at l o h =
          subtree-eq n v g at (omega arith)
          ∙ ap (λ (z : List ℕ). grow (v.species at) (forest_of (subtree v) z)) (children-at g.later f at l.2 o h)
          ∙ ap (grow (v.species at)) (back_f f at (suc at) (omega arith) l.2 (outside_kids f at o) (omega arith))
          ∙ grow_node (v.species at) (suc at) f (λ e. omega (arith, l.1, g.outer at (omega arith) (ap length (children-at g.later f at l.2 o h) ∙ e)))

      back_f : (f : Forest) (p at : ℕ) → p < at → LaysF v f p at → Outside at (node_count_f f) → at + node_count_f f ≤ v.count → forest_of (subtree v) (kids_at f at) ≡ f
      back_f nil p at q l o h = refl
      back_f (cons t f) p at q l o h = ap₂ cons
          (back t p at l.0 (outside_first t f p at q l.1 o) (omega arith))
          (back_f f p (at + node_count t) (omega arith) l.1 (outside_rest t f at o) (omega arith))

    pub good_back : (t : Tree) → Lays v t 255 0 → v.count ≡ node_count t → subtree v 0 ≡ t
    good_back t l full = back t 255 0 l (λ c h m a b. omega arith) (omega arith)

  -- ---- nodes that lay out a well-formed tree are good

  module _ (n : ℕ) (t : Tree) (small : n ≤ 255) (w : Formed t) (bd : Below n (under t)) (l : Lays v t 255 0) (full : v.count ≡ node_count t) where
    later : (c : ℕ) → 0 < c → c < v.count → v.parent c < c
    later c h m = (parents t 255 0 l c h (omega arith)).1

    whole : Outside 0 (node_count t)
    whole c h m a b = omega arith

    -- a leaf with a species below n, or a node with two children or more
    abbrev Kind : ℕ → Type 0
    Kind c = ((length (children v c) ≡ 0) × (v.species c < n)) ⊎ ((2 ≤ length (children v c)) × (v.species c ≡ 255))

    kind_of : (c : ℕ) (u : Tree) (p : ℕ) → Formed u → Below n (under u) → Lays v u p c → Outside c (node_count u) → c + node_count u ≤ v.count → Kind c
    kind_of c (leaf x) p w bd l o h = inl (ap length (children-at later nil c tt o h), bd (v.species c) (eq-eqb x (v.species c) (sym l.1)))
    kind_of c (node f) p w bd l o h = inr (omega (arith, ap length (children-at later f c l.2 o h), kids_degree f (suc c), w.0), l.1)

    kind : (c : ℕ) → c < v.count → Kind c
    kind c h =
        let s = spot n t 255 0 w bd l whole (omega arith) c (omega arith) (omega arith) in
        kind_of c s.tree s.above s.formed s.small s.lays s.outside s.fits

    pub laid_good : Good n v
    laid_good = record {
      root = λ h. head_parent t 255 0 l;
      later = later;
      inner = λ i h k. ⊎_elim (λ p. absurd (omega (arith, p.0))) (λ p. p.1) (kind i h);
      two = λ i h k. ⊎_elim (λ p. absurd (omega (arith, p.0))) (λ p. p.0) (kind i h);
      outer = λ i h k. ⊎_elim (λ p. p.1) (λ p. absurd (omega (arith, p.0))) (kind i h);
      once = λ i j h m a b e. ⊎_elim (λ p. once t 255 0 w l i j (omega arith) h (omega arith) (omega (arith, p.1)) e) (λ p. omega (arith, p.0)) (kind j m);
    }

    pub laid_back : subtree v 0 ≡ t
    laid_back = good_back n small laid_good t l full
