-- The children of a node in house order, one by one: the lowest species that is left shows the next child. Assumes nothing.
use mathlib.Core.Bool.{Bool, So, ◌&&◌, ◌||◌, cond, false≢true, not}
use mathlib.Core.List.{List, Memᴰ, [], ◌∷◌}
use mathlib.Core.Logic.{◌≢◌}
use mathlib.Core.Path.{◌∙◌, ◌≡◌, ap, ap₂, fun_ext, refl, subst, sym}
use Prim.Native.Nat.{◌<◌, ◌≤◌, ◌^◌, ℕ}
use native.Mathlib.Omega.{arith}
use borrow.Author.Tests.{ne_eqb}
use lib.Dec.{eqb}
use lib.ListN.{get_or, length}
use Rattle.sets.proofs.Bools.{and_i, and_l, and_r, bool_ext, by_order, not_e, not_i, or_case, or_l, or_r}
use Rattle.std.proofs.Common.{None, Some}
use Rattle.sets.proofs.Digits.{minus-le}
use Rattle.sets.proofs.Facts.{minus_e}
use Rattle.sets.proofs.Least as Least
use Rattle.sets.proofs.Tests.{has_empty, has-minus, has-number, has_true, number_empty, number_lt, number_unique, true_has}
use Rattle.sets.specs.Sets.{Lowest, has, minus, number}
use Rattle.sets.specs.Sets.{lowest as low}
use Rattle.sets.specs.Species.{Below}
use Rattle.trees.proofs.Formed.{Formed, FormedF}
use Rattle.trees.proofs.House.{by_low, house_formed, house_housed, house-under, house_f-under}
use Rattle.trees.proofs.Kids.{EveryF}
use Rattle.trees.proofs.Lowest.{HousedF, lowest_in, lowest-le}
use Rattle.trees.specs.Trees.{Forest, Tree, cons, hang, house, house_f, leaf, lowest, nil, node, under, under_f}
use Rattle.bodies.proofs.Drawn.{subtree_formed}
use Rattle.bodies.proofs.Under.{Child, bounded, child_later, children-apart, is_child, subtree-eq, subtree_leaf}
use Rattle.bodies.specs.Draws.{forest_of, grow, subtree}
use Rattle.groups.specs.Groups.{Groups, set_of}
use Rattle.bodies.specs.Nodes.{Good, Nodes, children, none}
use Rattle.children.specs.Children.{ChildWith, Gives}

-- ---- each tree among the children in house order is the house order of a child

abbrev pub KidOf : Nodes → ℕ → Tree → Type 0
KidOf v i u = (c : ℕ) × Child v i c × (u ≡ house (subtree v c))

hang_every : (Q : Tree → Type 0) (t : Tree) (f : Forest) → Q t → EveryF Q f → EveryF Q (hang t f)
hang_every Q t nil q h = (q, tt)
hang_every Q t (cons u f) q h = by_low t u f (EveryF Q) (λ l. (q, h)) (λ l. (h.0, hang_every Q t f q h.1))

-- the trees at some nodes in house order
abbrev pub housed : Nodes → List ℕ → Forest
housed v l = house_f (forest_of (subtree v) l)

pub every_kid : (v : Nodes) (i : ℕ) (l : List ℕ) → ((c : ℕ) → Memᴰ c l → Child v i c) → EveryF (KidOf v i) (housed v l)
every_kid v i [] h = tt
every_kid v i (c ∷ l) h = hang_every (KidOf v i) (house (subtree v c)) (housed v l) (c, h c (Memᴰ.head refl), refl)
    (every_kid v i l (λ d m. h d (Memᴰ.tail m)))

-- ---- the species of a forest as a number

has_first : (u : Tree) (f : Forest) → FormedF (cons u f) → Below 64 (under_f (cons u f)) → So (has (number 64 (under_f (cons u f))) (lowest u))
has_first u f w b =
    let h = or_l (under u (lowest u)) (under_f f (lowest u)) (lowest_in u w.0) in
    has-number 64 (under_f (cons u f)) (lowest u) (b (lowest u) h) ∙ h

has_e : (f : Forest) (x : ℕ) → x < 64 → So (has (number 64 (under_f f)) x) → So (under_f f x)
has_e f x l h = sym (has-number 64 (under_f f) x l) ∙ h

-- the lowest species of a forest in house order is the first tree's
first_lowest : (u : Tree) (f : Forest) → FormedF (cons u f) → HousedF (cons u f) → Below 64 (under_f (cons u f))
    → (s x : ℕ) → s ≡ number 64 (under_f (cons u f)) → s ≢ 0 → Lowest s x → x ≡ lowest u
first_lowest u f w h b s x e nz m =
    let p : So (under_f (cons u f) x) = has_e (cons u f) x (m.small nz) (subst (λ (z : ℕ). So (has z x)) e (true_has s x (m.member nz))) in
    let low : lowest u ≤ x = or_case (under u x) (under_f f x) p (lowest-le u x) (λ k. let r = h.1 x k in omega (arith, r.2, lowest-le u r.0 r.1)) in
    let k : So (has s (lowest u)) = subst (λ (z : ℕ). So (has z (lowest u))) (sym e) (has_first u f w b) in
    omega (arith, low, m.is, Least.lowest-le s (lowest u) (has_true s (lowest u) k))

-- the first tree's species taken off
first_off : (u : Tree) (f : Forest) → ((x : ℕ) → So (under u x) → So (under_f f x) → ⊥)
    → minus (number 64 (under_f (cons u f))) (number 64 (under u)) ≡ number 64 (under_f f)
first_off u f d = number_unique 64 _ (under_f f) (omega (arith, minus-le (number 64 (under_f (cons u f))) (number 64 (under u)), number_lt 64 (under_f (cons u f))))
    (λ x l. has-minus _ _ x ∙ ap₂ (λ (a b : Bool). a && not b) (has-number 64 _ x l) (has-number 64 _ x l)
    ∙ bool_ext ((under u x || under_f f x) && not (under u x)) (under_f f x)
    (λ h. or_case (under u x) (under_f f x) (and_l (under u x || under_f f x) _ h) (λ p. absurd (not_e (under u x) (and_r (under u x || under_f f x) _ h) p)) (λ q. q))
    (λ q. and_i (under u x || under_f f x) _ (or_r (under u x) _ q) (not_i (under u x) (λ p. d x p q))))

-- ---- the children of node i that are left, in house order: the set `rest` has their species

pub record Left (v : Nodes) (i rest : ℕ) (f : Forest) : Type 0 where
  pub kids : EveryF (KidOf v i) f
  pub formed : FormedF f
  pub order : HousedF f
  pub species : rest ≡ number 64 (under_f f)

-- the next child is c, and the others are left behind it
pub record NextChild (v : Nodes) (i : ℕ) (f : Forest) (c rest' : ℕ) : Type 0 where
  pub later : i < c
  pub within : c < v.count
  pub others : Forest
  pub is : f ≡ cons (house (subtree v c)) others
  pub left : Left v i rest' others

-- a species of both that is taken off
pub off_less : (s t x : ℕ) → So (has s x) → So (has t x) → minus s t < s
off_less s t x p q =
    let n : minus s t ≡ s → ⊥ = λ e. (minus_e s t x (subst (λ (z : ℕ). So (has z x)) (sym e) p)).1 q in
    omega (arith, minus-le s t, n)

-- node i and its children: a leaf's species, or two or more children
pub data Opened (v : Nodes) (i : ℕ) : Type 0 where
  alone : v.species i ≢ none → children v i ≡ [] → subtree v i ≡ leaf (v.species i) → Opened v i
  parted : v.species i ≡ none → subtree v i ≡ node (forest_of (subtree v) (children v i)) → Opened v i

module _ (v : Nodes) (g : Good 64 v) where
  -- two children with a species in common are one
  one_child : (i c d x : ℕ) → Child v i c → Child v i d → So (under (subtree v c) x) → So (under (subtree v d) x) → c ≡ d
  one_child i c d x h k p q = by_order c d
      (λ l. absurd (children-apart 64 v g i c d x h k l p q))
      (λ e. e)
      (λ l. absurd (children-apart 64 v g i d c x k h l q p))

  kids_below : (i : ℕ) (f : Forest) → EveryF (KidOf v i) f → Below 64 (under_f f)
  kids_below i nil k x h = absurd (false≢true h)
  kids_below i (cons u f) k x h = or_case (under u x) (under_f f x) h
      (λ p. let r = k.0 in bounded 64 v g r.0 x r.1.within (sym (house-under (subtree v r.0) x) ∙ subst (λ (t : Tree). So (under t x)) r.2 p))
      (λ q. kids_below i f k.1 x q)

  module _ (groups : List ℕ) (q : Groups v groups) where
    -- a child's group is its set
    of_group : (i x c : ℕ) → x < 64 → ChildWith v groups i x c → Child v i c × So (under (subtree v c) x)
    of_group i x c l w = (
      record { later = w.later; within = w.within; parent = w.parent },
      sym (has-number 64 (under (subtree v c)) x l) ∙ sym (ap (λ (s : ℕ). has s x) (q.group c w.within)) ∙ w.member,
    )

    in_group : (i x c : ℕ) → x < 64 → Child v i c → So (under (subtree v c) x) → ChildWith v groups i x c
    in_group i x c l h p = record {
      later = h.later;
      within = h.within;
      parent = h.parent;
      member = ap (λ (s : ℕ). has s x) (q.group c h.within) ∙ has-number 64 (under (subtree v c)) x l ∙ p;
    }

    -- the species that is looked for, where a child is left: the first child's lowest
    record Looked (i x : ℕ) (u : Tree) : Type 0 where
      small : x < 64
      child : ℕ
      kid : Child v i child
      is : u ≡ house (subtree v child)
      has_it : So (under (subtree v child) x)

    looked : (i rest : ℕ) (u : Tree) (f : Forest) → EveryF (KidOf v i) (cons u f) → FormedF (cons u f) → HousedF (cons u f)
        → rest ≡ number 64 (under_f (cons u f)) → (rest ≢ 0) × Looked i (low rest) u
    looked i rest u f k w h e =
        let b = kids_below i (cons u f) k in
        let nz : rest ≢ 0 = λ z. false≢true (sym (has_empty (lowest u)) ∙ ap (λ (s : ℕ). has s (lowest u)) (sym z ∙ e) ∙ has_first u f w b) in
        let m = Least.lowest_of rest (subst (λ (z : ℕ). z < 2 ^ 64) (sym e) (number_lt 64 (under_f (cons u f)))) in
        let xe : low rest ≡ lowest u = first_lowest u f w h b rest (low rest) e nz m in
        let ux : So (under u (low rest)) = subst (λ (z : ℕ). So (under u z)) (sym xe) (lowest_in u w.0) in
        let d = k.0.0 in (
          nz,
          record {
            small = m.small nz;
            child = d;
            kid = k.0.1;
            is = k.0.2;
            has_it = sym (house-under (subtree v d) (low rest)) ∙ subst (λ (z : Tree). So (under z (low rest))) k.0.2 ux;
          },
        )

    -- the child that has the lowest species left
    pub left-next : {i rest rest' : ℕ} {f : Forest} → Left v i rest f → (c : ℕ) → Gives v groups i rest (Some c) rest' → NextChild v i f c rest'
    left-next {i = i} {rest = rest} {rest' = rest'} {f = f} t c found = go f t.kids t.formed t.order t.species
      where
        go : (f : Forest) → EveryF (KidOf v i) f → FormedF f → HousedF f → rest ≡ number 64 (under_f f) → NextChild v i f c rest'
        go nil k w h e = absurd (found.0 (e ∙ number_empty 64))
        go (cons u f) k w h e =
            let o = (looked i rest u f k w h e).1 in
            let r = of_group i (low rest) c o.small found.1 in
            let eu : u ≡ house (subtree v c) = o.is ∙ ap (λ (z : ℕ). house (subtree v z)) (one_child i o.child c (low rest) o.kid r.0 o.has_it r.1) in
            let su : under u ≡ under (subtree v c) = ap under eu ∙ fun_ext (house-under (subtree v c)) in
            record {
              later = child_later 64 v g i c r.0;
              within = r.0.within;
              others = f;
              is = ap (λ (z : Tree). cons z f) eu;
              left = record {
                kids = k.1;
                formed = w.2;
                order = h.2;
                species = found.2 ∙ ap₂ minus e (q.group c r.0.within ∙ ap (number 64) (sym su)) ∙ first_off u f w.1;
              };
            }

    -- nothing is left
    pub left_end : {i rest : ℕ} {f : Forest} → Left v i rest f → (rest' : ℕ) → Gives v groups i rest None rest' → f ≡ nil
    left_end {i = i} {rest = rest} {f = f} t rest' over = go f t.kids t.formed t.order t.species
      where
        go : (f : Forest) → EveryF (KidOf v i) f → FormedF f → HousedF f → rest ≡ number 64 (under_f f) → f ≡ nil
        go nil k w h e = refl
        go (cons u f) k w h e =
            let l = looked i rest u f k w h e in
            absurd (over l.0 l.1.child (in_group i (low rest) l.1.child l.1.small l.1.kid l.1.has_it))

  module _ (i : ℕ) (h : i < v.count) where
    pub opened : Opened v i
    opened = go (children v i) refl
      where
        go : (l : List ℕ) → children v i ≡ l → Opened v i
        go [] e = alone (λ z. omega (arith, g.outer i h (ap length e))) e (subtree_leaf 64 v g i h e)
        go (c ∷ l) e = parted (g.inner i h (omega (arith, ap length e)))
            (subtree-eq 64 v g i h ∙ ap (λ (l : List ℕ). grow (v.species i) (forest_of (subtree v) l)) e ∙ ap (λ (l : List ℕ). node (forest_of (subtree v) l)) (sym e))

    -- all children are left
    pub left-start : (groups : List ℕ) → Groups v groups → (s rest : ℕ) → s ≡ v.species i → rest ≡ cond (eqb s none) (get_or groups i 0) 0
        → Left v i rest (housed v (children v i))
    left-start groups q s rest es er = by opened
      where
        start : rest ≡ cond (eqb (v.species i) none) (set_of (subtree v i)) 0
        start = er ∙ ap₂ (λ (a b : ℕ). cond (eqb a none) b 0) es (q.group i h)

        by : Opened v i → Left v i rest (housed v (children v i))
        by (alone n e t) = rw e (record { kids = tt; formed = tt; order = tt; species = start ∙ rw (ne_eqb (v.species i) none n) (sym (number_empty 64)) })
        by (parted n t) =
            let f = forest_of (subtree v) (children v i) in
            let w : Formed (node f) = subst Formed t (subtree_formed 64 v g i h) in
            record {
              kids = every_kid v i (children v i) (is_child v i);
              formed = (house_formed (node f) w).1;
              order = house_housed (node f) w;
              species = start ∙ rw (n, t) (ap (number 64) (sym (fun_ext (house_f-under f))));
            }
