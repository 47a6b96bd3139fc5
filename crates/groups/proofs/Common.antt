-- The smallest common group of two species, on the tree: a group that has both and lies in every group that has both; and a triplet asked by it.
-- Assumes nothing.
use mathlib.Core.Path.{◌≡◌, refl, sym, ◌∙◌, subst, fun_ext}
use mathlib.Core.Logic.{◌≢◌, ◌⊎◌, inl, inr, ⊎_elim}
use mathlib.Core.Bool.{So, not, ◌&&◌, false≢true}
use mathlib.Core.List.Memᴰ
use mathlib.Core.List.{Memᴰ}
use Prim.Native.Nat.{ℕ}
use Rattle.sets.specs.Species.{Species, Inside}
use Rattle.sets.proofs.Bools.{and_i, and_l, and_r, or_case, or_r, not_i, not_e, test, bool_ext}
use Rattle.trees.specs.Trees.{Child, Tree, Forest, leaf, node, nil, cons, under, under_f, groups, groups_f, Group, well_formed}
use Rattle.trees.specs.Triplets.{holds, cut_by, cuts}
use Rattle.trees.proofs.Splits.{splits, splits_f, splits_groups, cuts_e, cuts_i, splits_in, root_splits, node_splits, holds_e, holds_i}
use Rattle.trees.proofs.Groups.{cut_by_i, root_group}
use Rattle.trees.proofs.Formed.{Formed, FormedF, formed_e}
use Rattle.trees.proofs.Kids.{Kid, kids, every_child}
use Rattle.groups.specs.Groups.{common}

-- x is in the common group of a and b
pub record InCommon (t : Tree) (a b x : ℕ) : Type 0 where
  pub left : So (under t a)
  pub right : So (under t b)
  pub own : So (under t x)
  pub uncut : So (splits t a b x) → ⊥

pub common_e : (t : Tree) (a b x : ℕ) → So (common t a b x) → InCommon t a b x
common_e t a b x h =
    let p = and_l (under t a && under t b) _ h in
    let q = and_r (under t a && under t b) _ h in
    record {
      left = and_l (under t a) _ p;
      right = and_r (under t a) _ p;
      own = and_l (under t x) _ q;
      uncut = λ s. not_e (cut_by (groups t) a b x) (and_r (under t x) _ q) (sym (splits_groups t a b x) ∙ s);
    }

pub common_i : (t : Tree) (a b x : ℕ) → InCommon t a b x → So (common t a b x)
common_i t a b x i = and_i (under t a && under t b) _ (and_i (under t a) _ i.left i.right)
    (and_i (under t x) _ i.own (not_i (cut_by (groups t) a b x) (λ s. i.uncut (splits_groups t a b x ∙ s))))

-- "A tree holds ab|c when some group has a and b but not c, and c is in the tree too": all three are in the tree, and the common group of a and b
-- lacks c
pub asked : (t : Tree) (a b c : ℕ) → a ≢ b → holds t a b c ≡ ((under t a && (under t b && under t c)) && not (common t a b c))
asked t a b c n = bool_ext (holds t a b c) _
    (λ h. let o = holds_e t a b c h in
    and_i (under t a && (under t b && under t c)) _ (and_i (under t a) _ o.in_a (and_i (under t b) _ o.in_b o.in_c))
    (not_i (common t a b c) (λ k. (common_e t a b c k).uncut o.splits)))
    (λ h.
    let p = and_l (under t a && (under t b && under t c)) _ h in
    let l = not_e (common t a b c) (and_r (under t a && (under t b && under t c)) _ h) in
    let pa = and_l (under t a) _ p in
    let pb = and_l (under t b) _ (and_r (under t a) _ p) in
    let pc = and_r (under t b) _ (and_r (under t a) _ p) in
    holds_i t a b c n pc (test (splits t a b c) (λ s. s)
    (λ s. absurd (l (common_i t a b c (record { left = pa; right = pb; own = pc; uncut = not_e (splits t a b c) s }))))))

-- it lies in every group that has both
pub common-least : (t : Tree) (a b : ℕ) (G : Species) → Group t G → So (G a) → So (G b) → Inside (common t a b) G
common-least t a b G g p q x h = test (G x) (λ y. y)
    (λ n. absurd ((common_e t a b x h).uncut (splits_groups t a b x ∙ cut_by_i (groups t) G a b x g (cuts_i a b x G p q n))))

-- ---- in a well-formed tree it is a group, and has both

-- of the children's groups
child_groups : (s : Tree) (G : Species) (f : Forest) → Child s f → Group s G → Memᴰ G (groups_f f)
child_groups s G nil c m = absurd c
child_groups s G (cons t f) (inl e) m = Memᴰ.append_left (groups_f f) (subst (λ (z : Tree). Group z G) e m)
child_groups s G (cons t f) (inr c) m = Memᴰ.append_right (groups t) (child_groups s G f c m)

module _ (a b : ℕ) where
  abbrev pub Own : Tree → Type 0
  Own t = Group t (common t a b) × So (common t a b a) × So (common t a b b)

  -- no smaller group has both
  whole : (t : Tree) → So (under t a) → So (under t b) → ((x : ℕ) → So (under t x) → So (splits t a b x) → ⊥) → Own t
  whole t p q n =
      let i : (x : ℕ) → So (under t x) → So (common t a b x) = λ x h. common_i t a b x (record { left = p; right = q; own = h; uncut = n x h }) in
      let e : under t ≡ common t a b = fun_ext (λ x. bool_ext (under t x) (common t a b x) (i x) (λ h. (common_e t a b x h).own)) in
      (subst (Group t) e (root_group t), i a p, i b q)

  record Smaller (f : Forest) : Type 0 where
    kid : Tree
    child : Child kid f
    left : So (under kid a)
    right : So (under kid b)
    own : Own kid

  -- a child that has both
  lower : (f : Forest) → FormedF f → (r : Smaller f) → Own (node f)
  lower f w r =
      let s = r.kid in
      let k = every_child (Kid f) s f (kids f w) r.child in
      let e : common s a b ≡ common (node f) a b = fun_ext (λ x. bool_ext (common s a b x) (common (node f) a b x)
      (λ h. let i = common_e s a b x h in common_i (node f) a b x (record {
        left = k.inside a r.left;
        right = k.inside b r.right;
        own = k.inside x i.own;
        uncut = λ z. i.uncut (k.down a b x r.left (node_splits f a b x (k.inside x i.own) z));
      }))
      (λ h. let i = common_e (node f) a b x h in common_i s a b x (record {
        left = r.left;
        right = r.right;
        own = test (under s x) (λ y. y) (λ n. absurd (i.uncut (or_r (cuts (under_f f) a b x) _ (k.up a b x (root_splits s a b x r.left r.right n)))));
        uncut = λ z. i.uncut (or_r (cuts (under_f f) a b x) _ (k.up a b x z));
      }))) in
      subst (λ (G : Species). Group (node f) G × So (G a) × So (G b)) e (Memᴰ.tail (child_groups s (common s a b) f r.child r.own.0), r.own.1, r.own.2)

  mutual
    own : (t : Tree) → Formed t → So (under t a) → So (under t b) → Own t
    own (leaf y) w p q = whole (leaf y) p q (λ x u h. not_e (under (leaf y) x) (cuts_e a b x (under (leaf y)) h).2 u)
    own (node f) w p q = ⊎_elim (lower f w.1) (λ n. whole (node f) p q (λ x u h. n x (node_splits f a b x u h))) (own_f f w.1)

    own_f : (f : Forest) → FormedF f → Smaller f ⊎ ((x : ℕ) → So (splits_f f a b x) → ⊥)
    own_f nil w = inr (λ x h. false≢true h)
    own_f (cons t f) w = test (under t a && under t b)
        (λ h.
        let p = and_l (under t a) _ h in
        let q = and_r (under t a) _ h in
        inl (record { kid = t; child = inl refl; left = p; right = q; own = own t w.0 p q }))
        (λ n. ⊎_elim
        (λ r. inl (record { kid = r.kid; child = inr r.child; left = r.left; right = r.right; own = r.own }))
        (λ m. inr (λ x h. or_case (splits t a b x) (splits_f f a b x) h
        (λ k. let i = splits_in t a b x k in not_e (under t a && under t b) n (and_i (under t a) _ i.0 i.1))
        (m x)))
        (own_f f w.2))

pub common_own : (t : Tree) (a b : ℕ) → So (well_formed t) → So (under t a) → So (under t b) → Own a b t
common_own t a b w = own a b t (formed_e t w)
