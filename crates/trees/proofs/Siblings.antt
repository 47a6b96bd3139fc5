-- Sibling groups: every triplet of a tree comes from two of them, and what bars another triplet on the same species lies in those two. Assumes
-- nothing.
use mathlib.Core.Bool.{So, false≢true}
use mathlib.Core.Logic.{◌≢◌, inl, inr}
use mathlib.Core.Path.{refl, sym}
use Prim.Native.Nat.{ℕ}
use Rattle.sets.proofs.Bools.{not_e, not_i, or_case, or_l, or_r, test}
use Rattle.sets.specs.Species.{Inside, Species, either}
use Rattle.trees.proofs.Chain.{Spans}
use Rattle.trees.proofs.Formed.{Formed, FormedF}
use Rattle.trees.proofs.Kids.{Kid, child_of, child_uniq, every_child, kids}
use Rattle.trees.proofs.Splits.{cuts_e, holds_e, holds_i, node_splits, root_splits, splits, splits_in, splits_f}
use Rattle.trees.specs.Trees.{Child, Forest, Siblings, Tree, cons, deep, leaf, nil, node, top, under, under_f}
use Rattle.trees.specs.Triplets.{Triplets, cuts, holds}

pub siblings_swap : (T s s' : Tree) → Siblings T s s' → Siblings T s' s
siblings_swap T s s' (top p q ne) = top q p (λ e. ne (sym e))
siblings_swap T s s' (deep {k = k} p q) = deep p (siblings_swap k s s' q)

abbrev Found : Tree → ℕ → ℕ → ℕ → Type 0
Found T a b c = (s : Tree) × (s' : Tree) × Siblings T s s' × So (under s a) × So (under s b) × So (under s' c)

-- a triplet of T comes from two siblings
module _ (a b c : ℕ) where
  mutual
    find_tree : (t : Tree) → So (under t c) → So (splits t a b c) → Found t a b c
    find_tree (leaf x) hc h = absurd (not_e (under (leaf x) c) (cuts_e a b c (under (leaf x)) h).2 hc)
    find_tree (node f) hc h = let r = find_forest f (node_splits f a b c hc h) in
        let i = splits_in r.0 a b c r.2 in
        test (under r.0 c)
        (λ q. let z = r.3 q in (z.0, z.1, deep r.1 z.2, z.3, z.4, z.5))
        (λ q. let o = child_of f c hc in (r.0, o.0, top r.1 o.1 (λ e. not_e (under r.0 c) q (rw e o.2)), i.0, i.1, o.2))

    find_forest : (f : Forest) → So (splits_f f a b c) → (s : Tree) × Child s f × So (splits s a b c) × (So (under s c) → Found s a b c)
    find_forest nil h = absurd (false≢true h)
    find_forest (cons t f) h = or_case (splits t a b c) (splits_f f a b c) h
        (λ k. (t, inl refl, k, λ q. find_tree t q k))
        (λ k. let r = find_forest f k in (r.0, inr r.1, r.2, r.3))

pub find : (T : Tree) (a b c : ℕ) → So (holds T a b c) → (s : Tree) × (s' : Tree) × Siblings T s s' × So (under s a) × So (under s b) × So (under s' c)
find T a b c h = let o = holds_e T a b c h in find_tree a b c T o.in_c o.splits

-- how two siblings lie in T
pub record Lie (T s s' : Tree) : Type 0 where
  pub in_s : Inside (under s) (under T)
  pub in_s' : Inside (under s') (under T)
  pub formed : Formed s
  pub formed' : Formed s'
  pub apart : (x : ℕ) → So (under s x) → So (under s' x) → ⊥
  pub up : (a b c : ℕ) → So (under s a) → So (under s b) → So (under s' c) → So (splits T a b c)

pub lie : (T s s' : Tree) → Formed T → Siblings T s s' → Lie T s s'
lie T s s' w (top {f = f} p q ne) =
    let ks = every_child (Kid f) s f (kids f w.1) p in
    let ks' = every_child (Kid f) s' f (kids f w.1) q in
    let ne' : (x : ℕ) → So (under s x) → So (under s' x) → ⊥ = λ x h k. ne (child_uniq f w.1 s s' x p q h k) in
    record {
      in_s = ks.inside;
      in_s' = ks'.inside;
      formed = ks.formed;
      formed' = ks'.formed;
      apart = ne';
      up = λ a b c ha hb hc. or_r (cuts (under_f f) a b c) _ (ks.up a b c (root_splits s a b c ha hb (not_i (under s c) (λ h. ne' c h hc))));
    }
lie T s s' w (deep {f = f} {k = k} p q) =
    let kk = every_child (Kid f) k f (kids f w.1) p in
    let l = lie k s s' kk.formed q in
    record {
      in_s = λ x h. kk.inside x (l.in_s x h);
      in_s' = λ x h. kk.inside x (l.in_s' x h);
      formed = l.formed;
      formed' = l.formed';
      apart = l.apart;
      up = λ a b c ha hb hc. or_r (cuts (under_f f) a b c) _ (kk.up a b c (l.up a b c ha hb hc));
    }

-- so two siblings make triplets
pub made : (T s s' : Tree) → Formed T → Siblings T s s' → (a b c : ℕ) → So (under s a) → So (under s b) → So (under s' c) → a ≢ b → So (holds T a b c)
made T s s' w q a b c ha hb hc ne = let l = lie T s s' w q in holds_i T a b c ne (l.in_s' c hc) (l.up a b c ha hb hc)

module _ (E : Triplets) where
  abbrev pub Kept : Tree → Type 0
  Kept T = (a b c : ℕ) → So (under T a) → So (under T b) → So (under T c) → So (E a b c) → So (splits T a b c)

  -- inside one child of f a link stays
  pub stays : (f : Forest) (w : FormedF f) → Kept (node f) → (k : Tree) → Child k f → (a b c : ℕ) → So (under k a) → So (under_f f a) → So (under_f f b) → So (under_f f c) → So (E a b c) → So (splits k a b c)
  stays f w kt k p a b c h ha hb hc e = (every_child (Kid f) k f (kids f w) p).down a b c h (node_splits f a b c hc (kt a b c ha hb hc e))

  -- what forces ab|c lies in the two siblings that make it
  pub between : (T s s' : Tree) → Formed T → Kept T → Siblings T s s' → (a c : ℕ) → So (under s a) → So (under s' c) → (U : Species) → Inside U (under T) → Spans E U a c → Inside U (either (under s) (under s'))
  between T s s' w kt (top {f = f} p q ne) a c ha hc U sub g = g (either (under s) (under s'))
      (λ x y z h hx hy hz e. or_case (under s x) (under s' x) h
      (λ i. or_l (under s y) _ (splits_in s x y z (stays f w.1 kt s p x y z i (sub x hx) (sub y hy) (sub z hz) e)).1)
      (λ i. or_r (under s y) _ (splits_in s' x y z (stays f w.1 kt s' q x y z i (sub x hx) (sub y hy) (sub z hz) e)).1))
      (or_l (under s a) _ ha) (or_r (under s c) _ hc)
  between T s s' w kt (deep {f = f} {k = k} p q) a c ha hc U sub g =
      let kk = every_child (Kid f) k f (kids f w.1) p in
      let l = lie k s s' kk.formed q in
      between k s s' kk.formed (λ x y z hx hy hz e. stays f w.1 kt k p x y z hx (kk.inside x hx) (kk.inside y hy) (kk.inside z hz) e) q a c ha hc U
      (g (under k) (λ x y z h hx hy hz e. (splits_in k x y z (stays f w.1 kt k p x y z h (sub x hx) (sub y hy) (sub z hz) e)).1) (l.in_s a ha) (l.in_s' c hc)) g
