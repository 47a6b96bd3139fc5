-- Groups and triplets: a tree splits ab|c by one of its groups; the root's group has all others; and trees with the same groups have the same
-- species and hold the same triplets. Assumes nothing.
use mathlib.Core.Bool.{Bool, So, ◌&&◌, false≢true, not}
use mathlib.Core.List.Memᴰ
use mathlib.Core.List.{List, Memᴰ, [], ◌∷◌}
use mathlib.Core.Logic.{⊎_elim}
use mathlib.Core.Path.{◌≡◌, ap₂, refl, subst}
use Prim.Native.Nat.{ℕ}
use lib.Dec.{eqb}
use Rattle.sets.proofs.Bools.{bool_ext, or_case, or_l, or_r}
use Rattle.sets.specs.Species.{Inside, Species}
use Rattle.trees.specs.Trees.{Forest, Group, SameGroups, Tree, cons, groups, groups_f, leaf, nil, node, under, under_f}
use Rattle.trees.specs.Triplets.{cut_by, cuts, holds}

cut_by_e : (l : List Species) (a b c : ℕ) → So (cut_by l a b c) → (G : Species) × Memᴰ G l × So (cuts G a b c)
cut_by_e [] a b c h = absurd (false≢true h)
cut_by_e (G ∷ l) a b c h = or_case (cuts G a b c) (cut_by l a b c) h
    (λ k. (G, Memᴰ.head refl, k)) (λ k. let r = cut_by_e l a b c k in (r.0, Memᴰ.tail r.1, r.2))

pub cut_by_i : (l : List Species) (G : Species) (a b c : ℕ) → Memᴰ G l → So (cuts G a b c) → So (cut_by l a b c)
cut_by_i [] G a b c m h = absurd (Memᴰ.not-nil m)
cut_by_i (K ∷ l) G a b c m h = ⊎_elim
    (λ e. or_l (cuts K a b c) _ (subst (λ (Z : Species). So (cuts Z a b c)) e h)) (λ k. or_r (cuts K a b c) _ (cut_by_i l G a b c k h)) (Memᴰ.cases_cons m)

pub root_group : (t : Tree) → Group t (under t)
root_group (leaf x) = Memᴰ.head refl
root_group (node f) = Memᴰ.head refl

mutual
  pub in_root : (t : Tree) (G : Species) → Group t G → Inside G (under t)
  in_root (leaf y) G g x h = subst (λ (Z : Species). So (Z x)) (Memᴰ.eq_of_singleton g) h
  in_root (node f) G g x h = ⊎_elim (λ e. subst (λ (Z : Species). So (Z x)) e h) (λ k. in_root_f f G k x h) (Memᴰ.cases_cons g)

  in_root_f : (f : Forest) (G : Species) → Memᴰ G (groups_f f) → Inside G (under_f f)
  in_root_f nil G g x h = absurd (Memᴰ.not-nil g)
  in_root_f (cons t f) G g x h = ⊎_elim (λ k. or_l (under t x) (under_f f x) (in_root t G k x h)) (λ k. or_r (under t x) (under_f f x) (in_root_f f G k x h))
      (Memᴰ.append_cases (groups t) g)

module _ (t t' : Tree) (same : SameGroups t t') where
  pub same_species : (x : ℕ) → under t x ≡ under t' x
  same_species x = bool_ext (under t x) (under t' x)
      (in_root t' (under t) ((same (under t)).0 (root_group t)) x)
      (in_root t (under t') ((same (under t')).1 (root_group t')) x)

  pub same_holds : (a b c : ℕ) → holds t a b c ≡ holds t' a b c
  same_holds a b c = ap₂ (λ (y z : Bool). not (eqb a b) && (y && z)) (same_species c) (bool_ext (cut_by (groups t) a b c) (cut_by (groups t') a b c)
      (λ h. let r = cut_by_e (groups t) a b c h in cut_by_i (groups t') r.0 a b c ((same r.0).0 r.1) r.2)
      (λ h. let r = cut_by_e (groups t') a b c h in cut_by_i (groups t) r.0 a b c ((same r.0).1 r.1) r.2))
