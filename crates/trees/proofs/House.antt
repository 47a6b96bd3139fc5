-- A tree put in house order: the same species and groups, well formed if it was, and in house order. Assumes nothing.
use mathlib.Core.Bool.{Bool, So, ◌||◌, false, false≢true, or-true, true}
use mathlib.Core.List.Memᴰ
use mathlib.Core.List.{List, Memᴰ, [], ◌++◌, ◌∷◌}
use mathlib.Core.Logic.Iff
use mathlib.Core.Logic.{◌↔◌, ⊎_elim}
use mathlib.Core.Path.{◌∙◌, ◌≡◌, ap, ap₂, fun_ext, refl, subst, sym}
use Prim.Native.Nat.{◌<◌, ◌≤◌, suc, ℕ}
use native.Mathlib.Decide.{dec_lt}
use native.Mathlib.Omega.{arith}
use borrow.Author.Tests.{le-ltb, lt-ltb}
use Rattle.sets.proofs.Bools.{or_case, or_l, or_r}
use Rattle.sets.specs.Species.{Species}
use Rattle.trees.proofs.Formed.{Formed, FormedF}
use Rattle.trees.proofs.Lowest.{Housed, HousedF, lowest_in, lowest-le}
use Rattle.trees.specs.Trees.{Forest, SameGroups, Tree, cons, degree, groups, groups_f, hang, house, house_f, leaf, lowest, nil, node, under, under_f}

-- one step of hanging a child among the others
pub by_low {ℓ} : (t u : Tree) (f : Forest) (P : Forest → Type ℓ) → (lowest t < lowest u → P (cons t (cons u f))) → (lowest u ≤ lowest t → P (cons u (hang t f)))
    → P (hang t (cons u f))
by_low t u f P p q = go (dec_lt (lowest t) (lowest u))
  where
    go : Dec (lowest t < lowest u) → P (hang t (cons u f))
    go (yes l) = rw (lt-ltb _ _ l) (p l)
    go (no n) = rw (le-ltb (lowest t) (lowest u) (omega arith)) (q (omega arith))

turn : (a b c : Bool) → (a || (b || c)) ≡ (b || (a || c))
turn true b c = sym (or-true b)
turn false b c = refl

hang-under : (t : Tree) (f : Forest) (x : ℕ) → under_f (hang t f) x ≡ (under t x || under_f f x)
hang-under t nil x = refl
hang-under t (cons u f) x = by_low t u f (λ z. under_f z x ≡ (under t x || (under u x || under_f f x)))
    (λ l. refl)
    (λ l. ap (λ (b : Bool). under u x || b) (hang-under t f x) ∙ turn (under u x) (under t x) (under_f f x))

hang-degree : (t : Tree) (f : Forest) → degree (hang t f) ≡ suc (degree f)
hang-degree t nil = refl
hang-degree t (cons u f) = by_low t u f (λ z. degree z ≡ suc (suc (degree f))) (λ l. refl) (λ l. ap suc (hang-degree t f))

mutual
  pub house-under : (t : Tree) (x : ℕ) → under (house t) x ≡ under t x
  house-under (leaf y) x = refl
  house-under (node f) x = house_f-under f x

  pub house_f-under : (f : Forest) (x : ℕ) → under_f (house_f f) x ≡ under_f f x
  house_f-under nil x = refl
  house_f-under (cons t f) x = hang-under (house t) (house_f f) x ∙ ap₂ (λ (a b : Bool). a || b) (house-under t x) (house_f-under f x)

house_f-degree : (f : Forest) → degree (house_f f) ≡ degree f
house_f-degree nil = refl
house_f-degree (cons t f) = hang-degree (house t) (house_f f) ∙ ap suc (house_f-degree f)

-- ---- well formed, and in house order

hang_formed : (t : Tree) (f : Forest) → Formed t → ((x : ℕ) → So (under t x) → So (under_f f x) → ⊥) → FormedF f → FormedF (hang t f)
hang_formed t nil w d g = (w, (λ x p q. false≢true q), tt)
hang_formed t (cons u f) w d g = by_low t u f FormedF
    (λ l. (w, d, g))
    (λ l. (
      g.0,
      (λ x p q. or_case (under t x) (under_f f x) (rw (hang-under t f x) at q) (λ r. d x r (or_l (under u x) (under_f f x) p)) (λ r. g.1 x p r)),
      hang_formed t f w (λ x p q. d x p (or_r (under u x) (under_f f x) q)) g.2,
    ))

house-apart : (t : Tree) (f : Forest) → ((x : ℕ) → So (under t x) → So (under_f f x) → ⊥) → (x : ℕ) → So (under (house t) x) → So (under_f (house_f f) x) → ⊥
house-apart t f d x p q = d x (rw (house-under t x) at p) (rw (house_f-under f x) at q)

mutual
  pub house_formed : (t : Tree) → Formed t → Formed (house t)
  house_formed (leaf x) w = tt
  house_formed (node f) w = (omega (arith, house_f-degree f, w.0), house_f_formed f w.1)

  house_f_formed : (f : Forest) → FormedF f → FormedF (house_f f)
  house_f_formed nil w = tt
  house_f_formed (cons t f) w = hang_formed (house t) (house_f f) (house_formed t w.0) (house-apart t f w.1) (house_f_formed f w.2)

hang_housed : (t : Tree) (f : Forest) → Formed t → FormedF f → Housed t → ((x : ℕ) → So (under t x) → So (under_f f x) → ⊥) → HousedF f → HousedF (hang t f)
hang_housed t nil w v h d g = (h, (λ y q. absurd (false≢true q)), tt)
hang_housed t (cons u f) w v h d g = by_low t u f HousedF
    (λ k. (
      h,
      (λ y q. (
        lowest t,
        lowest_in t w,
        or_case (under u y) (under_f f y) q (λ r. omega (arith, lowest-le u y r)) (λ r. let e = g.1 y r in omega (arith, lowest-le u e.0 e.1, e.2)),
      )),
      g,
    ))
    (λ k.
    let ne : lowest u ≡ lowest t → ⊥ = λ e. d (lowest t) (lowest_in t w) (or_l (under u (lowest t)) _ (subst (λ (z : ℕ). So (under u z)) e (lowest_in u v.0))) in (
      g.0,
      (λ y q. or_case (under t y) (under_f f y) (rw (hang-under t f y) at q) (λ r. (lowest u, lowest_in u v.0, omega (arith, lowest-le t y r, ne))) (λ r. g.1 y r)),
      hang_housed t f w v.2 h (λ x p q. d x p (or_r (under u x) (under_f f x) q)) g.2,
    ))

mutual
  pub house_housed : (t : Tree) → Formed t → Housed (house t)
  house_housed (leaf x) w = tt
  house_housed (node f) w = house_f_housed f w.1

  house_f_housed : (f : Forest) → FormedF f → HousedF (house_f f)
  house_f_housed nil w = tt
  house_f_housed (cons t f) w = hang_housed (house t) (house_f f) (house_formed t w.0) (house_f_formed f w.2) (house_housed t w.0)
      (house-apart t f w.1) (house_f_housed f w.2)

-- ---- the same groups

abbrev Same : List Species → List Species → Type 0
Same l m = (G : Species) → Memᴰ G l ↔ Memᴰ G m

same_append : (l l' m m' : List Species) → Same l l' → Same m m' → Same (l ++ m) (l' ++ m')
same_append l l' m m' p q G = (
  (λ h. ⊎_elim (λ k. Memᴰ.append_left m' ((p G).0 k)) (λ k. Memᴰ.append_right l' ((q G).0 k)) (Memᴰ.append_cases l h)),
  λ h. ⊎_elim (λ k. Memᴰ.append_left m ((p G).1 k)) (λ k. Memᴰ.append_right l ((q G).1 k)) (Memᴰ.append_cases l' h),
)

same_turn : (l m r : List Species) → Same (l ++ (m ++ r)) (m ++ (l ++ r))
same_turn l m r G = (to l m, to m l)
  where
    to : (l m : List Species) → Memᴰ G (l ++ (m ++ r)) → Memᴰ G (m ++ (l ++ r))
    to l m h = ⊎_elim (λ k. Memᴰ.append_right m (Memᴰ.append_left r k))
        (λ k. ⊎_elim (λ j. Memᴰ.append_left (l ++ r) j) (λ j. Memᴰ.append_right m (Memᴰ.append_right l j)) (Memᴰ.append_cases m k)) (Memᴰ.append_cases l h)

hang-groups : (t : Tree) (f : Forest) → Same (groups_f (hang t f)) (groups t ++ groups_f f)
hang-groups t nil = λ G. Iff.rfl
hang-groups t (cons u f) = by_low t u f (λ z. Same (groups_f z) (groups t ++ (groups u ++ groups_f f)))
    (λ l G. Iff.rfl)
    (λ l G. Iff.trans (same_append (groups u) (groups u) (groups_f (hang t f)) (groups t ++ groups_f f) (λ K. Iff.rfl) (hang-groups t f) G)
    (same_turn (groups u) (groups t) (groups_f f) G))

mutual
  pub house-groups : (t : Tree) → SameGroups (house t) t
  house-groups (leaf x) G = Iff.rfl
  house-groups (node f) G =
      let e : under_f (house_f f) ≡ under_f f = fun_ext (house_f-under f) in
      same_append (under_f (house_f f) ∷ []) (under_f f ∷ []) (groups_f (house_f f)) (groups_f f) (λ K. rw e Iff.rfl) (λ K. house_f-groups f K) G

  house_f-groups : (f : Forest) → Same (groups_f (house_f f)) (groups_f f)
  house_f-groups nil G = Iff.rfl
  house_f-groups (cons t f) G = Iff.trans (hang-groups (house t) (house_f f) G)
      (same_append (groups (house t)) (groups t) (groups_f (house_f f)) (groups_f f) (λ K. house-groups t K) (λ K. house_f-groups f K) G)
