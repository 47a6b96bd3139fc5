-- Which sets go, in the request's words: loosening drops the first group in house order that is not earned, again and again; and that leaves nothing open. Assumes nothing.
use mathlib.Core.Bool.{So}
use mathlib.Core.List.{List, Memᴰ, [], ◌++◌, ◌∷◌}
use mathlib.Core.Logic.Iff
use mathlib.Core.Logic.{◌↔◌, ◌⊎◌, inl, inr, ⊎_elim}
use mathlib.Core.Path.{◌∙◌, ◌≡◌, ap, ap₂, refl, subst, sym}
use Prim.Native.Nat.{◌≤◌, suc, zero, ℕ}
use native.Mathlib.Omega.{arith}
use Rattle.sets.proofs.Bools.{not_e, test}
use Rattle.sets.specs.Species.{Below, Species}
use Rattle.trees.proofs.Agreement.{R-proper}
use Rattle.trees.proofs.Dropping.{same_e, same_i}
use Rattle.trees.proofs.FirstUnearned.{first_listed}
use Rattle.trees.proofs.Formed.{Formed, formed_e, formed_i}
use Rattle.trees.proofs.Groups.{in_root}
use Rattle.trees.proofs.House.{house_formed, house-under}
use Rattle.trees.proofs.Loosened.{Dropped, dropped, loosen_rule, lower, unearned_drops}
use Rattle.trees.proofs.Lowest.{housed_i}
use Rattle.trees.proofs.Theorems.{known_in_house}
use Rattle.trees.proofs.Unearned.{listed, sibling_group, unearned-none}
use Rattle.trees.specs.Check.{R}
use Rattle.trees.specs.Loosen.{Loosened, NotEarned, drop, loosen_in, loosened, same_set, step, unearned}
use Rattle.trees.specs.Trees.{Group, Tree, groups, house, under, well_formed}
use Rattle.trees.specs.Triplets.{Proper, Triplets}
use Rattle.promises.specs.Loosening.{Drops, FirstUnearned, TreeWithout, done, next}

-- ---- the first of a list of which P is so

abbrev First : (Species → Type 0) → List Species → Type 0
First P k = (l : List Species) × (G : Species) × (m : List Species) × (k ≡ l ++ (G ∷ m)) × P G × ((H : Species) → Memᴰ H l → P H → ⊥)

first_of : (P : Species → Type 0) (k : List Species) → ((H : Species) → Memᴰ H k → P H ⊎ (P H → ⊥)) → First P k ⊎ ((H : Species) → Memᴰ H k → P H → ⊥)
first_of P [] d = inr (λ H m. absurd (mathlib.Core.List.Memᴰ.not-nil m))
first_of P (K ∷ k) d = ⊎_elim
    (λ p. inl ([], K, k, refl, p, λ H m. absurd (mathlib.Core.List.Memᴰ.not-nil m)))
    (λ n.
    let here : (H : Species) → H ≡ K → P H → ⊥ = λ H e p. n (subst P e p) in
    ⊎_elim
    (λ f. let (l, G, m, e, p, q) = f in inl (K ∷ l, G, m, ap (λ (z : List Species). K ∷ z) e, p, λ H h. ⊎_elim (here H) (q H) (mathlib.Core.List.Memᴰ.cases_cons h)))
    (λ q. inr (λ H h. ⊎_elim (here H) (q H) (mathlib.Core.List.Memᴰ.cases_cons h)))
    (first_of P k (λ H m. d H (mathlib.Core.List.Memᴰ.tail m))))
    (d K (mathlib.Core.List.Memᴰ.head refl))

-- there is one at most
first_one : (P : Species → Type 0) (l l' m m' : List Species) (G G' : Species) → l ++ (G ∷ m) ≡ l' ++ (G' ∷ m') → P G → P G'
    → ((H : Species) → Memᴰ H l → P H → ⊥) → ((H : Species) → Memᴰ H l' → P H → ⊥) → G ≡ G'
first_one P [] [] m m' G G' e p p' n n' = cc
first_one P [] (K ∷ l') m m' G G' e p p' n n' = let q : G ≡ K = cc in absurd (n' K (mathlib.Core.List.Memᴰ.head refl) (subst P q p))
first_one P (K ∷ l) [] m m' G G' e p p' n n' = let q : K ≡ G' = cc in absurd (n K (mathlib.Core.List.Memᴰ.head refl) (subst P (sym q) p'))
first_one P (K ∷ l) (K' ∷ l') m m' G G' e p p' n n' =
    let q : l ++ (G ∷ m) ≡ l' ++ (G' ∷ m') = cc in
    first_one P l l' m m' G G' q p p' (λ H h. n H (mathlib.Core.List.Memᴰ.tail h)) (λ H h. n' H (mathlib.Core.List.Memᴰ.tail h))

-- it is decided whether a set of species below N stands in a list of such sets
stands : (N : ℕ) (l : List Species) → ((G : Species) → Memᴰ G l → Below N G) → (H : Species) → Below N H → Memᴰ H l ⊎ (Memᴰ H l → ⊥)
stands N [] b H h = inr mathlib.Core.List.Memᴰ.not-nil
stands N (G ∷ l) b H h = test (same_set N H G) (λ s. inl (mathlib.Core.List.Memᴰ.head (same_e N H G h (b G (mathlib.Core.List.Memᴰ.head refl)) s)))
    (λ s. ⊎_elim (λ m. inl (mathlib.Core.List.Memᴰ.tail m)) (λ m. inr (λ q. ⊎_elim (λ e. not_e (same_set N H G) s (same_i N H G e)) m (mathlib.Core.List.Memᴰ.cases_cons q)))
    (stands N l (λ K k. b K (mathlib.Core.List.Memᴰ.tail k)) H h))

-- ---- loosening does so

module _ (E : Triplets) (pr : Proper E) (N : ℕ) where
  module _ (T : Tree) (w : Formed T) (bd : Below N (under T)) where
    named : (G : Species) → Memᴰ G (unearned (R E T) N T) ↔ NotEarned (R E T) T G
    named = listed (R E T) N (R-proper E pr T) T w bd

    in_groups : (G : Species) → Memᴰ G (unearned (R E T) N T) → Group T G
    in_groups G m = let (s, s', q, e, n) = (named G).0 m in subst (Group T) (sym e) (sibling_group T s s' q)

    group_below : (G : Species) → Group T G → Below N G
    group_below G g x h = bd x (in_root T G g x h)

    decided : (H : Species) → Group T H → NotEarned (R E T) T H ⊎ (NotEarned (R E T) T H → ⊥)
    decided H g = ⊎_elim (λ m. inl ((named H).0 m)) (λ m. inr (λ p. m ((named H).1 p)))
        (stands N (unearned (R E T) N T) (λ G m. group_below G (in_groups G m)) H (group_below H g))

    first_unearned : (G : Species) (k : List Species) → unearned (R E T) N T ≡ G ∷ k → FirstUnearned E T G
    first_unearned G k e = ⊎_elim
        (λ f.
        let (l, H, m, p, u, q) = f in
        let (r, e') = first_listed (R E T) N (R-proper E pr T) T w bd l m H p u q in
        let z : G ∷ k ≡ H ∷ r = sym e ∙ e' in
        let y : H ≡ G = cc in
        subst (FirstUnearned E T) y (record { before = l; behind = m; place = p; unearned = u; earlier = q }))
        (λ none. let i : Memᴰ G (unearned (R E T) N T) = rw e (mathlib.Core.List.Memᴰ.head refl) in absurd (none G (in_groups G i) ((named G).0 i)))
        (first_of (NotEarned (R E T) T) (groups T) decided)

    drops_step : (on : Species → Loosened) → ((G : Species) → Dropped T G (drop N G T) → Drops E (drop N G T) (on G).dropped (on G).final)
        → (l : List Species) → unearned (R E T) N T ≡ l → Drops E T (step l T on).dropped (step l T on).final
    drops_step on ih [] e = done ((unearned-none (R E T) N (R-proper E pr T) T w bd).0 e)
    drops_step on ih (G ∷ l) e =
        let g = unearned_drops E pr N T w bd G (rw e (mathlib.Core.List.Memᴰ.head refl)) in
        let d = dropped N T w bd G g.0 g.1 g.2 in
        next (first_unearned G l e) (record { formed = formed_i (drop N G T) d.formed; housed = housed_i (drop N G T) d.formed d.housed; groups = d.groups }) (ih G d)

    drops_rule : ((G : Species) → Dropped T G (drop N G T) → Drops E (drop N G T) (loosen_in E N N (drop N G T)).dropped (loosen_in E N N (drop N G T)).final)
        → Drops E T (loosen_in E N N T).dropped (loosen_in E N N T).final
    drops_rule ih = subst (λ (r : Loosened). Drops E T r.dropped r.final) (sym (loosen_rule E pr N T w bd)) (drops_step (λ G. loosen_in E N N (drop N G T)) ih (unearned (R E T) N T) refl)

  drops_in : (k : ℕ) (T : Tree) → Formed T → Below N (under T) → lower T ≤ k → Drops E T (loosen_in E N N T).dropped (loosen_in E N N T).final
  drops_in zero T w bd le = drops_rule T w bd (λ G d. absurd (omega (arith, d.fewer)))
  drops_in (suc k) T w bd le = drops_rule T w bd (λ G d. drops_in k (drop N G T) d.formed (λ x q. bd x (sym (d.species x) ∙ q)) (omega (arith, d.fewer)))

  pub loosened_drops : (T : Tree) → So (well_formed T) → Below N (under T) → Drops E (house T) (loosened E N T).dropped (loosened E N T).final
  unfolding loosened
  loosened_drops T f bd = drops_in (lower (house T)) (house T) (house_formed T (formed_e T f)) (λ x q. bd x (sym (house-under T x) ∙ q)) (omega arith)

-- ---- nothing is left open

pub drops_one : {E : Triplets} {T F F' : Tree} {l l' : List Species} → Drops E T l F → Drops E T l' F' → (l ≡ l') × (F ≡ F')
drops_one (done a) (done a') = (refl, refl)
drops_one (done a) (next f w d) = let (s, s', q, e, n) = f.unearned in absurd (n (a s s' q))
drops_one (next f w d) (done a) = let (s, s', q, e, n) = f.unearned in absurd (n (a s s' q))
drops_one {E} (next {T = T} {U = U} {G = G} f w d) (next {U = U'} {T' = F'} {G = G'} {l = l'} f' w' d') =
    let g : G' ≡ G = first_one (NotEarned (R E T) T) f'.before f.before f'.behind f.behind G' G (sym f'.place ∙ f.place) f'.unearned f.unearned f'.earlier f.earlier in
    let v : TreeWithout G T U' = subst (λ (K : Species). TreeWithout K T U') g w' in
    let u : U' ≡ U = known_in_house U' U v.formed w.formed v.housed w.housed (λ H. Iff.trans (v.groups H) (Iff.symm (w.groups H))) in
    let r = drops_one d (subst (λ (z : Tree). Drops E z l' F') u d') in
    (ap₂ (λ (K : Species) (z : List Species). K ∷ z) (sym g) r.0, r.1)
