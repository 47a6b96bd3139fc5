-- Loosening ends with a tree all of whose groups are earned; it keeps PC, and takes away exactly the dropped groups. Assumes nothing.
use mathlib.Core.Bool.{So}
use mathlib.Core.List.Memᴰ
use mathlib.Core.List.{List, Memᴰ, [], ◌∷◌}
use mathlib.Core.Logic.{◌↔◌, ◌≢◌, ⊎_elim}
use mathlib.Core.Path.{◌∙◌, ◌≡◌, fun_ext, refl, subst, sym}
use Prim.Native.Nat.{◌+◌, ◌-◌, ◌<◌, ◌≤◌, suc, zero, ℕ}
use native.Mathlib.Omega.{arith}
use lib.ListN.{length, length-append}
use Rattle.sets.proofs.Bools.{and_i, and_l, and_r, not_i, or_case, or_l, or_r}
use Rattle.sets.proofs.Members.{members_bound}
use Rattle.sets.specs.Species.{Below, Species, Two}
use Rattle.trees.proofs.Agreement.{Agrees, R-proper, exclusive}
use Rattle.trees.proofs.DropGroups.{drop_less}
use Rattle.trees.proofs.Dropping.{drop_formed, drop-under, fewer_forest, house_f_inners, inners, inners_f}
use Rattle.trees.proofs.Formed.{Formed, FormedF}
use Rattle.trees.proofs.Groups.{cut_by_i, in_root}
use Rattle.trees.proofs.House.{house_formed, house-groups, house_housed, house-under}
use Rattle.trees.proofs.Lowest.{Housed}
use Rattle.trees.proofs.Siblings.{find, lie}
use Rattle.trees.proofs.Sizes.{size, size-under}
use Rattle.trees.proofs.Splits.{cuts_i, holds_e, holds_i, holds_swap, splits_groups}
use Rattle.trees.proofs.Unearned.{listed, not-joined-two, sibling_group, sibling_proper}
use Rattle.trees.specs.Check.{R}
use Rattle.trees.specs.Loosen.{Different, Loosened, drop, drop_among, drop_below, loosen_in, loosened, step, unearned}
use Rattle.trees.specs.Trees.{Forest, Group, Tree, cons, degree, groups, house, leaf, leaves, leaves_f, nil, node, under}
use Rattle.trees.specs.Triplets.{Proper, Triplets, cut_by, holds, resolves}

-- ---- a tree with fewer groups

module _ (T T' : Tree) (w' : Formed T') (sp : (x : ℕ) → under T' x ≡ under T x) (sub : (H : Species) → Group T' H → Group T H) where
  -- holds fewer triplets,
  pub fewer_holds : (a b c : ℕ) → So (holds T' a b c) → So (holds T a b c)
  fewer_holds a b c h =
      let o = holds_e T' a b c h in
      let (s, s', q, ha, hb, hc) = find T' a b c h in
      let cut : So (cut_by (groups T) a b c) = cut_by_i (groups T) (under s) a b c (sub (under s) (sibling_group T' s s' q))
      (cuts_i a b c (under s) ha hb (not_i (under s c) (λ k. (lie T' s s' w' q).apart c k hc))) in
      holds_i T a b c o.ab (sym (sp c) ∙ o.in_c) (splits_groups T a b c ∙ cut)

  -- resolves fewer triples,
  pub fewer_resolves : (a b c : ℕ) → So (resolves T' a b c) → So (resolves T a b c)
  fewer_resolves a b c h = or_case (holds T' a b c) _ h (λ k. or_l (holds T a b c) _ (fewer_holds a b c k))
      (λ k. or_r (holds T a b c) _ (or_case (holds T' a c b) (holds T' b c a) k (λ j. or_l (holds T a c b) _ (fewer_holds a c b j)) (λ j. or_r (holds T a c b) _ (fewer_holds b c a j))))

  -- so that R shrinks,
  pub fewer_R : (E : Triplets) (a b c : ℕ) → So (R E T' a b c) → So (R E T a b c)
  fewer_R E a b c h = and_i (E a b c) _ (and_l (E a b c) _ h) (fewer_resolves a b c (and_r (E a b c) _ h))

  -- and nothing differs anew
  pub fewer_agrees : (E : Triplets) → Proper E → Formed T → Agrees E T → Agrees E T'
  fewer_agrees E pr w ag a b c h = or_case (holds T' a b c) _ (and_r (E a b c) _ h) (λ k. k) (λ k. absurd (or_case (holds T' a c b) (holds T' b c a) k
      (λ j. exclusive T w a b c (ag a b c (fewer_R E a b c h)) (fewer_holds a c b j))
      (λ j. exclusive T w b a c (holds_swap T a b c (ag a b c (fewer_R E a b c h))) (fewer_holds b c a j))))

-- ---- how many groups there are to drop

-- inner nodes below the root
abbrev pub lower : Tree → ℕ
lower (leaf x) = 0
lower (node f) = inners_f f

mutual
  inners_leaves : (t : Tree) → Formed t → inners t + 1 ≤ length (leaves t)
  inners_leaves (leaf x) w = omega arith
  inners_leaves (node f) w = omega (arith, w.0, inners_leaves_f f w.1)

  inners_leaves_f : (f : Forest) → FormedF f → inners_f f + degree f ≤ length (leaves_f f)
  inners_leaves_f nil w = omega arith
  inners_leaves_f (cons t f) w = omega (arith, inners_leaves t w.0, inners_leaves_f f w.2, length-append (leaves t) (leaves_f f))

leaves_lower : (t : Tree) → Formed t → lower t ≤ length (leaves t) - 2
leaves_lower (leaf x) w = omega arith
leaves_lower (node f) w = omega (arith, w.0, inners_leaves_f f w.1)

pub size_lower : (N : ℕ) (t : Tree) → Formed t → Below N (under t) → lower t ≤ size N (under t) - 2
size_lower N t w bd = rw (size-under N t w bd) (leaves_lower t w)

-- ---- one group dropped

pub record Dropped (T : Tree) (G : Species) (T' : Tree) : Type 0 where
  pub formed : Formed T'
  pub housed : Housed T'
  pub species : (x : ℕ) → under T' x ≡ under T x
  pub groups : (H : Species) → Group T' H ↔ (Group T H × (H ≢ G))
  pub fewer : lower T' < lower T

module _ (N : ℕ) where
  lower_fewer : (G : Species) → Two G → (T : Tree) → Below N (under T) → Group T G → G ≢ under T → lower (drop N G T) < lower T
  lower_fewer G two (leaf x) bd m ne = ⊎_elim (λ e. absurd (ne e)) (λ k. absurd (Memᴰ.not-nil k)) (Memᴰ.cases_cons m)
  lower_fewer G two (node f) bd m ne = ⊎_elim (λ e. absurd (ne e)) (λ k. omega (arith, fewer_forest N G two f bd k, house_f_inners (drop_among N G f))) (Memᴰ.cases_cons m)

  pub dropped : (T : Tree) → Formed T → Below N (under T) → (G : Species) → Group T G → Two G → G ≢ under T → Dropped T G (drop N G T)
  dropped T w bd G m two ne =
      let D = drop_below N G T in
      let v = drop_formed N G T w in
      let less = drop_less N G (λ x h. bd x (in_root T G m x h)) two T w bd ne in
      record {
        formed = house_formed D v;
        housed = house_housed D v;
        species = λ x. house-under D x ∙ drop-under N G T x;
        groups = λ H. ((λ h. (less H).0 ((house-groups D H).0 h)), λ h. (house-groups D H).1 ((less H).1 h));
        fewer = lower_fewer G two T bd m ne;
      }

-- ---- the loop

module _ (E : Triplets) (pr : Proper E) (N : ℕ) where
  pub record Right (T : Tree) (r : Loosened) : Type 0 where
    pub formed : Formed r.final
    pub housed : Housed r.final
    pub species : (x : ℕ) → under r.final x ≡ under T x
    pub none : unearned (R E r.final) N r.final ≡ []
    pub groups : (H : Species) → Group r.final H ↔ (Group T H × (Memᴰ H r.dropped → ⊥))
    pub were : (H : Species) → Memᴰ H r.dropped → Group T H × Two H × (H ≢ under T)
    pub twice : Different r.dropped
    pub few : length r.dropped + lower r.final ≤ lower T

  -- what is not earned can be dropped
  pub unearned_drops : (T : Tree) → Formed T → Below N (under T) → (G : Species) → Memᴰ G (unearned (R E T) N T) → Group T G × Two G × (G ≢ under T)
  unearned_drops T w bd G m =
      let (s, s', q, e, n) = (listed (R E T) N (R-proper E pr T) T w bd G).0 m in
      subst (λ (P : Species). Group T P × Two P × (P ≢ under T)) (sym e)
      (sibling_group T s s' q, not-joined-two (R E T) _ s (lie T s s' w q).formed n, sibling_proper T s s' w q)

  right_done : (T : Tree) → Formed T → Housed T → unearned (R E T) N T ≡ [] → Right T (record { final = T; dropped = [] })
  right_done T w h e = record {
    formed = w;
    housed = h;
    species = λ x. refl;
    none = e;
    groups = λ H. ((λ m. (m, Memᴰ.not-nil)), λ m. m.0);
    were = λ H m. absurd (Memᴰ.not-nil m);
    twice = tt;
    few = omega arith;
  }

  right_more : (T : Tree) (G : Species) → Group T G × Two G × (G ≢ under T) → Dropped T G (drop N G T) → (r : Loosened) → Right (drop N G T) r
      → Right T (record { final = r.final; dropped = G ∷ r.dropped })
  right_more T G g d r k = record {
    formed = k.formed;
    housed = k.housed;
    species = λ x. k.species x ∙ d.species x;
    none = k.none;
    groups = λ H. (
      (λ m. let p = (k.groups H).0 m in let q = (d.groups H).0 p.0 in (q.0, λ i. ⊎_elim (λ e. q.1 e) (λ j. p.1 j) (Memᴰ.cases_cons i))),
      λ m. (k.groups H).1 ((d.groups H).1 (m.0, λ e. m.1 (Memᴰ.head e)), λ i. m.1 (Memᴰ.tail i)),
    );
    were = λ H m. ⊎_elim
        (λ e. subst (λ (P : Species). Group T P × Two P × (P ≢ under T)) (sym e) g)
        (λ i. let p = k.were H i in (((d.groups H).0 p.0).0, p.1, λ e. p.2 (e ∙ sym (fun_ext d.species))))
        (Memᴰ.cases_cons m);
    twice = ((λ m. ((d.groups G).0 (k.were G m).0).1 refl), k.twice);
    few = omega (arith, k.few, d.fewer);
  }

  right-step : (T : Tree) → Formed T → Housed T → Below N (under T) → (on : Species → Loosened)
      → ((G : Species) → Dropped T G (drop N G T) → Right (drop N G T) (on G))
      → (l : List Species) → unearned (R E T) N T ≡ l → Right T (step l T on)
  right-step T w h bd on ih [] e = right_done T w h e
  right-step T w h bd on ih (G ∷ l) e =
      let g = unearned_drops T w bd G (rw e (Memᴰ.head refl)) in
      let d = dropped N T w bd G g.0 g.1 g.2 in
      right_more T G g d (on G) (ih G d)

  lone-none : (T : Tree) → Formed T → lower T ≤ 0 → Below N (under T) → (l : List Species) → unearned (R E T) N T ≡ l → unearned (R E T) N T ≡ []
  lone-none T w le bd [] e = e
  lone-none T w le bd (G ∷ l) e = let g = unearned_drops T w bd G (rw e (Memᴰ.head refl)) in absurd (omega (arith, (dropped N T w bd G g.0 g.1 g.2).fewer))

  right_in : (k : ℕ) (T : Tree) → Formed T → Housed T → Below N (under T) → lower T ≤ k → Right T (loosen_in E N k T)
  unfolding loosen_in
  right_in zero T w h bd le = right_done T w h (lone-none T w le bd (unearned (R E T) N T) refl)
  right_in (suc k) T w h bd le = right-step T w h bd (λ G. loosen_in E N k (drop N G T))
      (λ G d. right_in k (drop N G T) d.formed d.housed (λ x q. bd x (sym (d.species x) ∙ q)) (omega (arith, d.fewer))) (unearned (R E T) N T) refl

  pub right : (T : Tree) → Formed T → Below N (under T) → Right (house T) (loosened E N T)
  unfolding loosened
  right T w bd =
      let v = house_formed T w in
      let hbd : Below N (under (house T)) = λ x q. bd x (sym (house-under T x) ∙ q) in
      right_in N (house T) v (house_housed T w) hbd (omega (arith, size_lower N (house T) v hbd, members_bound N (under (house T))))

  -- nothing to drop
  nothing_in : (k : ℕ) (T : Tree) → unearned (R E T) N T ≡ [] → loosen_in E N k T ≡ record { final = T; dropped = [] }
  unfolding loosen_in
  nothing_in zero T e = refl
  nothing_in (suc k) T e = rw e refl

  pub nothing : (T : Tree) → unearned (R E (house T)) N (house T) ≡ [] → loosened E N T ≡ record { final = house T; dropped = [] }
  unfolding loosened
  nothing T e = nothing_in N (house T) e

  -- ---- any number of drops from the number of inner nodes below the root on gives the same

  pub step_same : (l : List Species) (T : Tree) (on on' : Species → Loosened) → ((G : Species) → Memᴰ G l → on G ≡ on' G) → step l T on ≡ step l T on'
  step_same [] T on on' h = refl
  step_same (G ∷ l) T on on' h = rw (h G (Memᴰ.head refl)) refl

  pub loose_levels : (k k' : ℕ) (T : Tree) → Formed T → Below N (under T) → lower T ≤ k → lower T ≤ k' → loosen_in E N k T ≡ loosen_in E N k' T
  unfolding loosen_in
  loose_levels zero zero T w bd le le' = refl
  loose_levels zero (suc k') T w bd le le' = let e = lone-none T w le bd (unearned (R E T) N T) refl in rw e refl
  loose_levels (suc k) zero T w bd le le' = let e = lone-none T w le' bd (unearned (R E T) N T) refl in rw e refl
  loose_levels (suc k) (suc k') T w bd le le' = step_same (unearned (R E T) N T) T (λ G. loosen_in E N k (drop N G T)) (λ G. loosen_in E N k' (drop N G T)) (λ G m.
      let g = unearned_drops T w bd G m in
      let d = dropped N T w bd G g.0 g.1 g.2 in
      loose_levels k k' (drop N G T) d.formed (λ x q. bd x (sym (d.species x) ∙ q)) (omega (arith, d.fewer)) (omega (arith, d.fewer)))

  -- the rule without a number of drops, as code follows it: on a tree in house order
  pub loosen_rule : (T : Tree) → Formed T → Below N (under T) → loosen_in E N N T ≡ step (unearned (R E T) N T) T (λ G. loosen_in E N N (drop N G T))
  unfolding loosen_in
  loosen_rule T w bd =
      let l = size_lower N T w bd in
      let m = members_bound N (under T) in
      loose_levels N (suc N) T w bd (omega arith) (omega arith)
