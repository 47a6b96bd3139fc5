-- A tree that either build gives has exactly the species, is well formed, is in house order, and contradicts no triplet inside them; that of the plain
-- build holds every one. Assumes nothing.
use mathlib.Core.Bool.{Bool, So, false, false≢true, not, true}
use mathlib.Core.List.{List, [], ◌∷◌, map}
use mathlib.Core.Logic.{⊎_elim}
use mathlib.Core.Path.{◌∙◌, ◌≡◌, refl, subst, sym}
use Prim.Native.Nat.{◌<◌, ◌≤◌, suc, zero, ℕ}
use native.Mathlib.Omega.{arith}
use borrow.Author.Tests.{eq-eqb, eqb-true}
use lib.Dec.{eqb}
use lib.ListN.{get_or, length}
use Rattle.sets.proofs.Bools.{bool_ext, by_order, or_case, or_l, or_r, test}
use Rattle.sets.proofs.Members.{Apart, Every, any_of, from_e, members_bound, members_head, members_one}
use Rattle.sets.specs.Species.{Below, Species, from, members, put}
use Rattle.trees.proofs.Formed.{Formed, FormedF}
use Rattle.trees.proofs.Lowest.{Housed, HousedF}
use Rattle.trees.proofs.Outcomes.{any_of_length, choose_tree, lone-length, next_tree, not-lone, only_one, tree_same}
use Rattle.trees.proofs.Parts.{leads_in, leads-lowest, part_closed, part_in, part_refl, part_sym, parts-apart, parts_cover, parts_every, parts_in}
use Rattle.trees.proofs.Splits.{node_splits, root_splits, splits, splits_in, splits_f}
use Rattle.trees.proofs.Star.{leaves-degree, leaves_each, leaves_split, star_formed, star_housed, star-species}
use Rattle.trees.proofs.Stopping.{fewer}
use Rattle.trees.specs.Build.{Outcome, build_by, build_in, ending, gather, leaf_each, tree, trees}
use Rattle.trees.specs.Links.{Closed, joined, leads, lone, part, parts}
use Rattle.trees.specs.Trees.{Forest, Tree, cons, degree, leaf, nil, node, under, under_f}
use Rattle.trees.specs.Triplets.{Proper, Triplets, cuts}

-- what is so of a tree t of the species S that the build v gives
pub record Built (v : Bool) (E : Triplets) (S : Species) (t : Tree) : Type 0 where
  pub species : (x : ℕ) → under t x ≡ S x
  pub formed : Formed t
  pub housed : Housed t
  pub keeps : So (not v) → (a b c : ℕ) → So (S a) → So (S b) → So (S c) → So (E a b c) → So (splits t a b c)
  pub against : (a b c : ℕ) → So (S a) → So (S b) → So (S c) → So (E a b c) → So (splits t a c b) → ⊥

-- each part has a species below all those of the later parts
abbrev Sorted : List Species → Type 0
Sorted [] = Unit {0}
Sorted (p ∷ ps) = ((y : ℕ) → So (any_of ps y) → (x : ℕ) × So (p x) × (x < y)) × Sorted ps

-- the same for the trees of the parts ps of S
record BuiltF (v : Bool) (E : Triplets) (S : Species) (ps : List Species) (f : Forest) : Type 0 where
  species : (x : ℕ) → under_f f x ≡ any_of ps x
  count : degree f ≡ length ps
  formed : Apart ps → FormedF f
  housed : Sorted ps → HousedF f
  keeps : So (not v) → (a b c : ℕ) → So (S a) → So (S b) → So (S c) → So (E a b c) → So (any_of ps a) → So (splits_f f a b c)
  against : (a b c : ℕ) → So (S a) → So (S b) → So (S c) → So (E a b c) → So (splits_f f a c b) → ⊥

built_cons : (v : Bool) (E : Triplets) (S p : Species) (ps : List Species) (t : Tree) (f : Forest) → Closed E S p → Built v E p t → BuiltF v E S ps f
    → BuiltF v E S (p ∷ ps) (cons t f)
built_cons v E S p ps t f cl G H = record {
  species = λ x. rw (G.species, H.species) refl;
  count = omega (arith, H.count);
  formed = λ d. (G.formed, (λ x h k. d.0 x (rw G.species at h) (rw H.species at k)), H.formed d.1);
  housed = λ s. (G.housed, (λ y k. let w = s.0 y (rw (H.species y) at k) in (w.0, rw (G.species w.0) w.1, w.2)), H.housed s.1);
  keeps = λ nv a b c ha hb hc e h. or_case (p a) (any_of ps a) h
      (λ pa. or_l (splits t a b c) _ (let pb = cl a b c pa ha hb hc e in test (p c)
      (λ pc. G.keeps nv a b c pa pb pc e)
      (λ pc. root_splits t a b c (rw G.species pa) (rw G.species pb) (rw G.species pc))))
      (λ k. or_r (splits t a b c) _ (H.keeps nv a b c ha hb hc e k));
  against = λ a b c ha hb hc e h. or_case (splits t a c b) (splits_f f a c b) h
      (λ k. let (ta, tc) = splits_in t a c b k in
      let pa : So (p a) = sym (G.species a) ∙ ta in
      G.against a b c pa (cl a b c pa ha hb hc e) (sym (G.species c) ∙ tc) e k)
      (H.against a b c ha hb hc e);
}

built_gather : (v : Bool) (E : Triplets) (g : Species → Outcome) (S : Species) (ps : List Species) → Every (λ p. (t : Tree) → g p ≡ tree t → Built v E p t) ps → Every (Closed E S) ps
    → (f : Forest) → gather g ps ≡ trees f → BuiltF v E S ps f
built_gather v E g S [] gs cs f e = let q : f ≡ nil = cc in rw q (record {
  species = λ x. refl;
  count = refl;
  formed = λ d. tt;
  housed = λ s. tt;
  keeps = λ nv a b c ha hb hc h k. absurd (false≢true k);
  against = λ a b c ha hb hc e h. false≢true h;
})
built_gather v E g S (p ∷ ps) gs cs f e =
    let r = next_tree (g p) (gather g ps) f e in
    rw r.4 (built_cons v E S p ps r.0 r.1 cs.0 (gs.0 r.0 r.2) (built_gather v E g S ps gs.1 cs.1 r.1 r.3))

sorted_from : (g : ℕ → Species) (P : Species) → ((i : ℕ) → So (g i i)) → ((i j y : ℕ) → i < j → So (P j) → So (g j y) → i < y) → (n i : ℕ) → Sorted (map g (from i n P))
sorted_from g P r d zero i = tt
sorted_from g P r d (suc n) i = go (P i) (sorted_from g P r d n (suc i))
  where
    go : (b : Bool) → Sorted (map g (from (suc i) n P)) → Sorted (map g (put b i (from (suc i) n P)))
    go true ih = ((λ y h. let w = from_e g P y n (suc i) h in (i, r i, d i w.0 y (omega (arith, w.1)) w.3 w.4)), ih)
    go false ih = ih

module _ (E : Triplets) (N : ℕ) (pr : Proper E) where
  parts_sorted : (S : Species) → Below N S → Sorted (parts E N S)
  unfolding parts members
  parts_sorted S bd = sorted_from (part E N S) (leads E N S) (part_refl E N S bd pr) (λ i j y lt p q. by_order i y (λ l. l)
      (λ l. absurd (first i j y lt p q (omega arith))) (λ l. absurd (first i j y lt p q (omega arith)))) N 0
    where
      first : (i j y : ℕ) → i < j → So (leads E N S j) → So (part E N S j y) → y ≤ i → ⊥
      first i j y lt p q le = leads-lowest E N S bd pr y j p (omega arith) (part_in E N S bd pr j y (leads_in E N S bd pr j p) q) (part_sym E N S bd pr j y q)

-- a joined set: the plain build gives no tree, the veto build its species as leaves
all_joined : (v : Bool) (E : Triplets) (N : ℕ) → Proper E → (S : Species) → Below N S → (u : ℕ) → So (S u) → So (not (lone (members N S)))
    → (t : Tree) → ending v N S ≡ tree t → Built v E S t
all_joined false E N pr S bd u hu nl t e = let z : ◌≡◌ {A = ℕ} 0 1 = cc in absurd (omega arith)
all_joined true E N pr S bd u hu nl t e = subst (λ (s : Tree). Built true E S s) (tree_same _ t e) (record {
  species = star-species N S bd;
  formed = (omega (arith, leaves-degree (members N S), not-lone (members N S) nl, members_one N S u (bd u hu) hu), star_formed N S);
  housed = star_housed N S;
  keeps = λ nv. absurd (false≢true nv);
  against = λ a b c ha hb hc e h. leaves_split (leaf_each (members N S)) (leaves_each (members N S)) a c b (pr.third a b c e) (node_splits (leaf_each (members N S)) a c b (star-species N S bd b ∙ hb) h);
})

module _ (v : Bool) (E : Triplets) (N : ℕ) (pr : Proper E) where
  one_species : (S : Species) → Below N S → So (lone (members N S)) → Built v E S (leaf (get_or (members N S) 0 0))
  one_species S bd h =
      let x₀ = get_or (members N S) 0 0 in
      let len = lone-length (members N S) h in
      let h₀ : So (S x₀) = members_head N S (omega arith) in
      let uq = only_one N S bd len in
      record {
        species = λ x. bool_ext (eqb x₀ x) (S x) (λ q. subst (λ (z : ℕ). So (S z)) (eqb-true x₀ x q) h₀) (λ q. eq-eqb x₀ x (uq x₀ x h₀ q));
        formed = tt;
        housed = tt;
        keeps = λ nv a b c ha hb hc e. absurd (pr.two a b c e (uq a b ha hb));
        against = λ a b c ha hb hc e h. pr.two a b c e (uq a b ha hb);
      }

  several : (S : Species) → Below N S → (u : ℕ) → So (S u) → So (not (joined E N S)) → (f : Forest) → BuiltF v E S (parts E N S) f → Built v E S (node f)
  several S bd u hu nj f H =
      let sp : (x : ℕ) → under_f f x ≡ S x = λ x. H.species x ∙ bool_ext _ _ (parts_in E N S bd pr x) (parts_cover E N S bd pr x) in
      record {
        species = sp;
        formed = (omega (arith, H.count, not-lone (parts E N S) nj, any_of_length (parts E N S) u (parts_cover E N S bd pr u hu)), H.formed (parts-apart E N S bd pr));
        housed = H.housed (parts_sorted E N pr S bd);
        keeps = λ nv a b c ha hb hc e. or_r (cuts (under_f f) a b c) _ (H.keeps nv a b c ha hb hc e (parts_cover E N S bd pr a ha));
        against = λ a b c ha hb hc e h. H.against a b c ha hb hc e (node_splits f a c b (sp b ∙ hb) h);
      }

  pub built_in : (k : ℕ) (S : Species) → Below N S → (u : ℕ) → So (S u) → length (members N S) ≤ k → (t : Tree) → build_in v E N k S ≡ tree t → Built v E S t
  unfolding build_in
  built_in zero S bd u hu le t e = absurd (omega (arith, members_one N S u (bd u hu) hu))
  built_in (suc k) S bd u hu le t e = ⊎_elim
      (λ h. rw h.1 (one_species S bd h.0))
      (⊎_elim
      (λ h. all_joined v E N pr S bd u hu h.0 t h.2)
      (λ h. rw h.2.2 (several S bd u hu h.1 h.2.0 (built_gather v E (λ p. build_in v E N k p) S (parts E N S)
      (parts_every E N S bd pr (λ p. (t : Tree) → build_in v E N k p ≡ tree t → Built v E p t)
      (λ j hj lj. built_in k (part E N S j) (λ x q. bd x (part_in E N S bd pr j x hj q)) j (part_refl E N S bd pr j) (omega (arith, fewer E N pr S bd u hu j hj h.1))))
      (parts_every E N S bd pr (Closed E S) (λ j hj lj. part_closed E N S bd pr j))
      h.2.0 h.2.1))))
      (choose_tree (lone (members N S)) (joined E N S) (get_or (members N S) 0 0) (ending v N S) (gather (λ p. build_in v E N k p) (parts E N S)) t e)

  pub built : (S : Species) → Below N S → (u : ℕ) → So (S u) → (t : Tree) → build_by v E N S ≡ tree t → Built v E S t
  unfolding build_by
  built S bd u hu t e = built_in N S bd u hu (members_bound N S) t e
