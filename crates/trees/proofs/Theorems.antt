-- The theorems of building and of the check, each to be read alone. E: the entered triplets; S: a set of species, in the base all n (`below n`);
-- N: a number that they are below; u: one of them. The definitions stand in `specs/`. Assumes nothing.
use mathlib.Core.Bool.{So, ◌&&◌, false}
use mathlib.Core.Logic.Iff
use mathlib.Core.Logic.{◌↔◌}
use mathlib.Core.Path.{◌∙◌, ◌≡◌, fun_ext, refl, sym}
use Prim.Native.Nat.{◌≤◌, ℕ}
use lib.ListN.{length}
use Rattle.sets.proofs.Bools.{and_i, and_l, and_r, bool_ext, not_e, or_case, test}
use Rattle.sets.proofs.Members.{members-two}
use Rattle.sets.specs.Species.{Below, Inside, Species, members}
use Rattle.trees.proofs.Agreement.{Agrees, agrees_pc, pc_agrees}
use Rattle.trees.proofs.Aho.{aho_is_built, built_is_aho}
use Rattle.trees.proofs.Alike.{alike}
use Rattle.trees.proofs.Built.{built}
use Rattle.trees.proofs.Core.{core_bars, sure_forced}
use Rattle.trees.proofs.Earned.{earned_pi}
use Rattle.trees.proofs.Criterion.{aho, held_built, no_tree}
use Rattle.trees.proofs.Formed.{formed_e, formed_i}
use Rattle.trees.proofs.Groups.{same_holds, same_species}
use Rattle.trees.proofs.House.{house_formed, house-groups, house_housed, house-under}
use Rattle.trees.proofs.Joins.{joined_e, joined_i, joined_walks, stopping_three, two-members, walks_joined}
use Rattle.trees.proofs.Lowest.{housed_e, housed_i}
use Rattle.trees.proofs.Splits.{holds_swap}
use Rattle.trees.proofs.Stopping.{Stopping, stopping}
use Rattle.trees.proofs.Triplets.{on_swap, on_turn}
use Rattle.trees.proofs.Unique.{bounded, house_same, rebuilt_house, same_groups, same_house}
use Rattle.trees.specs.Aho.{AhoTree}
use Rattle.trees.specs.Build.{Outcome, build, stop, tree}
use Rattle.trees.specs.Check.{Earned, Forced, PC, PI, R, core, differs, sure, unsure}
use Rattle.trees.specs.Held.{CanBeHeld, HeldBy}
use Rattle.trees.specs.Links.{Joined, JoinedByWalks, joined}
use Rattle.trees.specs.Trees.{SameGroups, Tree, house, in_house_order, under, well_formed}
use Rattle.trees.specs.Triplets.{Proper, Triplets, different, fan, holds, on_triple, resolves}

-- ---- joined sets

-- There is one part; every closed set with one species of U has all of U; any two species of U are linked by a walk: these say the same.
pub joined_closed : (E : Triplets) → Proper E → (N : ℕ) (U : Species) → Below N U → (u : ℕ) → So (U u) → So (joined E N U) ↔ Joined E U
joined_closed E pr N U bd u hu = (joined_e E N pr U bd, joined_i E N pr U bd u hu)

pub closed_walks : (E : Triplets) → Proper E → (N : ℕ) (U : Species) → Below N U → Joined E U ↔ JoinedByWalks E U
closed_walks E pr N U bd = (joined_walks E U N pr bd, walks_joined E U)

joined_stops : (E : Triplets) → Proper E → (N : ℕ) (S U : Species) → Below N S → Inside U S → 2 ≤ length (members N U) → So (joined E N U) → Stopping E S U
joined_stops E pr N S U bd sub two j =
    let ubd : Below N U = λ x h. bd x (sub x h) in
    record { inside = sub; join = joined_e E N pr U ubd j; two = two-members N U ubd two }

-- A set of two or more species that its links join is held by no tree, nor is any set that it lies in.
pub joined-not_held : (E : Triplets) → Proper E → (N : ℕ) (S U : Species) → Below N S → Inside U S → 2 ≤ length (members N U) → So (joined E N U) → CanBeHeld E S → ⊥
joined-not_held E pr N S U bd sub two j = no_tree E S U (joined_stops E pr N S U bd sub two j)

-- ---- the build

-- what is so of the set that a refusal names
pub record StoppingSet (E : Triplets) (N : ℕ) (S U : Species) : Type 0 where
  pub inside : Inside U S
  pub three : 3 ≤ length (members N U)
  pub one_part : So (joined E N U)
  pub closed : Joined E U
  pub walks : JoinedByWalks E U

module _ (E : Triplets) (pr : Proper E) (N : ℕ) (S : Species) (bd : Below N S) (u : ℕ) (hu : So (S u)) where
  -- A set at which the build stops lies in the set that was built, has three or more species, and is joined.
  pub stopping_set : (U : Species) → build E N S ≡ stop U → StoppingSet E N S U
  stopping_set U e =
      let r = stopping E N pr S bd u hu U e in
      let ubd : Below N U = λ x h. bd x (r.inside x h) in
      record {
        inside = r.inside;
        three = stopping_three E N pr S U ubd r;
        one_part = joined_i E N pr U ubd r.two.0 r.two.2 r.join;
        closed = r.join;
        walks = joined_walks E U N pr ubd r.join;
      }

  -- A tree that is built has exactly the species, is well formed, holds every entered triplet, and is in house order.
  pub built_tree : (t : Tree) → build E N S ≡ tree t → HeldBy E S t × So (in_house_order t)
  built_tree t e = let b = built false E N pr S bd u hu t e in (held_built E pr S t b, housed_i t b.formed b.housed)

  -- And it is Aho's tree: at each node two species are under one child exactly when a walk of links on the node's own group joins them.
  pub built_aho : (t : Tree) → build E N S ≡ tree t → AhoTree E t
  built_aho = built_is_aho E N pr S bd u hu

  -- The build gives a tree exactly when some tree holds everything.
  pub build_decides : ((t : Tree) × (build E N S ≡ tree t)) ↔ CanBeHeld E S
  build_decides = ((λ r. (r.0, (built_tree r.0 r.1).0)), λ h. go (build E N S) refl h)
    where
      go : (r : Outcome) → build E N S ≡ r → CanBeHeld E S → (t : Tree) × (build E N S ≡ tree t)
      go (tree t) e h = (t, e)
      go (stop U) e h = absurd (no_tree E S U (stopping E N pr S bd u hu U e) h)

  -- The build refuses exactly when no tree holds everything.
  pub build_refuses : ((U : Species) × (build E N S ≡ stop U)) ↔ (CanBeHeld E S → ⊥)
  build_refuses = ((λ r. no_tree E S r.0 (stopping E N pr S bd u hu r.0 r.1)), λ h. go (build E N S) refl h)
    where
      go : (r : Outcome) → build E N S ≡ r → (CanBeHeld E S → ⊥) → (U : Species) × (build E N S ≡ stop U)
      go (tree t) e h = absurd (h (t, (built_tree t e).0))
      go (stop U) e h = (U, e)

  -- Aho's criterion: some tree holds everything exactly when no set of two or more species inside S is joined.
  pub criterion : CanBeHeld E S ↔ ((U : Species) → Inside U S → 2 ≤ length (members N U) → So (joined E N U) → ⊥)
  criterion = (
    (λ h U sub two j. joined-not_held E pr N S U bd sub two j h),
    λ h. (aho E N pr S bd u hu).1 (λ U b. let ubd : Below N U = λ x q. bd x (b.inside x q) in
        let (v, w, hv, hw, ne) = b.two in h U b.inside (members-two N U ubd v w hv hw ne) (joined_i E N pr U ubd v hv b.join)),
  )

-- Aho's tree with exactly the species S, well formed and in house order, is what the build gives.
pub aho_built : (E : Triplets) → Proper E → (N : ℕ) (S : Species) → Below N S → (t : Tree) → So (well_formed t) → So (in_house_order t) → ((x : ℕ) → under t x ≡ S x)
    → AhoTree E t → build E N S ≡ tree t
aho_built E pr N S bd t f h sp a =
    let w = formed_e t f in
    rw (← (fun_ext sp)) (aho_is_built false E N pr t (λ x k. bd x (sym (sp x) ∙ k)) w (housed_e t w h) a)

-- So there is one: two well-formed trees in house order with the same species that both are Aho's tree are equal.
pub aho_one : (E : Triplets) → Proper E → (t t' : Tree) → So (well_formed t) → So (well_formed t') → So (in_house_order t) → So (in_house_order t')
    → ((x : ℕ) → under t x ≡ under t' x) → AhoTree E t → AhoTree E t' → t ≡ t'
aho_one E pr t t' f f' h h' sp a a' =
    let n = bounded t in
    let e : tree t ≡ tree t' = sym (aho_built E pr n.0 (under t) n.1 t f h (λ x. refl) a) ∙ aho_built E pr n.0 (under t) n.1 t' f' h' (λ x. sym (sp x)) a' in
    cc e

-- ---- listing and rebuilding

-- Putting a tree in house order keeps its species and groups and its being well formed.
pub record HouseOrder (t h : Tree) : Type 0 where
  pub formed : So (well_formed h)
  pub ordered : So (in_house_order h)
  pub species : (x : ℕ) → under h x ≡ under t x
  pub groups : SameGroups h t

pub house_order : (t : Tree) → So (well_formed t) → HouseOrder t (house t)
house_order t f = let w = formed_e t f in record {
  formed = formed_i (house t) (house_formed t w);
  ordered = housed_i (house t) (house_formed t w) (house_housed t w);
  species = house-under t;
  groups = house-groups t;
}

-- If the entered triplets are those of a well-formed tree with exactly the species S, the build gives that tree in house order.
pub rebuild : (E : Triplets) → Proper E → (N : ℕ) (S : Species) → Below N S → (t : Tree) → So (well_formed t) → ((x : ℕ) → under t x ≡ S x)
    → ((a b c : ℕ) → So (S a) → So (S b) → So (S c) → E a b c ≡ holds t a b c) → build E N S ≡ tree (house t)
rebuild E pr N S bd t f sp says = rw (← (fun_ext sp)) (rebuilt_house E N pr t (λ x h. bd x (sym (sp x) ∙ h)) (formed_e t f)
    (λ a b c ha hb hc. says a b c (sym (sp a) ∙ ha) (sym (sp b) ∙ hb) (sym (sp c) ∙ hc)))

module _ (t t' : Tree) (f : So (well_formed t)) (f' : So (well_formed t')) where
  -- Two well-formed trees with the same species hold the same triplets exactly when they have the same groups.
  pub known_by_triplets : ((x : ℕ) → under t x ≡ under t' x) → ((a b c : ℕ) → holds t a b c ≡ holds t' a b c) ↔ SameGroups t t'
  known_by_triplets sp = (same_groups t t' (formed_e t f) (formed_e t' f') sp, same_holds t t')

  -- Two well-formed trees have the same groups exactly when they are equal in house order.
  pub known_by_house : SameGroups t t' ↔ (house t ≡ house t')
  known_by_house = (
    (λ s. same_house t t' (formed_e t f) (formed_e t' f') (same_species t t' s) (same_holds t t' s)),
    λ e G. Iff.trans (Iff.symm (house-groups t G)) (Iff.trans (rw e Iff.rfl) (house-groups t' G)),
  )

  -- So two of them that are in house order already are equal.
  pub known_in_house : So (in_house_order t) → So (in_house_order t') → SameGroups t t' → t ≡ t'
  known_in_house h h' s =
      let w = formed_e t f in
      let w' = formed_e t' f' in
      sym (house_same t w (housed_e t w h)) ∙ known_by_house.0 s ∙ house_same t' w' (housed_e t' w' h')

-- ---- the check

-- A fan gives no triplet and contradicts none.
pub fan_silent : (E : Triplets) (T : Tree) (a b c : ℕ) → So (fan T a b c) → (So (on_triple (holds T) a b c) → ⊥) × (So (on_triple (differs E T) a b c) → ⊥)
fan_silent E T a b c h =
    let n = not_e (resolves T a b c) (and_r (different a b c) _ (and_r (under T a && (under T b && under T c)) _ h)) in
    let r : (x y z : ℕ) → So (differs E T x y z) → So (resolves T x y z) = λ x y z k. and_r (E x y z) _ (and_l (R E T x y z) _ k) in
    let sw = on_swap (holds T) (holds_swap T) in
    let tu = on_turn (holds T) (holds_swap T) in (
      n,
      λ k. n (or_case (differs E T a b c) _ k (r a b c) (λ j. or_case (differs E T a c b) (differs E T b c a) j
          (λ i. tu a c b (r a c b i)) (λ i. sw b a c (tu b c a (r b c a i))))),
    )

module _ (E : Triplets) (pr : Proper E) (N : ℕ) (S : Species) (bd : Below N S) (T : Tree) (f : So (well_formed T)) (sub : Inside (under T) S) where
  -- PC holds exactly when no entered triplet differs from what T holds on a triple that it resolves.
  pub pc_exactly : PC E S T ↔ ((a b c : ℕ) → So (differs E T a b c) → ⊥)
  pc_exactly = (
    (λ pc a b c h. not_e (holds T a b c) (and_r (R E T a b c) _ h) (pc_agrees E pr T (formed_e T f) N S bd sub pc a b c (and_l (R E T a b c) _ h))),
    λ n. agrees_pc E pr T (formed_e T f) N S bd sub (λ a b c h. test (holds T a b c) (λ q. q) (λ q. absurd (n a b c (and_i (R E T a b c) _ h q)))),
  )

  module _ (pc : PC E S T) where
    tbd : Below N (under T)
    tbd x h = bd x (sub x h)

    agrees : Agrees E T
    agrees = pc_agrees E pr T (formed_e T f) N S bd sub pc

    -- For a tree that passes PC, a triplet that it holds is forced exactly when each of two chains of parts ends with its third species inside.
    pub forced_exactly : (a b c : ℕ) → So (holds T a b c) → Forced (R E T) S a b c ↔ So (sure E N T a b c)
    forced_exactly a b c h = Iff.symm (sure_forced E pr N T (formed_e T f) tbd agrees S bd sub a b c h)

    -- The two other triplets on its triple are possible or impossible together, so that one chain decides.
    pub one_chain : (a b c : ℕ) → So (holds T a b c) → core (R E T) N N (under T) a c b ≡ core (R E T) N N (under T) b c a
    one_chain a b c h =
        let w = formed_e T f in
        let p = core_bars E pr N T w tbd agrees a b c h in
        let q = core_bars E pr N T w tbd agrees b a c (holds_swap T a b c h) in
        let r = alike E pr N T w tbd agrees a b c h in
        bool_ext _ _ (λ k. q.1 (r.0 (p.0 k))) (λ k. p.1 (r.1 (q.0 k)))

    -- PI holds exactly when no triplet of T is unsure.
    pub pi_exactly : PI E S T ↔ ((a b c : ℕ) → So (unsure E N T a b c) → ⊥)
    pi_exactly = (
      (λ pi a b c h. let o = and_l (holds T a b c) _ h in not_e (sure E N T a b c) (and_r (holds T a b c) _ h) ((forced_exactly a b c o).0 (pi a b c o))),
      λ n a b c h. (forced_exactly a b c h).1 (test (sure E N T a b c) (λ q. q) (λ q. absurd (n a b c (and_i (holds T a b c) _ h q)))),
    )

    -- PI holds exactly when each group of T but the root's is earned: joined by the links on it and any one sibling group.
    pub earned_exactly : PI E S T ↔ Earned (R E T) T
    earned_exactly = earned_pi E pr N T (formed_e T f) tbd agrees S bd sub
