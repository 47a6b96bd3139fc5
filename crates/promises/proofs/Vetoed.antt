-- The veto build keeps what is promised of it. To good input it gives a tree always: with exactly the species of the set, in house order, and one that passes PC; so
-- the check of it answers 0 or 12. Where the plain build does not answer 10, the two give the same. Assumes nothing.
use mathlib.Core.Bool.{So, false, true}
use mathlib.Core.List.{List, [], ◌∷◌, ◌++◌}
use mathlib.Core.Logic.{◌⊎◌, inl, inr, ⊎_elim}
use mathlib.Core.Path.{◌∙◌, ◌≡◌, ap, ap₂, refl, subst, sym}
use Prim.Native.Nat.{ℕ}
use native.Mathlib.Omega.{arith}
use borrow.Author.Tests.{lt-ltb}
use lib.ListN.{drop, length, take-append-drop}
use Rattle.sets.proofs.Members.{all_below}
use Rattle.sets.specs.Sets.{has}
use Rattle.sets.specs.Species.{below}
use Rattle.trees.proofs.CountTheorems.{plain_visits}
use Rattle.trees.proofs.Theorems.{built_tree}
use Rattle.trees.proofs.VetoTheorems.{veto_formed, veto-ordered, veto_pc, veto_one, veto-plain, veto_rule, veto-species, veto_tree}
use Rattle.trees.specs.Build.{Outcome, stop, tree, veto}
use Rattle.trees.specs.Check.{PC}
use Rattle.trees.specs.Trees.{Tree, in_house_order, under, well_formed}
use Rattle.trees.specs.Triplets.{Proper, Triplets}
use Rattle.trees.specs.Veto.{VetoTree}
use Rattle.trees.specs.Visits.{looked, triples}
use Rattle.tables.proofs.Bytes.{entered_proper}
use Rattle.tables.specs.Bytes.{entered}
use Rattle.bodies.specs.Draws.{body_of, node_count, tree_of, written}
use Rattle.bodies.specs.Nodes.{body_length, nodes}
use Rattle.answers.proofs.Answered.{first_stop}
use Rattle.refusals.specs.Told.{Told, looked_count, number_of_nodes, told, value}
use Rattle.answers.specs.Inputs.{Body}
use Rattle.answers.specs.Looks.{first_refusal}
use Rattle.refusals.specs.Refusals.{refusal_told}
use Rattle.answers.specs.Looks.{Look}
use Rattle.building.proofs.Whole.{input_uncounted}
use Rattle.admitting.specs.GoodSet.{input_looks}
use Rattle.building.specs.Builds.{look_outcome, looked_by, outcome, outcome_by}
use Rattle.building.specs.Vetoes.{veto_looked, vetoed}
use Rattle.promises.specs.Demand2.{front}
use Rattle.promises.specs.Inputs.{Buildable, Checkable}
use Rattle.promises.specs.Operations.{Given, builds, checks, gives, koodhaxil, vetoes}
use Rattle.promises.specs.Together.{OwnChecked}
use Rattle.promises.specs.Veto.{AsBuiltButTen, OneVeto, Veto, VetoesRight}
use Rattle.promises.proofs.Accepted.{build_pass, vetoes_never_10}
use Rattle.promises.proofs.Built.{builds_stop, builds_tree, good_built, in_below, some, some_in}
use Rattle.promises.proofs.Checked.{good_checked}
use Rattle.promises.proofs.Chosen.{value_is}
use Rattle.promises.proofs.Counted.{one_counting}
use Rattle.promises.proofs.Promises.{accepted, demand1}
use Rattle.promises.proofs.Wrote.{tree_back, tree_housed, tree_wrote}
use Rattle.std.specs.Prelude.{Ok, Err}

module _ (n s : ℕ) (t o : List ℕ) (g : Buildable n s t o) where
  pub vetoes_tree : (T : Tree) → vetoed n s t ≡ tree T → vetoes n s t o ≡ gives (told 0 (value number_of_nodes (node_count T) ∷ value looked_count (veto_looked n s t) ∷ [])) (written o (body_of T))
  vetoes_tree T e = rw ((build_pass n s t o).1 g, e) refl

  abbrev E : Triplets
  E = entered t

  abbrev pr : Proper E
  pr = entered_proper t

  module _ (T : Tree) (e : veto E n (has s) ≡ tree T) where
    formed : So (well_formed T)
    formed = veto_formed E pr n (has s) (in_below n s t o g) (some n s t o g).0 (some_in n s t o g) T e

    species : (x : ℕ) → under T x ≡ has s x
    species = veto-species E pr n (has s) (in_below n s t o g) (some n s t o g).0 (some_in n s t o g) T e

    housed : So (in_house_order T)
    housed = veto-ordered E pr n (has s) (in_below n s t o g) (some n s t o g).0 (some_in n s t o g) T e

    rule : VetoTree E T
    rule = veto_rule E pr n (has s) (in_below n s t o g) (some n s t o g).0 (some_in n s t o g) T e

    -- the check is over all n species
    pc : PC E (below n) T
    pc = veto_pc E pr n (has s) (in_below n s t o g) (some n s t o g).0 (some_in n s t o g) T e n (below n) (all_below n) (λ x h. lt-ltb x n (in_below n s t o g x h))

    back : tree_of (front (node_count T) (written o (body_of T))) ≡ T
    back = tree_back n s t o g T formed species

    tree_vetoed : VetoesRight E n (has s) o (gives (told 0 (value number_of_nodes (node_count T) ∷ value looked_count (veto_looked n s t) ∷ [])) (written o (body_of T)))
    tree_vetoed = record {
      count = node_count T;
      looked = veto_looked n s t;
      told_is = refl;
      wrote = tree_wrote n s t o g T formed species;
      species = λ x. ap (λ (u : Tree). under u x) back ∙ species x;
      formed = subst (λ (u : Tree). So (well_formed u)) (sym back) formed;
      housed = tree_housed n s t o g T formed species housed;
      rule = subst (λ (u : Tree). VetoTree E u) (sym back) rule;
      pc = subst (λ (u : Tree). PC E (below n) u) (sym back) pc;
    }

  pub good_vetoed : VetoesRight E n (has s) o (vetoes n s t o)
  unfolding outcome_by
  good_vetoed =
      let (T, e) = veto_tree E n (has s) in
      subst (λ (h : Given). VetoesRight E n (has s) o h) (sym (vetoes_tree T e)) (tree_vetoed T e)

  -- what the plain build comes to, the veto build comes to, where that is a tree
  same_tree : (T : Tree) → outcome n s t ≡ tree T → vetoes n s t o ≡ builds n s t o
  unfolding outcome_by looked_by looked
  same_tree T e =
      let h = built_tree E pr n (has s) (in_below n s t o g) (some n s t o g).0 (some_in n s t o g) T e in
      let q = (veto-plain E pr n (has s) (in_below n s t o g) (some n s t o g).0 (some_in n s t o g)).0 (T, h.0) in
      vetoes_tree T (sym q ∙ e)
      ∙ ap (λ (c : ℕ). gives (told 0 (value number_of_nodes (node_count T) ∷ value looked_count c ∷ [])) (written o (body_of T))) (ap (triples n) (sym (plain_visits E n (has s) T e)))
      ∙ sym (builds_tree n s t o g T e)

-- the tree is one, so its body in house order is, and the room with it
pub one_veto : OneVeto
one_veto f h d d' c c' n s t o g =
    let a = (f n s t o).after in
    let a' = (h n s t o).after in
    let r = d n s t o g in
    let r' = d' n s t o g in
    let e = veto_one (entered t) (entered_proper t) (tree_of (front r.count a)) (tree_of (front r'.count a')) r.formed r'.formed r.housed.children r'.housed.children
    (λ x. r.species x ∙ sym (r'.species x)) r.rule r'.rule in
    let b = r.housed.preorder ∙ ap body_of e ∙ sym r'.housed.preorder in
    let k = sym r.wrote.count ∙ ap (λ (u : List ℕ). (nodes u).count) b ∙ r'.wrote.count in
    let w = r.wrote.behind ∙ ap (λ (j : ℕ). drop (body_length j) o) k ∙ sym r'.wrote.behind in
    let q = one_counting true f h c c' n s t o g r.looked r'.looked (value number_of_nodes r.count ∷ [], ap (λ (x : Told). x.values) r.told_is)
    (value number_of_nodes r'.count ∷ [], ap (λ (x : Told). x.values) r'.told_is) in
    ap₂ gives (r.told_is ∙ ap₂ (λ (j i : ℕ). told 0 (value number_of_nodes j ∷ value looked_count i ∷ [])) k q ∙ sym r'.told_is)
    (sym (take-append-drop (body_length r.count) a) ∙ ap₂ (λ (x y : List ℕ). x ++ y) b w ∙ take-append-drop (body_length r'.count) a')

-- both builds look at the input in the same way
but_ten : AsBuiltButTen vetoes builds
but_ten n s t o h = go (first_refusal (input_looks n s t (length o))) refl
  where
    came : Buildable n s t o → (r : Outcome) → outcome n s t ≡ r → vetoes n s t o ≡ builds n s t o
    came g (tree T) e = same_tree n s t o g T e
    came g (stop U) e = absurd (h (ap (λ (x : Given). x.told.number) (builds_stop n s t o g U e)))

    go : (k : Look) → first_refusal (input_looks n s t (length o)) ≡ k → vetoes n s t o ≡ builds n s t o
    go (Ok _) e = came ((build_pass n s t o).0 e) (outcome n s t) refl
    go (Err x) e = rw (e, first_stop (input_looks n s t (length o)) (look_outcome (outcome n s t) ∷ []) x e)
        (ap (λ (c : ℕ). gives (record { number = (refusal_told x).number; values = (refusal_told x).values ++ (value looked_count c ∷ []); rule = (refusal_told x).rule }) o)
        (input_uncounted (veto_looked n s t) n s t (length o) x e ∙ sym (input_uncounted (looked_by false n s t) n s t (length o) x e)))

-- ---- the check of it

pub pc_checked : (n : ℕ) (t b : List ℕ) → Checkable n t b → PC (entered t) (below n) (tree_of b) → ((checks n t b).number ≡ 0) ⊎ ((checks n t b).number ≡ 12)
pc_checked n t b g pc = let r = good_checked n t b g in ⊎_elim inl (⊎_elim (λ z. absurd (r.fails.0 z pc)) inr) r.one_of

pub veto_checked : OwnChecked vetoes checks
veto_checked n s m l t o e =
    let g = (accepted.vetoing n s t o).0 (ap (λ (r : Told). r.number) e) in
    let k = good_vetoed n s t o g in
    let is = value_is k.count m (sym k.told_is ∙ e) in
    pc_checked n t (front m (vetoes n s t o).after)
    (record { count = g.count; table = g.table; body = subst (λ (j : ℕ). Body n (front j (vetoes n s t o).after)) is k.wrote.body })
    (subst (λ (j : ℕ). PC (entered t) (below n) (tree_of (front j (vetoes n s t o).after))) is k.pc)

-- A tree to all good input, and never 10; the check of it never answers 11; it is the plain build's, wherever the plain build does not answer 10, and so where some tree holds all.
pub vetoes_keep : Veto koodhaxil
vetoes_keep = record {
  vetoing = good_vetoed;
  never_10 = vetoes_never_10 koodhaxil demand1;
  uncontradicted = λ n s m l t o e z. ⊎_elim (λ k. omega (arith, k, z)) (λ k. omega (arith, k, z)) (veto_checked n s m l t o e);
  checked = veto_checked;
  as_built = λ n s t o g h. but_ten n s t o (λ z. (good_built n s t o g).refuses.0 z h);
  but_10 = but_ten;
}
