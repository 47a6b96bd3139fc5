-- The theorems of the veto build, each to be read alone. Request T-06. E: the entered triplets; S: the set that is built; N: a number that its species are
-- below; u: one of them; T: the veto build's tree. Assumes nothing.
use mathlib.Core.Bool.{So, false, true}
use mathlib.Core.List.{List, [], ◌∷◌}
use mathlib.Core.Logic.{◌↔◌, ⊎_elim}
use mathlib.Core.Path.{◌∙◌, ◌≡◌, fun_ext, refl, sym}
use Prim.Native.Nat.{suc, zero, ℕ}
use native.Mathlib.Omega.{arith}
use lib.ListN.{get_or}
use Rattle.sets.proofs.Bools.{and_l, and_r, not_e, or_case}
use Rattle.sets.proofs.Members.{Every}
use Rattle.sets.specs.Species.{Below, Inside, Species, members}
use Rattle.trees.proofs.Aho.{aho_is_built, built_is_aho}
use Rattle.trees.proofs.Built.{Built, built}
use Rattle.trees.proofs.Formed.{formed_e, formed_i}
use Rattle.trees.proofs.Lowest.{housed_e, housed_i}
use Rattle.trees.proofs.Outcomes.{choose_stop, gather_stop, tree_same}
use Rattle.trees.proofs.Splits.{holds_e}
use Rattle.trees.proofs.Theorems.{build_decides, pc_exactly}
use Rattle.trees.proofs.Unique.{bounded}
use Rattle.trees.proofs.VetoRule.{veto_is_built, veto_keeps}
use Rattle.trees.specs.Build.{Outcome, build, build_by, build_in, ending, gather, stop, tree, veto}
use Rattle.trees.specs.Check.{PC, R, differs}
use Rattle.trees.specs.Held.{CanBeHeld}
use Rattle.trees.specs.Links.{joined, lone, parts}
use Rattle.trees.specs.Trees.{Tree, in_house_order, under, well_formed}
use Rattle.trees.specs.Triplets.{Proper, Triplets, holds}
use Rattle.trees.specs.Veto.{VetoTree}

module _ (E : Triplets) (N : ℕ) where
  pub no_stop_in : (k : ℕ) (S U : Species) → build_in true E N k S ≡ stop U → ⊥
  unfolding build_in
  no_stop_in zero S U e = let z : ◌≡◌ {A = ℕ} 0 1 = cc in absurd (omega arith)
  no_stop_in (suc k) S U e = ⊎_elim
      (λ h. let z : ◌≡◌ {A = ℕ} 0 1 = cc h.2 in absurd (omega arith))
      (λ h. gather_stop (λ p. build_in true E N k p) (λ U. ⊥) (parts E N S) (each (parts E N S) (no_stop_in k)) U h.2)
      (choose_stop (lone (members N S)) (joined E N S) (get_or (members N S) 0 0) (ending true N S) (gather (λ p. build_in true E N k p) (parts E N S)) U e)
    where
      each : (ps : List Species) → ((p U : Species) → build_in true E N k p ≡ stop U → ⊥) → Every (λ p. (U : Species) → build_in true E N k p ≡ stop U → ⊥) ps
      each [] h = tt
      each (p ∷ ps) h = (h p, each ps h)

  -- "It never gives 10": of any set the veto build gives a tree.
  pub veto_tree : (S : Species) → (T : Tree) × (veto E N S ≡ tree T)
  unfolding build_by
  veto_tree S = go (build_in true E N N S) refl
    where
      go : (r : Outcome) → build_in true E N N S ≡ r → (T : Tree) × (build_in true E N N S ≡ tree T)
      go (tree T) e = (T, e)
      go (stop U) e = absurd (no_stop_in N S U e)

module _ (E : Triplets) (pr : Proper E) (N : ℕ) (S : Species) (bd : Below N S) (u : ℕ) (hu : So (S u)) where
  module _ (T : Tree) (e : veto E N S ≡ tree T) where
    vetoed : Built true E S T
    vetoed = built true E N pr S bd u hu T e

    -- The veto build's tree has exactly the species of the set,
    pub veto-species : (x : ℕ) → under T x ≡ S x
    veto-species = vetoed.species

    -- it is well formed,
    pub veto_formed : So (well_formed T)
    veto_formed = formed_i T vetoed.formed

    -- and it is in house order.
    pub veto-ordered : So (in_house_order T)
    veto-ordered = housed_i T vetoed.formed vetoed.housed

    -- At each node whose group is joined all children are leaves; at every other they are the parts.
    pub veto_rule : VetoTree E T
    veto_rule = veto_keeps E N pr S bd u hu T e

    -- Nothing entered differs from what it holds on a triple that it resolves.
    pub veto_agrees : (a b c : ℕ) → So (differs E T a b c) → ⊥
    veto_agrees a b c h =
        let sp : (x : ℕ) → So (under T x) → So (S x) = λ x k. sym (vetoed.species x) ∙ k in
        let r = and_l (R E T a b c) _ h in
        let ab = and_l (E a b c) _ r in
        or_case (holds T a b c) _ (and_r (E a b c) _ r) (not_e (holds T a b c) (and_r (R E T a b c) _ h)) (λ q. or_case (holds T a c b) (holds T b c a) q
        (λ k. let o = holds_e T a c b k in vetoed.against a b c (sp a o.in_a) (sp b o.in_c) (sp c o.in_b) ab o.splits)
        (λ k. let o = holds_e T b c a k in vetoed.against b a c (sp b o.in_a) (sp a o.in_c) (sp c o.in_b) (pr.swap a b c ab) o.splits))

    -- "Its tree always passes the PC part of the check", over any set W of species that has those of S: in the check, all n.
    pub veto_pc : (M : ℕ) (W : Species) → Below M W → Inside S W → PC E W T
    veto_pc M W wbd sub = (pc_exactly E pr M W wbd T veto_formed (λ x h. sub x (sym (veto-species x) ∙ h))).1 veto_agrees

  -- "Where a tree holding everything exists, it equals the plain build", and only there.
  pub veto-plain : CanBeHeld E S ↔ (build E N S ≡ veto E N S)
  veto-plain = (
    (λ h. let (t, e) = (build_decides E pr N S bd u hu).1 h in e ∙ sym (aho t e)),
    λ q. let (T, e) = veto_tree E N S in (build_decides E pr N S bd u hu).0 (T, q ∙ e),
  )
    where
      -- the plain build's tree is Aho's, which either build gives
      aho : (t : Tree) → build E N S ≡ tree t → veto E N S ≡ tree t
      aho t e =
          let b = built false E N pr S bd u hu t e in
          rw (← (fun_ext b.species)) (aho_is_built true E N pr t (λ x k. bd x (sym (b.species x) ∙ k)) b.formed b.housed (built_is_aho E N pr S bd u hu t e))

-- A tree of that rule with exactly the species S, well formed and in house order, is what the veto build gives.
pub veto_built : (E : Triplets) → Proper E → (N : ℕ) (S : Species) → Below N S → (t : Tree) → So (well_formed t) → So (in_house_order t) → ((x : ℕ) → under t x ≡ S x)
    → VetoTree E t → veto E N S ≡ tree t
veto_built E pr N S bd t f h sp r =
    let w = formed_e t f in
    rw (← (fun_ext sp)) (veto_is_built E N pr t (λ x k. bd x (sym (sp x) ∙ k)) w (housed_e t w h) r)

-- So there is one: two well-formed trees in house order with the same species that both keep the rule are equal.
pub veto_one : (E : Triplets) → Proper E → (t t' : Tree) → So (well_formed t) → So (well_formed t') → So (in_house_order t) → So (in_house_order t')
    → ((x : ℕ) → under t x ≡ under t' x) → VetoTree E t → VetoTree E t' → t ≡ t'
veto_one E pr t t' f f' h h' sp r r' =
    let n = bounded t in
    let e : tree t ≡ tree t' = sym (veto_built E pr n.0 (under t) n.1 t f h (λ x. refl) r) ∙ veto_built E pr n.0 (under t) n.1 t' f' h' (λ x. sym (sp x)) r' in
    tree_same t t' e
