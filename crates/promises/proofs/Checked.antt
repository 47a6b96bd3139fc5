-- Checking a good tree against a good table: 0, 11 or 12, each exactly where it says so over trees. Assumes nothing.
use mathlib.Core.Bool.{Bool, So, false, true}
use mathlib.Core.List.{List, [], ◌∷◌}
use mathlib.Core.Logic.{◌↔◌, inl, inr, ⊎_elim}
use mathlib.Core.Path.{◌∙◌, ◌≡◌, ap, refl, subst, sym}
use Prim.Native.Nat.{◌<◌, ℕ}
use native.Mathlib.Omega.{arith}
use borrow.Author.Tests.{le-ltb, lt-ltb, ltb-false, ltb-true}
use lib.Dec.{ltb}
use lib.ListN.{get_or}
use Rattle.sets.proofs.Bools.{and_i, and_l, and_r, not_e, not_i, or_case, or_l, or_r}
use Rattle.sets.proofs.Members.{all_below}
use Rattle.sets.specs.Species.{Below, Inside, below}
use Rattle.trees.proofs.Theorems.{forced_exactly, pc_exactly}
use Rattle.trees.specs.Check.{PC, PI, differs, sure, unsure}
use Rattle.trees.specs.Trees.{Tree, under, well_formed}
use Rattle.trees.specs.Triplets.{Triplets, holds, on_triple}
use Rattle.tables.proofs.Bytes.{entered_proper}
use Rattle.triples.proofs.Find.{first_found}
use Rattle.triples.proofs.Indices.{triple_back}
use Rattle.checking.proofs.Passing.{pc_first, pi_first}
use Rattle.tables.specs.Bytes.{entered}
use Rattle.triples.specs.Find.{first_triple}
use Rattle.triples.specs.Index.{C, high_at, low_at, mid_at}
use Rattle.bodies.proofs.Drawn.{tree_below, tree_formed}
use Rattle.bodies.proofs.Good.{length_good}
use Rattle.bodies.specs.Draws.{tree_of}
use Rattle.bodies.specs.Nodes.{nodes}
use Rattle.answers.proofs.Answered.{first_on, pass_false, pass_one, told_first}
use Rattle.refusals.specs.Told.{Told}
use Rattle.answers.specs.Looks as Looks
use Rattle.answers.specs.Looks.{answered, look_told, refuse_if}
use Rattle.answers.specs.Looks.{Look}
use Rattle.refusals.specs.declared.Refusal.TheVariants.{Contradicted}
use Rattle.refusals.specs.declared.Refusal.TheVariants.{Unforced as Unforced'}
use Rattle.checking.specs.Checks.{candidate_looks, check_looks, check_told, first_differs, first_unsure, look_pc, look_pi, triples_looks}
use Rattle.promises.specs.Operations.{checks}
use Rattle.promises.specs.Inputs.{Checkable}
use Rattle.promises.specs.Demand2.{ChecksRight, Contradicts, FirstTriple, Loose, Unforced}
use Rattle.promises.proofs.Accepted.{check_pass, pc_pass, then_known, zero_good}
use Rattle.std.specs.Prelude.{Ok, Err, Result}
use Rattle.refusals.specs.declared.Refusal.{Refusal}

-- the first index is that of the first triple
first_triple_lem : (n : ℕ) (P : Triplets) → first_triple n P < C n 3 → FirstTriple n (λ a b c. So (on_triple P a b c)) (first_triple n P)
first_triple_lem n P l =
    let r = triple_back n (first_triple n P) l in
    let f = first_found n P l in
    record {
      low = low_at n (first_triple n P);
      mid = mid_at n (first_triple n P);
      high = high_at n (first_triple n P);
      triple = (r.0, r.1, r.2);
      place = sym r.3;
      here = f.0;
      before = λ a b c p q s k h. not_e (on_triple P a b c) (f.1 a b c p q s k) h;
    }

-- what is so of the same triples has the same first one
first_same : (n : ℕ) (P Q : ℕ → ℕ → ℕ → Type 0) (i : ℕ) → ((a b c : ℕ) → P a b c ↔ Q a b c) → FirstTriple n P i → FirstTriple n Q i
first_same n P Q i e f = record {
  low = f.low;
  mid = f.mid;
  high = f.high;
  triple = f.triple;
  place = f.place;
  here = (e f.low f.mid f.high).0 f.here;
  before = λ a b c p q s k h. f.before a b c p q s k ((e a b c).1 h);
}

module _ (n : ℕ) (t : List ℕ) (T : Tree) (f : So (well_formed T)) (bd : Below n (under T)) where
  pub inside : Inside (under T) (below n)
  inside x h = lt-ltb x n (bd x h)

  module _ (pc : PC (entered t) (below n) T) where
    unsure_loose : (a b c : ℕ) → So (unsure (entered t) n T a b c) ↔ Loose (entered t) (below n) T a b c
    unsure_loose a b c =
        let e : So (holds T a b c) → _ = forced_exactly (entered t) (entered_proper t) n (below n) (all_below n) T f inside pc a b c in (
          (λ h. let o = and_l (holds T a b c) _ h in (o, λ k. not_e (sure (entered t) n T a b c) (and_r (holds T a b c) _ h) ((e o).0 k))),
          λ h. and_i (holds T a b c) _ h.0 (not_i (sure (entered t) n T a b c) (λ k. h.1 ((e h.0).1 k))),
        )

    unsure-unforced : (a b c : ℕ) → So (on_triple (unsure (entered t) n T) a b c) ↔ Unforced (entered t) (below n) T a b c
    unsure-unforced a b c =
        let P = unsure (entered t) n T in (
          (λ h. or_case (P a b c) _ h (λ k. inl ((unsure_loose a b c).0 k))
              (λ k. inr (or_case (P a c b) (P b c a) k (λ q. inl ((unsure_loose a c b).0 q)) (λ q. inr ((unsure_loose b c a).0 q))))),
          λ h. ⊎_elim (λ k. or_l (P a b c) _ ((unsure_loose a b c).1 k))
              (λ k. or_r (P a b c) _ (⊎_elim (λ q. or_l (P a c b) _ ((unsure_loose a c b).1 q)) (λ q. or_r (P a c b) _ ((unsure_loose b c a).1 q)) k)) h,
        )

    pub none_contradicts : (a b c : ℕ) → Contradicts (entered t) T a b c → ⊥
    none_contradicts a b c h =
        let d = (pc_exactly (entered t) (entered_proper t) n (below n) (all_below n) T f inside).0 pc in
        or_case (differs (entered t) T a b c) _ h (d a b c) (λ k. or_case (differs (entered t) T a c b) (differs (entered t) T b c a) k (d a c b) (d b c a))

  abbrev i : ℕ
  i = first_differs n t T

  abbrev j : ℕ
  j = first_unsure n t T

  told_of : (p q : Bool) → ltb i (C n 3) ≡ p → ltb j (C n 3) ≡ q
      → ChecksRight n t (below n) T (look_told (Looks.first_refusal (refuse_if p (Contradicted (record { index = i; byte = get_or t i 0 })) ∷ refuse_if q (Unforced' j) ∷ [])) [])
  unfolding first_differs first_unsure
  told_of true q p' q' =
      let w = first_triple_lem n (differs (entered t) T) (ltb-true i (C n 3) p') in
      record {
        one_of = inr (inl refl);
        passes = ((λ z. absurd (omega (arith, z))), λ h. absurd (h.0 w.low w.mid w.high w.here));
        fails = ((λ z pc. none_contradicts pc w.low w.mid w.high w.here), λ no. refl);
        contradicted = λ z. (i, refl, w);
        unforced = λ z. absurd (omega (arith, z));
      }
  told_of false true p' q' =
      let pc = (pc_first n t T f inside).1 (ltb-false i (C n 3) p') in
      let l = ltb-true j (C n 3) q' in
      record {
        one_of = inr (inr refl);
        passes = ((λ z. absurd (omega (arith, z))), λ h. absurd (omega (arith, l, (pi_first n t T f inside pc).0 h.1)));
        fails = ((λ z. absurd (omega (arith, z))), λ no. absurd (no pc));
        contradicted = λ z. absurd (omega (arith, z));
        unforced = λ z. (j, refl, none_contradicts pc, first_same n _ _ j (unsure-unforced pc) (first_triple_lem n (unsure (entered t) n T) l));
      }
  told_of false false p' q' =
      let pc = (pc_first n t T f inside).1 (ltb-false i (C n 3) p') in
      record {
        one_of = inl refl;
        passes = ((λ z. (none_contradicts pc, (pi_first n t T f inside pc).1 (ltb-false j (C n 3) q'))), λ h. refl);
        fails = ((λ z. absurd (omega (arith, z))), λ no. absurd (no pc));
        contradicted = λ z. absurd (omega (arith, z));
        unforced = λ z. absurd (omega (arith, z));
      }

pub check_told_lem : (k : Look) → check_told (answered (λ (a : Result (Unit {0}) Refusal). a) Err k (Ok tt)) ≡ look_told k []
check_told_lem k = told_first check_told (λ (a : Result (Unit {0}) Refusal). a) Err (Ok tt) refl (λ x. refl) k

module _ (n : ℕ) (t b : List ℕ) (g : Checkable n t b) where
  pub checks_tree : checks n t b ≡ look_told (Looks.first_refusal (triples_looks n t (tree_of b))) []
  checks_tree = check_told_lem (Looks.first_refusal (check_looks n t b)) ∙ ap (λ (k : Look). look_told k []) (first_on (candidate_looks n t b) (triples_looks n t (tree_of b)) ((check_pass n t b).1 g))

  some : 0 < (nodes b).count
  some = (length_good b g.body.long).0

  pub formed : So (well_formed (tree_of b))
  formed = tree_formed n (nodes b) g.body.good some

  pub bd : Below n (under (tree_of b))
  bd = tree_below n (nodes b) g.body.good some

  pub good_checked : ChecksRight n t (below n) (tree_of b) (checks n t b)
  good_checked = subst (λ (r : Told). ChecksRight n t (below n) (tree_of b) r) (sym checks_tree) (told_of n t (tree_of b) formed bd _ _ refl refl)

  pi_pass : PC (entered t) (below n) (tree_of b) → (look_pi n t (tree_of b) ≡ Ok tt) ↔ PI (entered t) (below n) (tree_of b)
  pi_pass pc =
      let j = first_unsure n t (tree_of b) in
      let k = pi_first n t (tree_of b) formed (inside n t (tree_of b) formed bd) pc in
      ((λ e. k.1 (ltb-false j (C n 3) (pass_false (ltb j (C n 3)) _ e))), λ pi. rw (le-ltb j (C n 3) (k.0 pi)) refl)

  -- "the whole check": PC and PI
  pub checked_passes : ((checks n t b).number ≡ 0) ↔ (PC (entered t) (below n) (tree_of b) × PI (entered t) (below n) (tree_of b))
  checked_passes = zero_good (checks n t b) (Looks.first_refusal (triples_looks n t (tree_of b))) [] checks_tree
      (then_known (look_pc n t (tree_of b) ∷ []) (look_pi n t (tree_of b) ∷ []) (pass_one (look_pc n t (tree_of b)) (pc_pass n t b g)) (λ pc. pass_one (look_pi n t (tree_of b)) (pi_pass pc)))
