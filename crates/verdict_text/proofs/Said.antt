-- What the line of the check says of a tree that does not pass: a triplet that the tree holds, and that the papers do not force. Assumes nothing.
use mathlib.Core.Bool.{Bool, So, false, true}
use mathlib.Core.List.{List, [], ◌∷◌}
use mathlib.Core.Path.{◌∙◌, ◌≡◌, ap, refl, subst, sym}
use Prim.Native.Nat.{ℕ, ◌<◌}
use native.Mathlib.Omega.{arith}
use borrow.Author.Tests.{lt-ltb, ltb-true}
use lib.Dec.{ltb}
use lib.ListN.{length}
use Rattle.sets.proofs.Bools.{and_l, and_r, not_e, or_case}
use Rattle.sets.proofs.Members.{all_below}
use Rattle.sets.specs.Species.{Below, below}
use Rattle.trees.proofs.Theorems.{forced_exactly}
use Rattle.trees.proofs.Triplets.{different_i}
use Rattle.trees.specs.Check.{Forced, PC, R, sure, unsure}
use Rattle.trees.specs.Trees.{Tree, under, well_formed}
use Rattle.trees.specs.Triplets.{Triplets, different, holds, on_triple}
use Rattle.tables.proofs.Bytes.{entered_proper}
use Rattle.triples.proofs.Find.{first_found}
use Rattle.triples.proofs.Indices.{triple_back}
use Rattle.triples.proofs.Names.{named-index}
use Rattle.tables.specs.Bytes.{entered}
use Rattle.triples.specs.Find.{first_triple}
use Rattle.triples.specs.Index.{C, high_at, index, low_at, mid_at}
use Rattle.triples.specs.Named.{named}
use Rattle.std.specs.Prelude.{Some}
use Rattle.triples.specs.declared.Triple.{Triple}
use Rattle.bodies.specs.Draws.{tree_of}
use Rattle.groups.proofs.Meant.{says_exactly}
use Rattle.groups.specs.Groups.{SaysRight, says}
use Rattle.groups.specs.declared.Says.{Says}
use Rattle.groups.specs.declared.Says.TheVariants.{AB, AC, BC}
use Rattle.answers.proofs.Answered.{first_on, pass_both, pass_one}
use Rattle.answers.proofs.Good.{body_pass, count_pass, table_pass}
use Rattle.answers.specs.Inputs.{Body, Count, Table}
use Rattle.answers.specs.Looks.{answered, first_refusal, look_bytes, look_count, look_length, look_rules, look_table, refuse_if}
use Rattle.refusals.specs.declared.Contradiction.{Contradiction}
use Rattle.answers.specs.Looks.{Look}
use Rattle.refusals.specs.declared.Refusal.TheVariants.{Contradicted, Unforced}
use Rattle.checking.proofs.Judged.{agreed, formed, within}
use Rattle.checking.specs.Checks.{answer_of, candidate_looks, check_answer, first_differs, first_unsure, triples_looks}
use Rattle.verdict_text.proofs.Told.{unforced-told}
use Rattle.verdict_text.specs.Verdict.{closer_text, said_text, triple_text, verdict_text}
use Rattle.std.specs.Prelude.{Ok, Err, Result}
use Rattle.refusals.specs.declared.Refusal.{Refusal}

-- ---- good input

module _ {n : ℕ} {t b : List ℕ} (c : Count n) (k : Table n t) (g : Body n b) where
  -- no look at the input refuses it
  pub candidate_good : first_refusal (candidate_looks n t b) ≡ Ok tt
  candidate_good = (pass_both (look_count n ∷ []) (look_table n (length t) ∷ look_bytes t ∷ look_length 0 (length b) ∷ look_rules 0 n b ∷ [])
      (pass_one (look_count n) (count_pass n))
      (pass_both (look_table n (length t) ∷ look_bytes t ∷ []) (look_length 0 (length b) ∷ look_rules 0 n b ∷ []) (table_pass n t) (body_pass 0 n b))).1 (c, (k, g))

  -- so that the triples decide
  pub check_triples : check_answer n t b ≡ answer_of (triples_looks n t (tree_of b))
  check_triples = ap (λ (a : Look). answered (λ (z : Result (Unit {0}) Refusal). z) Err a (Ok tt)) (first_on (candidate_looks n t b) (triples_looks n t (tree_of b)) candidate_good)

-- ---- refusal 12

unforced_look : (p q : Bool) (x : Contradiction) (j i : ℕ) → answer_of (refuse_if p (Contradicted x) ∷ refuse_if q (Unforced j) ∷ []) ≡ Err (Unforced i)
    → (p ≡ false) × (q ≡ true) × (j ≡ i)
unforced_look true q x j i e = let z : ◌≡◌ {A = ℕ} 0 1 = cc in absurd (omega arith)
unforced_look false true x j i e = (refl, refl, cc)
unforced_look false false x j i e = let z : ◌≡◌ {A = ℕ} 0 1 = cc in absurd (omega arith)

-- the line says ab|c, a < b: the tree of the body holds it, and it is not forced
pub record SaidHolds (n : ℕ) (t body : List ℕ) : Type 0 where
  pub a : ℕ
  pub b : ℕ
  pub c : ℕ
  pub text : verdict_text n t body ≡ closer_text a b c
  pub rising : a < b
  pub held : So (holds (tree_of body) a b c)
  pub not_forced : Forced (R (entered t) (tree_of body)) (below n) a b c → ⊥

module _ (n : ℕ) (t b : List ℕ) (c : Count n) (k : Table n t) (g : Body n b) (i : ℕ) (e : check_answer n t b ≡ Err (Unforced i)) where
  abbrev T : Tree
  T = tree_of b

  abbrev P : Triplets
  P = unsure (entered t) n T

  wf : So (well_formed T)
  wf = formed n b c.most g.good g.long

  bd : Below n (under T)
  bd = within n b c.most g.good g.long

  found : (ltb (first_differs n t T) (C n 3) ≡ false) × (ltb (first_unsure n t T) (C n 3) ≡ true) × (first_unsure n t T ≡ i)
  found = unforced_look _ _ _ (first_unsure n t T) i (sym (check_triples c k g) ∙ e)

  -- the tree passes PC
  passes : PC (entered t) (below n) T
  passes = agreed n t T wf bd (rw found.0 refl)

  place : (first_triple n P ≡ i) × (i < C n 3)
  unfolding first_unsure
  place = (found.2, subst (λ (j : ℕ). j < C n 3) found.2 (ltb-true _ _ found.1))

  abbrev l : ℕ
  l = low_at n i

  abbrev m : ℕ
  m = mid_at n i

  abbrev h : ℕ
  h = high_at n i

  order : (l < m) × (m < h) × (h < n) × (index l m h ≡ i)
  order = triple_back n i place.1

  on : So (on_triple P l m h)
  on = subst (λ (j : ℕ). So (on_triple P (low_at n j) (mid_at n j) (high_at n j))) place.0 (first_found n P (subst (λ (j : ℕ). j < C n 3) (sym place.0) place.1)).0

  abbrev x : Triple
  x = record { low = l; mid = m; high = h }

  is_named : named i ≡ Some x
  is_named = ap named (sym order.3) ∙ named-index l m h order.0 order.1 (omega (arith, order.2, c.most))

  apart : So (different l m h)
  apart = different_i l m h (λ z. omega (arith, order.0, z)) (λ z. omega (arith, order.0, order.1, z)) (λ z. omega (arith, order.1, z))

  right : SaysRight T l m h (says T l m h)
  right = says_exactly T l m h wf apart

  line : (s : Says) → says T l m h ≡ s → verdict_text n t b ≡ said_text x s
  line s q = sym (unforced-told n t b _ refl (Unforced i) e i refl) ∙ ap (triple_text T) is_named ∙ ap (said_text x) q

  said : (u v z : ℕ) → u < v → So (P u v z) → verdict_text n t b ≡ closer_text u v z → SaidHolds n t b
  said u v z r p q =
      let held = and_l (holds T u v z) _ p in
      record {
        a = u;
        b = v;
        c = z;
        text = q;
        rising = r;
        held = held;
        not_forced = λ f. not_e (sure (entered t) n T u v z) (and_r (holds T u v z) _ p)
            ((forced_exactly (entered t) (entered_proper t) n (below n) (all_below n) T wf (λ y i. lt-ltb y n (bd y i)) passes u v z held).0 f);
      }

  -- Where the check answers 12, its line says a triplet that the tree holds and that is not forced by what is entered on the triples that the tree resolves.
  pub said_holds : SaidHolds n t b
  said_holds = or_case (P l m h) _ on
      (λ p. said l m h order.0 p (line AB (right.ab.1 (and_l (holds T l m h) _ p))))
      (λ q. or_case (P l h m) (P m h l) q
      (λ p. said l h m (omega (arith, order.0, order.1)) p (line AC (right.ac.1 (and_l (holds T l h m) _ p))))
      (λ p. said m h l order.1 p (line BC (right.bc.1 (and_l (holds T m h l) _ p)))))
