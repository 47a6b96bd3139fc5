-- Loosening refuses as the check does, before 12, and then with 9: of any operations that keep demand 1. Assumes nothing.
use mathlib.Core.Bool.{Bool, false, true}
use mathlib.Core.List.{List, [], ◌∷◌}
use mathlib.Core.Logic.{◌≢◌, ◌⊎◌, inl, inr, ⊎_elim}
use mathlib.Core.Path.{◌∙◌, ◌≡◌, ap, refl, subst, sym}
use Prim.Native.Nat.{ℕ}
use native.Mathlib.Omega.{arith}
use lib.Dec.{ltb}
use lib.ListN.{get_or, length}
use Rattle.triples.specs.Index.{C}
use Rattle.bodies.specs.Draws.{tree_of}
use Rattle.answers.proofs.Answered.{first_on, first_stop}
use Rattle.refusals.specs.Told.{Told, Value, told}
use Rattle.answers.specs.Looks.{first_refusal, look_room, look_told, refuse_if}
use Rattle.refusals.specs.declared.Contradiction.{Contradiction}
use Rattle.answers.specs.Looks.{Look}
use Rattle.refusals.specs.declared.Refusal.TheVariants.{Contradicted, ShortRoom, Unforced}
use Rattle.checking.specs.Checks.{candidate_looks, check_looks, first_differs, first_unsure, look_pc, triples_looks}
use Rattle.loosening.specs.Loosens.{loosen_looks}
use Rattle.promises.specs.Demand1.{Demand1}
use Rattle.promises.specs.Loosening.{RefusesAsCheck, ThenNine}
use Rattle.promises.specs.Operations.{Operations}
use Rattle.promises.proofs.Accepted.{accepts, check_pass}
use Rattle.std.specs.Prelude.{Ok, Err}

-- what is told where the looks at the candidate pass: PC fails or not, then PI, or the room and the list
abbrev check_tail : Bool → Bool → Contradiction → ℕ → Told
check_tail p q x j = look_told (first_refusal (refuse_if p (Contradicted x) ∷ refuse_if q (Unforced j) ∷ [])) []

abbrev loosen_tail : Bool → Bool → Bool → Contradiction → List Value → Told
loosen_tail p r s x vs = look_told (first_refusal (refuse_if p (Contradicted x) ∷ refuse_if r ShortRoom ∷ refuse_if s ShortRoom ∷ [])) vs

tail_same : (p q r s : Bool) (x : Contradiction) (j : ℕ) (vs : List Value) → (check_tail p q x j).number ≢ 0 → (check_tail p q x j).number ≢ 12 → loosen_tail p r s x vs ≡ check_tail p q x j
tail_same true q r s x j vs z e = refl
tail_same false true r s x j vs z e = absurd (e refl)
tail_same false false r s x j vs z e = absurd (z refl)

tail_nine : (p q r s : Bool) (x : Contradiction) (j : ℕ) (vs : List Value) → ((check_tail p q x j).number ≡ 0) ⊎ ((check_tail p q x j).number ≡ 12)
    → ((loosen_tail p r s x vs).number ≡ 0) ⊎ (loosen_tail p r s x vs ≡ told 9 [])
tail_nine true q r s x j vs h = absurd (⊎_elim (λ z. omega (arith, z)) (λ z. omega (arith, z)) h)
tail_nine false q true s x j vs h = inr refl
tail_nine false q false true x j vs h = inr refl
tail_nine false q false false x j vs h = inl refl

module _ (n : ℕ) (t b : List ℕ) where
  -- is there a triple at which an entered triplet differs, and which; and one with a triplet that is not forced
  abbrev fails : Bool
  fails = ltb (first_differs n t (tree_of b)) (C n 3)

  abbrev at : Contradiction
  at = record { index = first_differs n t (tree_of b); byte = get_or t (first_differs n t (tree_of b)) 0 }

  abbrev loose : Bool
  loose = ltb (first_unsure n t (tree_of b)) (C n 3)

  check_on : first_refusal (candidate_looks n t b) ≡ Ok tt → look_told (first_refusal (check_looks n t b)) [] ≡ check_tail fails loose at (first_unsure n t (tree_of b))
  check_on e = ap (λ (a : Look). look_told a []) (first_on (candidate_looks n t b) (triples_looks n t (tree_of b)) e)

  -- a room of l bytes, and a list of k places
  module _ (l k : ℕ) (vs : List Value) where
    abbrev last : List Look
    last = look_pc n t (tree_of b) ∷ look_room (length b) l ∷ look_room 62 k ∷ []

    loosen_on : first_refusal (candidate_looks n t b) ≡ Ok tt → look_told (first_refusal (loosen_looks n t b l k)) vs ≡ loosen_tail fails (ltb l (length b)) (ltb k 62) at vs
    loosen_on e = ap (λ (a : Look). look_told a vs) (first_on (candidate_looks n t b) last e)

    same : (a : Look) → first_refusal (candidate_looks n t b) ≡ a → (look_told (first_refusal (check_looks n t b)) []).number ≢ 0 → (look_told (first_refusal (check_looks n t b)) []).number ≢ 12
        → look_told (first_refusal (loosen_looks n t b l k)) vs ≡ look_told (first_refusal (check_looks n t b)) []
    same (Ok _) e z w =
        let c = check_on e in
        loosen_on e
        ∙ tail_same fails loose (ltb l (length b)) (ltb k 62) at (first_unsure n t (tree_of b)) vs (subst (λ (r : Told). r.number ≢ 0) c z) (subst (λ (r : Told). r.number ≢ 12) c w)
        ∙ sym c
    same (Err x) e z w = ap (λ (a : Look). look_told a vs) (first_stop (candidate_looks n t b) last x e)
        ∙ sym (ap (λ (a : Look). look_told a []) (first_stop (candidate_looks n t b) (triples_looks n t (tree_of b)) x e))

    nine : first_refusal (candidate_looks n t b) ≡ Ok tt → (r : Told) → r ≡ look_told (first_refusal (check_looks n t b)) [] → (r.number ≡ 0) ⊎ (r.number ≡ 12)
        → (q : Told) → q ≡ look_told (first_refusal (loosen_looks n t b l k)) vs → (q.number ≡ 0) ⊎ (q ≡ told 9 [])
    nine e r c h q m = subst (λ (x : Told). (x.number ≡ 0) ⊎ (x ≡ told 9 [])) (sym (m ∙ loosen_on e))
        (tail_nine fails loose (ltb l (length b)) (ltb k 62) at (first_unsure n t (tree_of b)) vs (subst (λ (x : Told). (x.number ≡ 0) ⊎ (x.number ≡ 12)) (c ∙ check_on e) h))

module _ (L : Operations) (keeps : Demand1 L) where
  pub refuses_as_check : RefusesAsCheck L.loosen L.check
  refuses_as_check n t b o d z w =
      let c = keeps.checking n t b in
      (keeps.loosening n t b o d).told_is
      ∙ same n t b (length o) (length d) _ (first_refusal (candidate_looks n t b)) refl (subst (λ (r : Told). r.number ≢ 0) c z) (subst (λ (r : Told). r.number ≢ 12) c w)
      ∙ sym c

  pub then_nine : ThenNine L.loosen L.check
  then_nine n t b o d h = nine n t b (length o) (length d) _ ((check_pass n t b).1 (((accepts L keeps).checking n t b).0 (⊎_elim inl (λ z. inr (inr z)) h)))
      (L.check n t b) (keeps.checking n t b) h (L.loosen n t b o d).told (keeps.loosening n t b o d).told_is
