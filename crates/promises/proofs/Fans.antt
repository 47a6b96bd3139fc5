-- Two tables that differ in the bits 8 alone say the same triplets: the same is built of them, and loosened by them, and the check answers the same, but for the byte
-- that 11 returns. Assumes nothing.
use mathlib.Core.Bool.{Bool, ◌&&◌, false, true}
use mathlib.Core.List.{List, [], ◌∷◌, ◌++◌}
use mathlib.Core.Logic.{inl, inr}
use mathlib.Core.Path.{◌∙◌, ◌≡◌, ap, ap₂, fun_ext, refl, subst, sym}
use Prim.Native.Nat.{ℕ}
use native.Mathlib.Omega.{arith}
use lib.Dec.{ltb}
use lib.ListN.{get_or, length}
use Rattle.sets.specs.Sets.{has, size}
use Rattle.trees.specs.Build.{Outcome, build_by}
use Rattle.trees.specs.Check.{differs, unsure}
use Rattle.trees.specs.Loosen.{Loosened, loosened}
use Rattle.trees.specs.Triplets.{Triplets, different}
use Rattle.trees.specs.Visits.{looked}
use Rattle.tables.proofs.Limits.{small_exactly}
use Rattle.tables.proofs.Places.{bit_most}
use Rattle.tables.specs.Bytes.{Small, bit_of, entered, place_of}
use Rattle.triples.specs.Find.{first_triple}
use Rattle.triples.specs.Index.{C}
use Rattle.bodies.specs.Draws.{tree_of}
use Rattle.bodies.specs.Nodes.{room_for}
use Rattle.outside.specs.Reaches.{Enclosed}
use Rattle.answers.proofs.Answered.{first_append}
use Rattle.refusals.specs.Told.{Told}
use Rattle.answers.specs.Looks.{after, look_then, answered, first_refusal, look_bytes, look_count, look_length, look_room, look_rules, look_table, refuse_if}
use Rattle.answers.specs.Looks.{Look}
use Rattle.refusals.specs.declared.Refusal.TheVariants.{Contradicted, Unforced}
use Rattle.admitting.proofs.Chosen.{outside_pass}
use Rattle.building.specs.Builds.{build_done, build_room, build_told, counted_done, counted_refused, look_outcome, looked_by, outcome_by}
use Rattle.admitting.specs.GoodSet.{look_outside, look_set}
use Rattle.checking.specs.Checks.{check_told, first_differs, first_unsure, look_pc, look_pi, triples_looks}
use Rattle.easing.specs.Eases.{Lent, eased, laid_out, lent, tally}
use Rattle.loosening.specs.Loosens.{loosen_told}
use Rattle.promises.specs.Fans.{FansApart, FansAside, SameVerdict}
use Rattle.promises.specs.Operations.{Given, GivenOf, builds, checks, gives, koodhaxil, loosens, vetoes}
use Rattle.std.specs.Prelude.{Ok, Err, Result}
use Rattle.refusals.specs.declared.Refusal.{Refusal}

bytes_pass : (t : List ℕ) → ((i : ℕ) → Small (get_or t i 0)) → look_bytes t ≡ Ok tt
bytes_pass t h = rw ((small_exactly t).1 h) refl

module _ (t t' : List ℕ) (f : FansApart t t') where
  -- the bit of a triplet is never the fan's
  same_entered : entered t ≡ entered t'
  unfolding entered
  same_entered = fun_ext (λ a. fun_ext (λ b. fun_ext (λ c.
      ap (λ (x : Bool). different a b c && x) (f.bits (place_of a b c) (bit_of a b c) (λ e. omega (arith, e, bit_most a b c))))))

  same_bytes : look_bytes t ≡ look_bytes t'
  same_bytes = bytes_pass t f.small ∙ sym (bytes_pass t' f.small')

  module _ (n s : ℕ) where
    same_outcome : (v : Bool) → outcome_by v n s t ≡ outcome_by v n s t'
    unfolding outcome_by
    same_outcome v = ap (λ (E : Triplets). build_by v E n (has s)) same_entered

    same_count : (v : Bool) → looked_by v n s t ≡ looked_by v n s t'
    unfolding looked_by
    same_count v = ap (λ (E : Triplets). looked v E n (has s)) same_entered

    -- either build, with its looks at the outcome behind those at the input
    module _ (v : Bool) (last : Outcome → List Look) (o : List ℕ) where
      abbrev looks : ℕ → Look → Look → Outcome → List Look
      looks l k w R = (look_count n ∷ look_table n l ∷ k ∷ look_set n s ∷ w ∷ look_room (room_for (size s)) (length o) ∷ []) ++ last R

      -- what is given where the table has l bytes, the looks at its bytes and outside the set come to k and w, the outcome is R, and c triples are looked at
      abbrev given : ℕ → Look → Look → Outcome → ℕ → Given
      given l k w R c = gives (build_told (answered (counted_done c) (counted_refused c) (first_refusal (looks l k w R)) (build_done R))) (after (first_refusal (looks l k w R)) (build_room R o) o)

      same_given : Enclosed n s t → Enclosed n s t'
          → given (length t) (look_bytes t) (look_outside n s t) (outcome_by v n s t) (looked_by v n s t) ≡ given (length t') (look_bytes t') (look_outside n s t') (outcome_by v n s t') (looked_by v n s t')
      same_given e e' =
          ap₂ (λ (l : ℕ) (k : Look). given l k (look_outside n s t) (outcome_by v n s t) (looked_by v n s t)) f.long same_bytes
          ∙ ap (λ (w : Look). given (length t') (look_bytes t') w (outcome_by v n s t) (looked_by v n s t)) ((outside_pass n s t).1 e ∙ sym ((outside_pass n s t').1 e'))
          ∙ ap₂ (given (length t') (look_bytes t') (look_outside n s t')) (same_outcome v) (same_count v)

    same_built : (o : List ℕ) → Enclosed n s t → Enclosed n s t' → builds n s t o ≡ builds n s t' o
    same_built o e e' = same_given false (λ R. look_outcome R ∷ []) o e e'

    -- the veto build looks at no outcome
    same_vetoed : (o : List ℕ) → Enclosed n s t → Enclosed n s t' → vetoes n s t o ≡ vetoes n s t' o
    same_vetoed o e e' = same_given true (λ R. []) o e e'

  module _ (n : ℕ) (b : List ℕ) where
    abbrev front : List ℕ → List Look
    front u = look_count n ∷ look_table n (length u) ∷ look_bytes u ∷ look_length 0 (length b) ∷ look_rules 0 n b ∷ []

    -- what is told where the looks before come to A, an entered triplet differs at the triple j with the byte v, or nowhere, and P is the look at what is forced
    abbrev told_of' : Look → Bool → ℕ → ℕ → Look → Told
    told_of' A c j v P = check_told (answered (λ (a : Result (Unit {0}) Refusal). a) Err (look_then A (look_then (refuse_if c (Contradicted (record { index = j; byte = v }))) (look_then P (Ok tt)))) (Ok tt))

    told_is : (u : List ℕ) → checks n u b ≡ told_of' (first_refusal (front u)) (ltb (first_differs n u (tree_of b)) (C n 3)) (first_differs n u (tree_of b)) (get_or u (first_differs n u (tree_of b)) 0) (look_pi n u (tree_of b))
    told_is u = ap (λ (k : Look). check_told (answered (λ (a : Result (Unit {0}) Refusal). a) Err k (Ok tt))) (first_append (front u) (triples_looks n u (tree_of b)))

    verdict : (A : Look) (c : Bool) (j : ℕ) (P : Look) → SameVerdict t t' (told_of' A c j (get_or t j 0) P) (told_of' A c j (get_or t' j 0) P)
    verdict (Ok _) true j P = inr (j, refl, refl)
    verdict (Ok _) false j P = inl refl
    verdict (Err x) c j P = inl refl

    same_front : first_refusal (front t) ≡ first_refusal (front t')
    same_front = ap₂ (λ (l : ℕ) (k : Look). first_refusal (look_count n ∷ look_table n l ∷ k ∷ look_length 0 (length b) ∷ look_rules 0 n b ∷ [])) f.long same_bytes

    same_differs : first_differs n t (tree_of b) ≡ first_differs n t' (tree_of b)
    unfolding first_differs
    same_differs = ap (λ (E : Triplets). first_triple n (differs E (tree_of b))) same_entered

    same_unsure : first_unsure n t (tree_of b) ≡ first_unsure n t' (tree_of b)
    unfolding first_unsure
    same_unsure = ap (λ (E : Triplets). first_triple n (unsure E n (tree_of b))) same_entered

    same_checked : SameVerdict t t' (checks n t b) (checks n t' b)
    same_checked =
        let T = tree_of b in
        let d = first_differs n t T in
        subst (λ (x : Told). SameVerdict t t' x (checks n t' b)) (sym (told_is t)) (subst (SameVerdict t t' _)
        (ap₂ (λ (A : Look) (j : ℕ). told_of' A (ltb j (C n 3)) j (get_or t' j 0) (look_pi n t T)) same_front same_differs
        ∙ ap (λ (j : ℕ). told_of' (first_refusal (front t')) (ltb (first_differs n t' T) (C n 3)) (first_differs n t' T) (get_or t' (first_differs n t' T) 0) (refuse_if (ltb j (C n 3)) (Unforced j))) same_unsure
        ∙ sym (told_is t'))
        (verdict (first_refusal (front t)) (ltb d (C n 3)) d (look_pi n t T)))

    -- ---- loosening, lent the room o and the list d

    module _ (o d : List ℕ) where
      -- the looks where those at the candidate come to A, an entered triplet differs at the triple j with the byte v, or nowhere
      abbrev loose_look : Look → Bool → ℕ → ℕ → Look
      loose_look A c j v = look_then A (look_then (refuse_if c (Contradicted (record { index = j; byte = v }))) (look_then (look_room (length b) (length o)) (look_then (look_room 62 (length d)) (Ok tt))))

      -- what is given where those looks come to k, and the loosening to r
      abbrev loosed_of : Look → Loosened → GivenOf Lent
      loosed_of k r = gives (loosen_told (answered Ok Err k (tally r))) (after k (laid_out r (lent o d)) (lent o d))

      abbrev look_by : List ℕ → Look
      look_by u = loose_look (first_refusal (front u)) (ltb (first_differs n u (tree_of b)) (C n 3)) (first_differs n u (tree_of b)) (get_or u (first_differs n u (tree_of b)) 0)

      loosed_is : (u : List ℕ) → loosens n u b o d ≡ loosed_of (look_by u) (eased n u b)
      loosed_is u = ap (λ (k : Look). loosed_of k (eased n u b)) (first_append (front u) (look_pc n u (tree_of b) ∷ look_room (length b) (length o) ∷ look_room 62 (length d) ∷ []))

      abbrev SameLoosed : GivenOf Lent → GivenOf Lent → Type 0
      SameLoosed g g' = SameVerdict t t' g.told g'.told × (g.after ≡ g'.after)

      loosed_alike : (A : Look) (c : Bool) (j : ℕ) (r : Loosened) → SameLoosed (loosed_of (loose_look A c j (get_or t j 0)) r) (loosed_of (loose_look A c j (get_or t' j 0)) r)
      loosed_alike (Ok _) true j r = (inr (j, refl, refl), refl)
      loosed_alike (Ok _) false j r = (inl refl, refl)
      loosed_alike (Err x) c j r = (inl refl, refl)

      same_eased : eased n t b ≡ eased n t' b
      unfolding eased
      same_eased = ap (λ (E : Triplets). loosened E n (tree_of b)) same_entered

      same_loosened : SameLoosed (loosens n t b o d) (loosens n t' b o d)
      same_loosened =
          let j = first_differs n t (tree_of b) in
          subst (λ (g : GivenOf Lent). SameLoosed g (loosens n t' b o d)) (sym (loosed_is t)) (subst (SameLoosed _)
          (ap₂ (λ (A : Look) (i : ℕ). loosed_of (loose_look A (ltb i (C n 3)) i (get_or t' i 0)) (eased n t b)) same_front same_differs
          ∙ ap (loosed_of (look_by t')) same_eased
          ∙ sym (loosed_is t'))
          (loosed_alike (first_refusal (front t)) (ltb j (C n 3)) j (eased n t b)))

pub fans_aside : FansAside koodhaxil
fans_aside = record {
  building = λ n s t t' o f e e'. same_built t t' f n s o e e';
  vetoing = λ n s t t' o f e e'. same_vetoed t t' f n s o e e';
  checking = λ n t t' b f. same_checked t t' f n b;
  loosening = λ n t t' b o d f. same_loosened t t' f n b o d;
}
