-- Where a text is refused at place q, a byte may stand there exactly where some text of the form goes on so, and no limit is passed. Assumes nothing.
use mathlib.Core.Bool.{Bool, So, cond, false, false≢true, not, true}
use mathlib.Core.List.{List, [], ◌∷◌, ◌++◌, append-nil}
use mathlib.Core.Logic.{◌↔◌, inl, inr}
use mathlib.Core.Path.{◌∙◌, ◌≡◌, ap, refl, subst, sym}
use Prim.Native.Nat.{ℕ, suc, ◌+◌, ◌-◌, ◌<◌, ◌≤◌}
use native.Mathlib.Decide.{dec_lt}
use native.Mathlib.Omega.{arith}
use borrow.Author.Tests.{not-true}
use lib.ListN.{length, length-append, take}
use lib.Seq.{length-take-le, take_all, take-append-le, take-take}
use Rattle.bodies.specs.Nodes.{longest}
use Rattle.newick.proofs.Finds.{form_found}
use Rattle.newick.proofs.Places.{completes}
use Rattle.newick.proofs.Signs.{one}
use Rattle.newick.proofs.Theorems.{refused_at, taken_is}
use Rattle.newick.specs.Form.{Form}
use Rattle.newick.specs.Place.{Begins, Place, Wrong, closes, deep, early, fresh, large, many, nodes_begun, opens, spot, stray}
use Rattle.newick.specs.Scan.{Move, Scanned, State, act, follow, go, halt, outset, past_limit, scan, scan_from, stuck, taken}
use Rattle.newick.specs.Signs.{sign}
use Rattle.newick.specs.Texts.{RefusedAt, longest_text}
use Rattle.parsing.specs.Parses.{parse_answer}
use Rattle.places.specs.Causes.{most_species}
use Rattle.standing.specs.Expected.{may_stand, stops_at}
use Rattle.standing.specs.Stands.{GoesOn}
use Rattle.places.proofs.Answers.{answer_at, at_answer, refused_inside}
use Rattle.standing.proofs.Stops.{is_stops, stops_is}

-- ---- a text that only ends early goes on

on_from : (u : List ℕ) (s : State) → scan_from true s u ≡ stuck 0 → (v b : List ℕ) × (scan_from false s (u ++ v) ≡ taken b)
unfolding scan_from
on_from [] s h = completes s
on_from (c ∷ u) s h = by (past_limit s (sign c)) (act s (sign c)) refl h (on_from u)
  where
    by : (o : Bool) (m : Move) → act s (sign c) ≡ m → follow (suc (length u)) (λ s'. scan_from true s' u) (cond o halt m) ≡ stuck 0
        → ((s' : State) → scan_from true s' u ≡ stuck 0 → (v b : List ℕ) × (scan_from false s' (u ++ v) ≡ taken b)) → (v b : List ℕ) × (scan_from false s (c ∷ (u ++ v)) ≡ taken b)
    by true m e k f = let z : suc (length u) ≡ 0 = cc in absurd (omega arith)
    by false halt e k f = let z : suc (length u) ≡ 0 = cc in absurd (omega arith)
    by false (go s') e k f = let g = f s' k in (g.0, g.1, one s s' c (u ++ g.0) e ∙ g.2)

early_begins : (u : List ℕ) → scan u ≡ stuck 0 → Begins u
early_begins u h = let k = on_from u outset h in let f = form_found (u ++ k.0) k.1 k.2 in (f.0, k.0, f.1)

-- ---- what is wrong before the end of u is wrong in t, where u and t are the same so far

sooner : (t u : List ℕ) (q : ℕ) → q < length t → q < length u → take (suc q) u ≡ take (suc q) t → Wrong u q → Wrong t q
sooner t u q l k e (stray _ h) = stray l (λ b. h (subst Begins (sym e) b))
sooner t u q l k e (early i h) = absurd (omega arith)
sooner t u q l k e (deep _ h) = deep l (subst (λ (x : List ℕ). 63 + closes x < opens x) e h)
sooner t u q l k e (many _ h) = many l (subst (λ (x : List ℕ). 127 < nodes_begun fresh x) e h)
sooner t u q l k e (large v _ i h) = large v l (ap (spot fresh) (sym e) ∙ i) h

-- ---- the byte b at place q

module _ (t : List ℕ) (q b : ℕ) where
  abbrev next : List ℕ
  next = take q t ++ (b ∷ [])

  module _ (l : q ≤ length t) where
    next_long : length next ≡ q + 1
    next_long = omega (arith, length-append (take q t) (b ∷ []), length-take-le q t l)

    next_all : take (suc q) next ≡ next
    next_all = take_all (suc q) next (omega (arith, next_long))

    next_same : (j : ℕ) → j < q → take (suc j) next ≡ take (suc j) t
    next_same j h = take-append-le (suc j) (take q t) (b ∷ []) (omega (arith, length-take-le q t l)) ∙ take-take (suc j) q t (omega arith)

    -- nothing is wrong at its last byte exactly where it goes on
    fine_last : GoesOn next → Wrong next q → ⊥
    fine_last g (stray _ h) = h (subst Begins (sym next_all) g.begins)
    fine_last g (early e h) = omega (arith, next_long)
    fine_last g (deep _ h) = let z = subst (λ (x : List ℕ). 63 + closes x < opens x) next_all h in omega (arith, g.depth)
    fine_last g (many _ h) = let z = subst (λ (x : List ℕ). 127 < nodes_begun fresh x) next_all h in omega (arith, g.count)
    fine_last g (large v _ e h) = omega (arith, g.number v (ap (spot fresh) (sym next_all) ∙ e))

    last_fine : Begins next → (Wrong next q → ⊥) → GoesOn next
    last_fine g f = record {
      begins = g;
      depth = at_most (opens next) (63 + closes next) (λ h. f (deep inside (subst (λ (x : List ℕ). 63 + closes x < opens x) (sym next_all) h)));
      count = at_most (nodes_begun fresh next) 127 (λ h. f (many inside (subst (λ (x : List ℕ). 127 < nodes_begun fresh x) (sym next_all) h)));
      number = λ v e. at_most v 254 (λ h. f (large v inside (ap (spot fresh) next_all ∙ e) h));
    }
      where
        at_most : (x y : ℕ) → (y < x → ⊥) → x ≤ y
        at_most x y h = omega arith

        inside : q < length next
        inside = omega (arith, next_long)

    -- nothing is wrong before q
    module _ (f : (j : ℕ) → j < q → Wrong t j → ⊥) where
      goes_on : (Place next q → ⊥) → GoesOn next
      goes_on n = by (scan next) refl
        where
          by : (r : Scanned) → scan next ≡ r → GoesOn next
          by (taken x) e = let k = taken_is next x e in last_fine (k.0, [], subst (Form k.0) (sym (append-nil next)) k.1) (k.3 q)
          by (stuck m) e = placed (refused_at next m e) (dec_lt (length next - m) q) (dec_lt q (length next - m))
            where
              placed : (m ≤ length next) × Place next (length next - m) → Dec (length next - m < q) → Dec (q < length next - m) → GoesOn next
              placed r (yes h) d = absurd (f (length next - m) h (sooner t next (length next - m) (omega arith) (omega (arith, next_long)) (next_same (length next - m) h) r.1.wrong))
              placed r (no h) (yes k) = let z : m ≡ 0 = omega (arith, next_long, r.0) in last_fine (early_begins next (e ∙ ap stuck z)) (r.1.first q k)
              placed r (no h) (no k) = let z : length next - m ≡ q = omega arith in absurd (n (subst (Place next) z r.1))

  -- the text t is refused at q, and it is not too long
  pub may_stand_exactly : RefusedAt t q → q < longest_text → So (may_stand t q b) ↔ GoesOn next
  unfolding may_stand
  may_stand_exactly r l = (there, λ g. back g (stops_at q (parse_answer most_species next longest)) refl)
    where
      inside : q ≤ length t
      inside = refused_inside t q r

      sound : RefusedAt t q → (j : ℕ) → j < q → Wrong t j → ⊥
      sound (inl h) = absurd (omega (arith, h.1))
      sound (inr h) = h.1.first

      there : So (not (stops_at q (parse_answer most_species next longest))) → GoesOn next
      there h =
          goes_on inside (sound r)
          (λ k. false≢true (sym (not-true _ h) ∙ is_stops q (parse_answer most_species next longest) (answer_at next longest q (inr (omega (arith, next_long inside), k)))))

      wrong_next : RefusedAt next q → Wrong next q
      wrong_next (inl h) = absurd (omega (arith, h.0, next_long inside))
      wrong_next (inr h) = h.1.wrong

      back : GoesOn next → (o : Bool) → stops_at q (parse_answer most_species next longest) ≡ o → So (not (stops_at q (parse_answer most_species next longest)))
      back g true e = let x = stops_is q (parse_answer most_species next longest) e in absurd (fine_last inside g (wrong_next (at_answer next longest x.0 q x.1 x.2)))
      back g false e = ap not e
