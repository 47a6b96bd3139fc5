-- Subtrees and lists of them, over the places of a text and the nodes of a draft: what each way through the two readers comes to. Assumes nothing.
use Rattle.std.proofs.Common.{Result, Ok, Err}
use mathlib.Core.Bool.{So, false, true, ◌||◌}
use mathlib.Core.List.{List, ◌∷◌, ◌++◌}
use mathlib.Core.Logic.{◌⊎◌, inl, inr}
use mathlib.Core.Path.{◌∙◌, ◌≡◌, ap, refl, subst, sym}
use Prim.Native.Nat.{ℕ, suc, ◌+◌, ◌*◌, ◌<◌, ◌≤◌}
use native.Mathlib.Numerals.{add-one}
use native.Mathlib.Omega.{arith}
use borrow.Author.Tests.{eq-eqb, ne_eqb}
use lib.Dec.{eqb}
use lib.ListN.{drop, get_or, length, take}
use lib.Seq.{sets}
use Rattle.sets.proofs.Bools.{or_l, or_r}
use Rattle.bodies.proofs.Puts.{front_more, inner_width, leaf_width}
use Rattle.bodies.specs.Nodes.{body_length, inner_bytes, leaf_bytes, longest, most_nodes, width}
use Rattle.newick.specs.Form.{digit}
use Rattle.newick.specs.Scan.{act, behind, past_limit, scan_from, start, state, innermost}
use Rattle.newick.specs.Signs.{Sign, closing, colon, comma, figure, foreign, opening, point, semicolon, sign, space}
use Rattle.newick.proofs.Signs.{digit-sign}
use Rattle.numerals.specs.Goes.{Branched, Goes, Numbered, PastBlanks, Stops}
use Rattle.subtrees.specs.Subtrees.{ListRead, SubtreeRead}
use Rattle.numerals.specs.declared.BadPlace.{BadPlace}
use Rattle.numerals.specs.declared.Got.{Got}
use Rattle.numerals.specs.declared.Numeral.{Numeral}
use Rattle.numerals.proofs.Lengths.{not-closing, not_comma, not_figure, not_opening, not_space, start_idle, start_off}
use Rattle.numerals.proofs.Steps.{Off, goes_off, goes_on, goes_out}

-- an opening bracket
open_goes : (w : List ℕ) (i : ℕ) (ps : List ℕ) (n : ℕ) (d : List ℕ) → i < length w → get_or w i 0 ≡ 40 → length ps < 63 → n < most_nodes
    → Goes w (state start ps n d) i (state start (n ∷ ps) (suc n) (d ++ inner_bytes (innermost ps))) (i + 1)
unfolding act past_limit sign
open_goes w i ps n d l e p k =
    goes_on w i _ _ l (ap (λ (c : ℕ). past_limit (state start ps n d) (sign c)) e ∙ rw (ne_eqb (length ps) 63 (λ x. omega arith), ne_eqb n most_nodes (λ x. omega arith)) refl)
    (ap (λ (c : ℕ). act (state start ps n d) (sign c)) e)

open_off : (w : List ℕ) (i : ℕ) (ps : List ℕ) (n : ℕ) (d : List ℕ) → i < length w → get_or w i 0 ≡ 40 → (length ps ≡ 63) ⊎ (n ≡ most_nodes) → Stops w (state start ps n d) i i
unfolding act past_limit sign
open_off w i ps n d l e f = goes_off w i _ l (inl (ap (λ (c : ℕ). past_limit (state start ps n d) (sign c)) e ∙ by f))
  where
    by : (length ps ≡ 63) ⊎ (n ≡ most_nodes) → (eqb (length ps) 63 || eqb n most_nodes) ≡ true
    by (inl x) = or_l (eqb (length ps) 63) (eqb n most_nodes) (eq-eqb (length ps) 63 x)
    by (inr x) = or_r (eqb (length ps) 63) (eqb n most_nodes) (eq-eqb n most_nodes x)

digit_off : (w : List ℕ) (i : ℕ) (ps : List ℕ) (n : ℕ) (d : List ℕ) → i < length w → So (digit (get_or w i 0)) → n ≡ most_nodes → Stops w (state start ps n d) i i
unfolding past_limit
digit_off w i ps n d l h e = goes_off w i _ l (inl (ap (past_limit (state start ps n d)) (digit-sign (get_or w i 0) h) ∙ eq-eqb n most_nodes e))

-- ---- a subtree from place i on; its first sign stands at k

module _ (w : List ℕ) (i k parent depth count : ℕ) (o : List ℕ) (skip : PastBlanks w i k) (len : length o ≡ longest) where
  -- every refusal of it leaves the draft's length
  refused : (q : ℕ) (o' : List ℕ) → q ≤ length w → length o' ≡ longest → ((ps : List ℕ) → length ps ≡ depth → innermost ps ≡ parent → Stops w (state start ps count (take (body_length count) o)) k q)
      → SubtreeRead w i parent depth count o o' (Err (record { 0 = q }))
  refused q o' l e f = record { kept = e; ahead = l; solid = tt; reads = λ ps a b. skip.goes _ (start_idle ps count (take (body_length count) o)) ∙ f ps a b }

  pub subtree_out : length w ≤ k → SubtreeRead w i parent depth count o o (Err (record { 0 = k }))
  subtree_out h = refused k o skip.within len (λ ps a b. goes_out w k _ (omega (arith, skip.within)) refl)

  pub subtree-over : k < length w → get_or w k 0 ≡ 40 → (depth ≡ 63) ⊎ (count ≡ most_nodes) → SubtreeRead w i parent depth count o o (Err (record { 0 = k }))
  subtree-over l e f = refused k o skip.within len (λ ps a b. open_off w k ps count _ l e (by ps a f))
    where
      by : (ps : List ℕ) → length ps ≡ depth → (depth ≡ 63) ⊎ (count ≡ most_nodes) → (length ps ≡ 63) ⊎ (count ≡ most_nodes)
      by ps a (inl x) = inl (a ∙ x)
      by ps a (inr x) = inr x

  pub subtree_stray : k < length w → (get_or w k 0 ≡ 40 → ⊥) → digit (get_or w k 0) ≡ false → SubtreeRead w i parent depth count o o (Err (record { 0 = k }))
  subtree_stray l e f =
      let c = get_or w k 0 in
      refused k o skip.within len (λ ps a b. goes_off w k _ l (start_off ps count _ (sign c) (not_figure c f) (not_space c (skip.solid l)) (not_opening c e)))

  pub subtree_many : k < length w → So (digit (get_or w k 0)) → count ≡ most_nodes → SubtreeRead w i parent depth count o o (Err (record { 0 = k }))
  subtree_many l h e = refused k o skip.within len (λ ps a b. digit_off w k ps count _ l h e)

  pub subtree_no_number : count < most_nodes → (q : BadPlace) → Numbered w k (Err q) → SubtreeRead w i parent depth count o o (Err q)
  subtree_no_number h q x = refused q.0 o x.0 len (λ ps a b. x.1 ps count _ h)

  -- the draft once its own node was written, of the bytes e under its parent
  module _ (o₁ : List ℕ) (e : ℕ → List ℕ) (wide : length (e parent) ≡ width) (h : count < most_nodes) (q : o₁ ≡ sets o (width * count) (e parent)) where
    drafted : (ps : List ℕ) → innermost ps ≡ parent → take (body_length count) o ++ e (innermost ps) ≡ take (body_length (suc count)) o₁
    drafted ps b = ap (λ (p : ℕ). take (body_length count) o ++ e p) b ∙ sym (front_more o count (e parent) wide (omega arith)) ∙ ap (take (body_length (suc count))) (sym q)

  -- behind the subtree itself, at place j in the draft o': a length, or none
  closes : (j m : ℕ) (o' : List ℕ) (r : Result Got BadPlace) → k < j → m ≤ most_nodes → length o' ≡ longest
      → ((ps : List ℕ) → length ps ≡ depth → innermost ps ≡ parent → Goes w (state start ps count (take (body_length count) o)) k (state (behind true) ps m (take (body_length m) o')) j)
      → Branched w j m r → SubtreeRead w i parent depth count o o' r
  closes j m o' (Ok y) l f e g x = record {
    kept = e;
    ahead = (omega (arith, skip.ahead, x.0), x.1, omega (arith, x.2));
    solid = x.3;
    reads = λ ps a b. skip.goes _ (start_idle ps count (take (body_length count) o)) ∙ g ps a b ∙ x.4 ps m (take (body_length m) o')
        ∙ ap (λ (u : ℕ). scan_from true (state (behind false) ps u (take (body_length u) o')) (drop y.end w)) (sym x.2);
  }
  closes j m o' (Err q) l f e g x = refused q.0 o' x.0 e (λ ps a b. g ps a b ∙ x.1 ps m (take (body_length m) o'))

  pub subtree-number : (h : count < most_nodes) (y : Numeral) (o₁ : List ℕ) (r : Result Got BadPlace) → Numbered w k (Ok y) → o₁ ≡ sets o (width * count) (leaf_bytes parent y.value) → length o₁ ≡ longest → Branched w y.end (count + 1) r
      → SubtreeRead w i parent depth count o o₁ r
  subtree-number h y o₁ r x e l b =
      closes y.end (count + 1) o₁ r x.0 (omega arith) l
      (λ ps a q. x.2 ps count (take (body_length count) o) h
      ∙ ap (λ (d : List ℕ). scan_from true (state (behind true) ps (suc count) d) (drop y.end w)) (drafted o₁ (λ p. leaf_bytes p y.value) (leaf_width parent y.value) h e ps q)
      ∙ ap (λ (u : ℕ). scan_from true (state (behind true) ps u (take (body_length u) o₁)) (drop y.end w)) (sym (add-one count)))
      b

  -- from the bracket to its list
  opened : (h : count < most_nodes) → depth < 63 → k < length w → get_or w k 0 ≡ 40 → (o₁ : List ℕ) → o₁ ≡ sets o (width * count) (inner_bytes parent)
      → (ps : List ℕ) → length ps ≡ depth → innermost ps ≡ parent
      → Goes w (state start ps count (take (body_length count) o)) k (state start (count ∷ ps) (count + 1) (take (body_length (count + 1)) o₁)) (k + 1)
  opened h f l e o₁ q ps a b =
      open_goes w k ps count _ l e (omega arith) h
      ∙ ap (λ (d : List ℕ). scan_from true (state start (count ∷ ps) (suc count) d) (drop (k + 1) w)) (drafted o₁ inner_bytes (inner_width parent) h q ps b)
      ∙ ap (λ (u : ℕ). scan_from true (state start (count ∷ ps) u (take (body_length u) o₁)) (drop (k + 1) w)) (sym (add-one count))

  pub subtree_bracket : (h : count < most_nodes) → depth < 63 → k < length w → get_or w k 0 ≡ 40 → (o₁ o₂ : List ℕ) → o₁ ≡ sets o (width * count) (inner_bytes parent) → (y : Got) (r : Result Got BadPlace)
      → ListRead w (k + 1) count (depth + 1) (count + 1) o₁ o₂ (Ok y) → Branched w y.end y.nodes r → SubtreeRead w i parent depth count o o₂ r
  subtree_bracket h f l e o₁ o₂ q y r x b =
      closes y.end y.nodes o₂ r (omega (arith, x.ahead.0)) x.ahead.2 x.kept (λ ps a c. opened h f l e o₁ q ps a c ∙ x.reads ps (omega arith)) b

  pub subtree_no_list : (h : count < most_nodes) → depth < 63 → k < length w → get_or w k 0 ≡ 40 → (o₁ o₂ : List ℕ) → o₁ ≡ sets o (width * count) (inner_bytes parent) → (y : BadPlace)
      → ListRead w (k + 1) count (depth + 1) (count + 1) o₁ o₂ (Err y) → SubtreeRead w i parent depth count o o₂ (Err y)
  subtree_no_list h f l e o₁ o₂ q y x = refused y.0 o₂ x.ahead x.kept (λ ps a b. opened h f l e o₁ q ps a b ∙ x.reads ps (omega arith))

-- ---- a list

-- behind a subtree in a bracket
module _ (w : List ℕ) (p : ℕ) (ps : List ℕ) (n : ℕ) (d : List ℕ) (j : ℕ) where
  shut_goes : j < length w → get_or w j 0 ≡ 41 → Goes w (state (behind false) (p ∷ ps) n d) j (state (behind true) ps n d) (j + 1)
  unfolding act past_limit sign
  shut_goes l e = goes_on w j _ _ l refl (ap (λ (c : ℕ). act (state (behind false) (p ∷ ps) n d) (sign c)) e)

  again_goes : j < length w → get_or w j 0 ≡ 44 → Goes w (state (behind false) (p ∷ ps) n d) j (state start (p ∷ ps) n d) (j + 1)
  unfolding act past_limit sign
  again_goes l e = goes_on w j _ _ l refl (ap (λ (c : ℕ). act (state (behind false) (p ∷ ps) n d) (sign c)) e)

  behind_off : (g : Sign) → (g ≡ space → ⊥) → (g ≡ closing → ⊥) → (g ≡ comma → ⊥) → Off (state (behind false) (p ∷ ps) n d) g
  unfolding act
  behind_off space a b c = absurd (a refl)
  behind_off (figure x) a b c = inr refl
  behind_off opening a b c = inr refl
  behind_off closing a b c = absurd (b refl)
  behind_off comma a b c = absurd (c refl)
  behind_off colon a b c = inr refl
  behind_off point a b c = inr refl
  behind_off semicolon a b c = inr refl
  behind_off foreign a b c = inr refl

-- what is read of a list up to place i, with n nodes in the draft o'
pub record Listing (w : List ℕ) (at parent depth count : ℕ) (o : List ℕ) (i n : ℕ) (o' : List ℕ) : Type 0 where
  pub ahead : at ≤ i
  pub within : i ≤ length w
  pub few : n ≤ most_nodes
  pub kept : length o' ≡ longest
  pub goes : (ps : List ℕ) → suc (length ps) ≡ depth → Goes w (state start (parent ∷ ps) count (take (body_length count) o)) at (state start (parent ∷ ps) n (take (body_length n) o')) i

module _ (w : List ℕ) (at parent depth count : ℕ) (o : List ℕ) (i n : ℕ) (o' o'' : List ℕ) (L : Listing w at parent depth count o i n o') where
  module _ (g : Got) (x : SubtreeRead w i parent depth n o' o'' (Ok g)) where
    behind_it : (ps : List ℕ) → suc (length ps) ≡ depth → Goes w (state start (parent ∷ ps) count (take (body_length count) o)) at (state (behind false) (parent ∷ ps) g.nodes (take (body_length g.nodes) o'')) g.end
    behind_it ps e = L.goes ps e ∙ x.reads (parent ∷ ps) e refl

    pub list_out : length w ≤ g.end → ListRead w at parent depth count o o'' (Err (record { 0 = g.end }))
    list_out h = record { kept = x.kept; ahead = x.ahead.1; reads = λ ps e. behind_it ps e ∙ goes_out w g.end _ (omega (arith, x.ahead.1)) refl }

    pub list_shut : g.end < length w → get_or w g.end 0 ≡ 41 → ListRead w at parent depth count o o'' (Ok (record { end = g.end + 1; nodes = g.nodes }))
    list_shut h c = record {
      kept = x.kept;
      ahead = (omega (arith, L.ahead, x.ahead.0), omega arith, x.ahead.2);
      reads = λ ps e. behind_it ps e ∙ shut_goes w parent ps g.nodes (take (body_length g.nodes) o'') g.end h c;
    }

    pub list_stray : g.end < length w → (get_or w g.end 0 ≡ 41 → ⊥) → (get_or w g.end 0 ≡ 44 → ⊥) → ListRead w at parent depth count o o'' (Err (record { 0 = g.end }))
    list_stray h a b =
        let c = get_or w g.end 0 in
        record {
          kept = x.kept;
          ahead = x.ahead.1;
          reads = λ ps e. behind_it ps e ∙ goes_off w g.end _ h (behind_off w parent ps g.nodes (take (body_length g.nodes) o'') g.end (sign c) (not_space c (x.solid h)) (not-closing c a) (not_comma c b));
        }

    pub list_again : g.end < length w → get_or w g.end 0 ≡ 44 → Listing w at parent depth count o (g.end + 1) g.nodes o''
    list_again h c = record {
      ahead = omega (arith, L.ahead, x.ahead.0);
      within = omega arith;
      few = x.ahead.2;
      kept = x.kept;
      goes = λ ps e. behind_it ps e ∙ again_goes w parent ps g.nodes (take (body_length g.nodes) o'') g.end h c;
    }

-- ---- the answer that a `?` hands on

pub told-subtree : {w : List ℕ} {i parent depth count : ℕ} {o o' : List ℕ} {r r' : Result Got BadPlace} → r ≡ r' → SubtreeRead w i parent depth count o o' r' → SubtreeRead w i parent depth count o o' r
told-subtree {w} {i} {parent} {depth} {count} {o} {o'} e x = subst (SubtreeRead w i parent depth count o o') (sym e) x
