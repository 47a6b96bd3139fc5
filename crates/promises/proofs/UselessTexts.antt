-- Readers and writers of texts that are useless break what requests T-01 and T-02 ask of one, as the very same records. Assumes nothing.
use mathlib.Core.Bool.{Bool, false, false≢true, true, cond}
use mathlib.Core.List.{List, [], ◌∷◌}
use mathlib.Core.Logic.{inr}
use mathlib.Core.Path.{◌∙◌, ◌≡◌, ap, refl, sym}
use Prim.Native.Nat.{ℕ}
use native.Mathlib.Omega.{arith}
use borrow.Author.Tests.{eq-eqb, eqb-true}
use lib.Dec.{eqb}
use Rattle.trees.specs.Trees.{leaf}
use Rattle.bodies.proofs.Back.{body_good}
use Rattle.bodies.specs.Draws.{tree_at, tree_of}
use Rattle.rules.specs.Faults.{fault, first_break, seen}
use Rattle.bodies.specs.Nodes.{children}
use Rattle.newick.proofs.Theorems.{refuses_exactly}
use Rattle.newick.specs.Form.{lone, no_blank, no_length, nought, text}
use Rattle.newick.specs.Scan.{act, past_limit, scan_from}
use Rattle.newick.specs.Signs.{sign}
use Rattle.newick.specs.Texts.{RefusedAt}
use Rattle.refusals.specs.Told.{Told, byte_place, told, value}
use Rattle.answers.specs.Inputs.{Count}
use Rattle.rendering.proofs.Texts.{same_text}
use Rattle.rendering.specs.Texts.{newick_text, text_of}
use Rattle.writing.specs.Texts.{digits_in}
use Rattle.promises.specs.Operations.{gives, parses}
use Rattle.promises.specs.Inputs.{Parsable, Renderable}
use Rattle.promises.specs.Useless.{NamesFirst, NamingFirstBreaks, OwnOrderBreaks, OwnOrderBreaksSameText, PlacelessBreaks, RefusingTextsBreaks, ZeroBreaks, ZeroBreaksSameText, placeless}
use Rattle.promises.proofs.Accepted.{render_pass}
use Rattle.promises.proofs.Chosen.{value_is}

one_species : Count 1
one_species = record { some = omega arith; most = omega arith }

-- `0;` is the text of a leaf, and two bytes are room for it
leaf_text : Parsable 1 (48 ∷ 59 ∷ []) (0 ∷ 0 ∷ [])
leaf_text = record {
  count = one_species;
  tree = leaf 0;
  text = record {
    short = omega arith;
    form = text (lone no_blank nought no_length) no_blank no_blank;
    within = record { depth = omega arith; count = omega arith; numbers = omega arith };
  };
  rules = body_good 1 (leaf 0) refl (λ x h. let e = eqb-true 0 x h in omega arith) (omega arith);
  room = omega arith;
}

pub refusing_texts-breaks : RefusingTextsBreaks
refusing_texts-breaks f h p = h 1 (48 ∷ 59 ∷ []) (0 ∷ 0 ∷ []) leaf_text ((p 1 (48 ∷ 59 ∷ []) (0 ∷ 0 ∷ []) one_species).done.1 leaf_text)

-- a bracket alone ends early, at place 1
bracket_alone : RefusedAt (40 ∷ []) 1
unfolding act past_limit scan_from sign
bracket_alone = inr (omega arith, (refuses_exactly (40 ∷ []) 1).1 (omega arith, refl))

pub naming_first_breaks : NamingFirstBreaks
naming_first_breaks f h p =
    let e = h 1 (40 ∷ []) [] one_species 1 (((p 1 (40 ∷ []) [] one_species).refuses 1).1 bracket_alone) in
    omega arith

placeless_first : NamesFirst placeless
placeless_first n w o c p h = by (eqb (parses n w o).told.number 14) refl h
  where
    by : (b : Bool) → eqb (parses n w o).told.number 14 ≡ b → (cond b (gives (told 14 (value byte_place 0 ∷ [])) o) (parses n w o)).told ≡ told 14 (value byte_place p ∷ []) → p ≡ 0
    by true e k = sym (value_is 0 p k)
    by false e k = absurd (false≢true (sym e ∙ eq-eqb (parses n w o).told.number 14 (ap (λ (t : Told). t.number) k)))

pub placeless-breaks : PlacelessBreaks
placeless-breaks = naming_first_breaks placeless placeless_first

-- ---- writers

-- of two species: a leaf, and the pair in its two orders, with room for the text
abbrev leaf_body : ℕ → List ℕ
leaf_body x = 255 ∷ x ∷ []

abbrev pair_body : ℕ → ℕ → List ℕ
pair_body x y = 255 ∷ 255 ∷ 0 ∷ x ∷ 0 ∷ y ∷ []

abbrev some_room : List ℕ
some_room = 0 ∷ 0 ∷ 0 ∷ 0 ∷ 0 ∷ 0 ∷ []

good_bodies : Renderable 2 (leaf_body 0) some_room × Renderable 2 (leaf_body 1) some_room × Renderable 2 (pair_body 0 1) some_room × Renderable 2 (pair_body 1 0) some_room
unfolding fault first_break seen tree_at children digits_in
good_bodies = ((render_pass 2 (leaf_body 0) some_room).0 refl, (render_pass 2 (leaf_body 1) some_room).0 refl, (render_pass 2 (pair_body 0 1) some_room).0 refl, (render_pass 2 (pair_body 1 0) some_room).0 refl)

-- their texts, and the pair in its own order
other_leaf : newick_text (leaf_body 0) ≡ newick_text (leaf_body 1) → ⊥
unfolding tree_at children digits_in
other_leaf e = let z : ◌≡◌ {A = ℕ} 48 49 = cc in omega arith

zero_leaf : 48 ∷ 59 ∷ [] ≡ newick_text (leaf_body 0)
unfolding tree_at children digits_in
zero_leaf = refl

same_pair : newick_text (pair_body 0 1) ≡ newick_text (pair_body 1 0)
unfolding tree_at children digits_in
same_pair = refl

own_pair : text_of (tree_of (pair_body 0 1)) ≡ newick_text (pair_body 0 1)
unfolding tree_at children digits_in
own_pair = refl

other_pair : text_of (tree_of (pair_body 0 1)) ≡ text_of (tree_of (pair_body 1 0)) → ⊥
unfolding tree_at children digits_in
other_pair e = let z : ◌≡◌ {A = ℕ} 48 49 = cc in omega arith

pub zero-breaks : ZeroBreaks
zero-breaks f h r =
    let g = good_bodies.1 in
    let k = r 2 (leaf_body 1) some_room g in
    other_leaf (sym zero_leaf ∙ sym (h 2 (leaf_body 1) some_room g k.text k.wrote) ∙ k.exact)

pub own_order_breaks : OwnOrderBreaks
own_order_breaks f h r =
    let g = good_bodies.3 in
    let k = r 2 (pair_body 1 0) some_room g in
    other_pair (own_pair ∙ same_pair ∙ sym k.exact ∙ h 2 (pair_body 1 0) some_room g k.text k.wrote)

pub zero-breaks_same_text : ZeroBreaksSameText
zero-breaks_same_text f s h q =
    let g = good_bodies.0 in
    let g' = good_bodies.1 in
    let w = s 2 (leaf_body 0) some_room g in
    let w' = s 2 (leaf_body 1) some_room g' in
    other_leaf ((same_text g.count g.body g'.body).1
    ((q 2 (leaf_body 0) (leaf_body 1) some_room some_room g g' w.0 w'.0 w.1 w'.1).0 (h 2 (leaf_body 0) some_room g w.0 w.1 ∙ sym (h 2 (leaf_body 1) some_room g' w'.0 w'.1))))

pub own_order_breaks_same_text : OwnOrderBreaksSameText
own_order_breaks_same_text f s h q =
    let g = good_bodies.2 in
    let g' = good_bodies.3 in
    let w = s 2 (pair_body 0 1) some_room g in
    let w' = s 2 (pair_body 1 0) some_room g' in
    let e = (q 2 (pair_body 0 1) (pair_body 1 0) some_room some_room g g' w.0 w'.0 w.1 w'.1).1 ((same_text g.count g.body g'.body).0 same_pair) in
    other_pair (sym (h 2 (pair_body 0 1) some_room g w.0 w.1) ∙ e ∙ h 2 (pair_body 1 0) some_room g' w'.0 w'.1)
