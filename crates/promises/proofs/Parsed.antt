-- Reading a Newick text: each text is read or refused as the request says, and what is written draws its tree. Assumes nothing.
use mathlib.Core.Bool.{Bool, false, true}
use mathlib.Core.List.{List, [], ◌∷◌, ◌++◌}
use mathlib.Core.Logic.{◌↔◌, ◌⊎◌, inl, inr}
use mathlib.Core.Path.{◌∙◌, ◌≡◌, ap, refl, subst, sym}
use Prim.Native.Nat.{ℕ}
use native.Mathlib.Omega.{arith}
use lib.Dec.{ltb}
use lib.ListN.{length}
use Rattle.trees.specs.Trees.{Tree}
use Rattle.bodies.proofs.Back.{body_count, body_length_lem, drawn_back, good_length}
use Rattle.bodies.proofs.Laid.{count_pos}
use Rattle.bodies.specs.Draws.{body_of, node_count, tree_of, written}
use Rattle.rules.specs.Faults.{fault}
use Rattle.bodies.specs.Nodes.{bad_length, body_length, nodes}
use Rattle.newick.specs.Texts.{Readable, RefusedAt}
use Rattle.answers.proofs.Answered.{first_on, first_stop, told_first}
use Rattle.answers.proofs.Good.{count_pass}
use Rattle.refusals.specs.Told.{Told, Value, byte_place, number_of_nodes, told, value}
use Rattle.answers.specs.Inputs.{Body, Count}
use Rattle.answers.specs.Looks.{first_refusal, look_count, look_told, refuse_if, ruled}
use Rattle.answers.specs.Looks.{Look}
use Rattle.refusals.specs.declared.Refusal.TheVariants.{BadText, ShortRoom}
use Rattle.parsing.proofs.Texts.{text_body_lem, text_fourteen, text_pass, text_refused, text_looks}
use Rattle.parsing.specs.Parses.{body_looks, parse_done, parse_looks, parse_told, text_body}
use Rattle.promises.specs.Operations.{Given, gives, parses}
use Rattle.promises.specs.Inputs.{Parsable}
use Rattle.promises.specs.Demand2.{front}
use Rattle.promises.specs.Newick.{DrawsText, ParsesRight}
use Rattle.promises.proofs.Accepted.{parse_pass, zero_good}
use Rattle.promises.proofs.Chosen.{value_is}
use Rattle.promises.proofs.Wrote.{front_is, wrote}
use Rattle.std.specs.Prelude.{Ok, Err, Result}
use Rattle.bodies.specs.declared.Broken.{Broken}

-- the numbers of a text that is read
abbrev Read : ℕ → Type 0
Read k = (k ≡ 0) ⊎ ((k ≡ 6) ⊎ (k ≡ 9))

body_numbers : (v : Result (Unit {0}) Broken) (short : Bool) (vs : List Value) → Read (look_told (first_refusal (ruled v ∷ refuse_if short ShortRoom ∷ [])) vs).number
body_numbers (Err x) short vs = inr (inl refl)
body_numbers (Ok _) true vs = inr (inr refl)
body_numbers (Ok _) false vs = inl refl

not_fourteen : (k : ℕ) → Read k → k ≡ 14 → ⊥
not_fourteen k (inl h) e = omega arith
not_fourteen k (inr (inl h)) e = omega arith
not_fourteen k (inr (inr h)) e = omega arith

module _ (n : ℕ) (w o : List ℕ) (c : Count n) where
  abbrev counts : List Value
  counts = value number_of_nodes (nodes (text_body w)).count ∷ []

  abbrev late : List Look
  late = body_looks n (text_body w) (length o)

  told_is : (parses n w o).told ≡ look_told (first_refusal (parse_looks n w (length o))) counts
  told_is = told_first parse_told Ok Err (parse_done w) refl (λ x. refl) (first_refusal (parse_looks n w (length o)))

  -- n is good, so that the text is looked at
  text_told : (parses n w o).told ≡ look_told (first_refusal (text_looks w ++ late)) counts
  text_told = told_is ∙ ap (λ (k : Look). look_told k counts) (first_on (look_count n ∷ []) (text_looks w ++ late) (rw ((count_pass n).1 c) refl))

  read_number : first_refusal (text_looks w) ≡ Ok tt → Read (parses n w o).told.number
  read_number e = subst (λ (t : Told). Read t.number) (sym (text_told ∙ ap (λ (k : Look). look_told k counts) (first_on (text_looks w) late e))) (body_numbers (fault 0 (nodes (text_body w)) n) (ltb (length o) (length (text_body w))) counts)

  refused_told : (p : ℕ) → first_refusal (text_looks w) ≡ Err (BadText p) → (parses n w o).told ≡ told 14 (value byte_place p ∷ [])
  refused_told p e = text_told ∙ ap (λ (k : Look). look_told k counts) (first_stop (text_looks w) late (BadText p) e)

  read_so : (k : Look) → first_refusal (text_looks w) ≡ k → Read (parses n w o).told.number → (t : Tree) × Readable w t
  read_so (Ok _) e h = (text_pass w).0 e
  read_so (Err x) e h =
      let f = text_fourteen w x e in
      absurd (not_fourteen _ h (ap (λ (t : Told). t.number) (refused_told f.0 (e ∙ ap Err f.1))))

  refused_so : (p : ℕ) (k : Look) → first_refusal (text_looks w) ≡ k → (parses n w o).told ≡ told 14 (value byte_place p ∷ []) → RefusedAt w p
  refused_so p (Ok _) e h = absurd (not_fourteen _ (read_number e) (ap (λ (t : Told). t.number) h))
  refused_so p (Err x) e h =
      let f = text_fourteen w x e in
      let z = e ∙ ap Err f.1 in
      subst (RefusedAt w) (value_is f.0 p (sym (refused_told f.0 z) ∙ h)) ((text_refused w f.0).0 z)

  done_so : ((parses n w o).told.number ≡ 0) ↔ Parsable n w o
  done_so = zero_good (parses n w o).told (first_refusal (parse_looks n w (length o))) counts told_is (parse_pass n w o)

  module _ (g : Parsable n w o) where
    abbrev t : Tree
    t = g.tree

    is_text : text_body w ≡ body_of t
    is_text = text_body_lem w t g.text

    -- what is given for a good text
    pub parses_is : parses n w o ≡ gives (told 0 (value number_of_nodes (nodes (body_of t)).count ∷ [])) (written o (body_of t))
    parses_is =
        subst (λ (b : List ℕ). parses n w o ≡ gives (told 0 (value number_of_nodes (nodes b).count ∷ [])) (written o b)) is_text (rw ((parse_pass n w o).1 g) refl)

    long : length (body_of t) ≡ body_length (nodes (body_of t)).count
    long = omega (arith, body_length_lem t, body_count t)

    good_body : Body n (body_of t)
    good_body = record { good = g.rules; long = ap bad_length (body_length_lem t) ∙ good_length (node_count t) (count_pos t) g.text.within.count }

    stands : front (nodes (body_of t)).count (written o (body_of t)) ≡ body_of t
    stands = front_is n (nodes (body_of t)).count o (body_of t) long g.room

    draws_text : DrawsText n w o (parses n w o)
    draws_text = subst (λ (h : Given). DrawsText n w o h) (sym parses_is) (record {
      tree = t;
      text = g.text;
      count = (nodes (body_of t)).count;
      told_is = refl;
      wrote = wrote n (nodes (body_of t)).count o (body_of t) long g.room good_body;
      body = stands;
      draws = ap tree_of stands ∙ drawn_back n t c.most g.rules;
    })

  pub good_parsed : ParsesRight n w o (parses n w o)
  good_parsed = record {
    reads = (read_so (first_refusal (text_looks w)) refl, λ h. read_number ((text_pass w).1 h));
    refuses = λ p. (refused_so p (first_refusal (text_looks w)) refl, λ h. refused_told p ((text_refused w p).1 h));
    done = done_so;
    draws = λ z. draws_text (done_so.0 z);
  }
