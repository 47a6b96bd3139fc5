-- What reading a Newick text for 64 species refuses: with 14 exactly the texts that are refused at a place, and then with 6 or 9. Assumes nothing.
use mathlib.Core.List.{List}
use mathlib.Core.Logic.{inl, inr}
use mathlib.Core.Path.{◌∙◌, ◌≡◌, ap, refl, sym}
use Prim.Native.Nat.{ℕ, ◌≤◌}
use native.Mathlib.Omega.{arith}
use lib.Dec.{ltb}
use lib.ListN.{length}
use Rattle.rules.specs.Faults.{fault}
use Rattle.bodies.specs.Nodes.{nodes}
use Rattle.answers.proofs.Answered.{Each, first_among, first_append, refuse_one}
use Rattle.answers.specs.Looks.{look_then, answered, first_refusal, ruled}
use Rattle.answers.specs.Looks.{Look}
use Rattle.refusals.specs.declared.Refusal.{Refusal}
use Rattle.refusals.specs.declared.Refusal.TheVariants.{BadText, BadTree, ShortRoom}
use Rattle.newick.specs.Place.{Wrong, deep, early, large, many, stray}
use Rattle.newick.specs.Texts.{RefusedAt}
use Rattle.parsing.proofs.Texts.{text_fourteen, text_refused, text_looks}
use Rattle.parsing.specs.Parses.{body_looks, parse_answer, parse_done, text_body}
use Rattle.places.specs.Causes.{cause_of, most_species}
use Rattle.places.specs.NodePlaces.{place_in}
use Rattle.places.specs.declared.Cause.{Cause}
use Rattle.places.specs.declared.Cause.TheVariants.{AtNode, AtPlace, Other}
use Rattle.places.proofs.NodePlaces.{place_within}
use Rattle.std.specs.Prelude.{Ok, Err, Result}
use Rattle.bodies.specs.declared.Broken.{Broken}

-- it is no 14
abbrev NoText : Refusal → Type 0
NoText x = (q : ℕ) → cause_of x ≡ AtPlace q → ⊥

ruled_no_text : (v : Result (Unit {0}) Broken) (x : Refusal) → ruled v ≡ Err x → NoText x
ruled_no_text (Ok _) x e q h = let z : ◌≡◌ {A = ℕ} 0 1 = cc in omega arith
ruled_no_text (Err y) x e q h =
    let z : BadTree y ≡ x = cc in
    let k : AtNode y ≡ AtPlace q = ap cause_of z ∙ h in
    let i : ◌≡◌ {A = ℕ} 0 1 = cc in
    omega arith

body_no_text : (n : ℕ) (b : List ℕ) (l : ℕ) → Each NoText (body_looks n b l)
body_no_text n b l = (λ x e. ruled_no_text (fault 0 (nodes b) n) x e, (λ x e. refuse_one NoText (ltb l (length b)) ShortRoom (λ q h. let z : ◌≡◌ {A = ℕ} 0 1 = cc in omega arith) x e, tt))

-- ---- the looks at the text w, and those at its body, for a room of l bytes

module _ (w : List ℕ) (l : ℕ) where
  abbrev bodied : Look
  bodied = first_refusal (body_looks most_species (text_body w) l)

  pub looks : parse_answer most_species w l ≡ answered Ok Err (look_then (first_refusal (text_looks w)) bodied) (parse_done w)
  looks = ap (λ (k : Look). answered Ok Err k (parse_done w)) (first_append (text_looks w) (body_looks most_species (text_body w) l))

  -- 14 at q exactly where the text is refused at q
  pub answer_at : (q : ℕ) → RefusedAt w q → parse_answer most_species w l ≡ Err (BadText q)
  answer_at q h = looks ∙ ap (λ (k : Look). answered Ok Err (look_then k bodied) (parse_done w)) ((text_refused w q).1 h)

  pub at_answer : (x : Refusal) (q : ℕ) → parse_answer most_species w l ≡ Err x → cause_of x ≡ AtPlace q → RefusedAt w q
  at_answer x q h c = by (first_refusal (text_looks w)) refl bodied refl (sym looks ∙ h)
    where
      by : (f : Look) → first_refusal (text_looks w) ≡ f → (g : Look) → bodied ≡ g → answered Ok Err (look_then f g) (parse_done w) ≡ Err x → RefusedAt w q
      by (Ok _) e (Ok _) k a = let z : ◌≡◌ {A = ℕ} 0 1 = cc in absurd (omega arith)
      by (Ok _) e (Err y) k a = let z : y ≡ x = cc in absurd (first_among NoText (body_looks most_species (text_body w) l) (body_no_text most_species (text_body w) l) y k q (ap cause_of z ∙ c))
      by (Err y) e g k a =
          let p = text_fourteen w y e in
          let z : y ≡ x = cc in
          let i : AtPlace p.0 ≡ AtPlace q = ap cause_of (sym p.1 ∙ z) ∙ c in
          let j : p.0 ≡ q = cc in
          (text_refused w q).0 (e ∙ ap Err (p.1 ∙ ap BadText j))

-- ---- the place is one of the text, or its length

wrong_inside : (w : List ℕ) (q : ℕ) → Wrong w q → q ≤ length w
wrong_inside w q (stray l h) = omega arith
wrong_inside w q (early l h) = omega arith
wrong_inside w q (deep l h) = omega arith
wrong_inside w q (many l h) = omega arith
wrong_inside w q (large v l e h) = omega arith

pub refused_inside : (w : List ℕ) (q : ℕ) → RefusedAt w q → q ≤ length w
refused_inside w q (inl h) = omega (arith, h.0, h.1)
refused_inside w q (inr h) = wrong_inside w q h.1.wrong

-- reading the text w gives no refusal but those that `put_refused` can be asked to write
pub answer_inside : (w : List ℕ) (l : ℕ) (x : Refusal) → parse_answer most_species w l ≡ Err x → place_in w (cause_of x) ≤ length w
answer_inside w l x e = by (cause_of x) refl
  where
    by : (c : Cause) → cause_of x ≡ c → place_in w c ≤ length w
    by (AtPlace q) h = refused_inside w q (at_answer w l x q e h)
    by (AtNode y) h = place_within w _ _
    by Other h = omega arith
