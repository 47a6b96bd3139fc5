-- The tree of a good body is rendered, and its text is at the front of a room that is long enough. Assumes nothing.
use mathlib.Core.List.{List, [], ◌∷◌}
use mathlib.Core.Path.{◌∙◌, ◌≡◌, ap, refl, sym}
use Prim.Native.Nat.{ℕ, ◌≤◌}
use native.Mathlib.Omega.{arith}
use lib.ListN.{length, take}
use Rattle.bodies.proofs.Written.{written_body}
use Rattle.bodies.specs.Draws.{written}
use Rattle.answers.proofs.Answered.{first_on, then_nothing, then_pass}
use Rattle.answers.proofs.Good.{body_pass, count_pass, room_pass}
use Rattle.answers.specs.Inputs.{Body, Count}
use Rattle.answers.specs.Looks.{first_refusal, look_count, look_length, look_room, look_rules}
use Rattle.refusals.specs.declared.Refusal.{Refusal}
use Rattle.rendering.proofs.Texts.{body_longest}
use Rattle.rendering.specs.Renders.{Renders, render_done, render_looks}
use Rattle.rendering.specs.Texts.{newick_text, text_room}
use Rattle.rendering.specs.declared.Text.{Text}
use Rattle.std.specs.Prelude.{Ok, Err, Result}

module _ {n : ℕ} {b : List ℕ} (c : Count n) (g : Body n b) where
  passes : (l : ℕ) → text_room ≤ l → first_refusal (render_looks n b l) ≡ Ok tt
  passes l h =
      let early = look_count n ∷ look_length 0 (length b) ∷ look_rules 0 n b ∷ [] in
      first_on early (look_room (length (newick_text b)) l ∷ []) ((then_pass (look_count n) _).1 ((count_pass n).1 c, (body_pass 0 n b).1 g))
      ∙ then_nothing _ ∙ (room_pass (length (newick_text b)) l).1 (omega (arith, body_longest c g))

  -- rendering answered r, and left the room o'
  module _ {o : List ℕ} {r : Result Text Refusal} {o' : List ℕ} (h : text_room ≤ length o) (s : Renders n b o r o') where
    is_done : r ≡ Ok (render_done b)
    is_done = s.is ∙ rw (passes (length o) h) refl

    leaves : o' ≡ written o (newick_text b)
    leaves = s.holds ∙ rw (passes (length o) h) refl

    pub not_refused : (x : Refusal) → r ≡ Err x → ⊥
    not_refused x e = let q = sym e ∙ is_done in let z : ◌≡◌ {A = ℕ} 0 1 = cc in omega arith

    module _ (x : Text) (e : r ≡ Ok x) where
      text_long : x.length ≡ length (newick_text b)
      text_long = let q : Ok x ≡ Ok (render_done b) = sym e ∙ is_done in let z : x ≡ render_done b = cc in ap (λ (k : Text). k.length) z

      pub text_is : take x.length o' ≡ newick_text b
      text_is = rw (text_long, leaves) (written_body o (newick_text b) (omega (arith, body_longest c g, h)))
