-- The whole text: its subtree, the semicolon, and the blanks behind it. Assumes nothing.
use Rattle.std.proofs.Common.{Ok, Err}
use mathlib.Core.Bool.{false, true}
use mathlib.Core.List.{List, []}
use mathlib.Core.Logic.{inr}
use mathlib.Core.Path.{◌∙◌, ◌≡◌, ap, refl}
use Prim.Native.Nat.{ℕ, ◌+◌, ◌<◌, ◌≤◌}
use native.Mathlib.Omega.{arith}
use lib.ListN.{drop, drop_of_length-le, get_or, length, take}
use Rattle.bodies.specs.Nodes.{body_length, none}
use Rattle.newick.specs.Scan.{act, behind, ended, outset, taken, past_limit, scan_from, state}
use Rattle.newick.specs.Signs.{Sign, closing, colon, comma, figure, foreign, opening, point, semicolon, sign, space}
use Rattle.numerals.specs.Goes.{Goes, PastBlanks}
use Rattle.subtrees.specs.Subtrees.{SubtreeRead, Whole}
use Rattle.numerals.specs.declared.Got.{Got}
use Rattle.numerals.proofs.Lengths.{ended_idle, not_semicolon, not_space}
use Rattle.numerals.proofs.Steps.{Off, goes_off, goes_on, goes_out}

finish_goes : (w : List ℕ) (j n : ℕ) (d : List ℕ) → j < length w → get_or w j 0 ≡ 59 → Goes w (state (behind false) [] n d) j (state ended [] n d) (j + 1)
unfolding act past_limit sign
finish_goes w j n d l e = goes_on w j _ _ l refl (ap (λ (c : ℕ). act (state (behind false) [] n d) (sign c)) e)

finish_off : (n : ℕ) (d : List ℕ) (g : Sign) → (g ≡ space → ⊥) → (g ≡ semicolon → ⊥) → Off (state (behind false) [] n d) g
unfolding act
finish_off n d space a b = absurd (a refl)
finish_off n d (figure x) a b = inr refl
finish_off n d opening a b = inr refl
finish_off n d closing a b = inr refl
finish_off n d comma a b = inr refl
finish_off n d colon a b = inr refl
finish_off n d point a b = inr refl
finish_off n d semicolon a b = absurd (b refl)
finish_off n d foreign a b = inr refl

ended_off : (n : ℕ) (d : List ℕ) (g : Sign) → (g ≡ space → ⊥) → Off (state ended [] n d) g
unfolding act
ended_off n d space a = absurd (a refl)
ended_off n d (figure x) a = inr refl
ended_off n d opening a = inr refl
ended_off n d closing a = inr refl
ended_off n d comma a = inr refl
ended_off n d colon a = inr refl
ended_off n d point a = inr refl
ended_off n d semicolon a = inr refl
ended_off n d foreign a = inr refl

ended_good : (w : List ℕ) (e n : ℕ) (d : List ℕ) → length w ≤ e → scan_from true (state ended [] n d) (drop e w) ≡ taken d
unfolding scan_from
ended_good w e n d l = ap (scan_from true (state ended [] n d)) (drop_of_length-le w {i = e} l)

module _ (w o o' : List ℕ) where
  module _ (g : Got) (x : SubtreeRead w 0 none 0 0 o o' (Ok g)) where
    pub whole_out : length w ≤ g.end → Whole w o' (Err (record { 0 = g.end }))
    whole_out h = (x.ahead.1, x.reads [] refl refl ∙ goes_out w g.end _ (omega (arith, x.ahead.1)) refl)

    pub whole_stray : g.end < length w → (get_or w g.end 0 ≡ 59 → ⊥) → Whole w o' (Err (record { 0 = g.end }))
    whole_stray h f =
        let c = get_or w g.end 0 in
        (x.ahead.1, x.reads [] refl refl ∙ goes_off w g.end _ h (finish_off g.nodes (take (body_length g.nodes) o') (sign c) (not_space c (x.solid h)) (not_semicolon c f)))

    module _ (h : g.end < length w) (c : get_or w g.end 0 ≡ 59) (e : ℕ) (k : PastBlanks w (g.end + 1) e) where
      ended_at : Goes w outset 0 (state ended [] g.nodes (take (body_length g.nodes) o')) e
      ended_at = x.reads [] refl refl ∙ finish_goes w g.end g.nodes (take (body_length g.nodes) o') h c ∙ k.goes _ (ended_idle [] g.nodes (take (body_length g.nodes) o'))

      pub whole_more : e < length w → Whole w o' (Err (record { 0 = e }))
      whole_more l = (k.within, ended_at ∙ goes_off w e _ l (ended_off g.nodes (take (body_length g.nodes) o') (sign (get_or w e 0)) (not_space (get_or w e 0) (k.solid l))))

      pub whole_done : length w ≤ e → Whole w o' (Ok (record { end = e; nodes = g.nodes }))
      whole_done l = (x.ahead.2, ended_at ∙ ended_good w e g.nodes (take (body_length g.nodes) o') l)
