-- How long the line of a call is at most, and where it stands. Assumes nothing.
use mathlib.Core.List.{List, [], ◌++◌, append-nil}
use mathlib.Core.Logic.{◌⊎◌, inl, inr}
use mathlib.Core.Path.{◌∙◌, ◌≡◌, ap, refl, sym}
use Prim.Native.Nat.{ℕ, ◌+◌, ◌≤◌}
use native.Mathlib.Omega.{arith}
use lib.ListN.{get_or, length, length-take, take}
use Rattle.calls.specs.Calls.{fields_of}
use Rattle.calls.specs.declared.Call.{Call}
use Rattle.choosing.proofs.Chosen.{call_few}
use Rattle.choosing.specs.Chosen.{line_of}
use Rattle.writing.proofs.Writing.{wrote_whole}
use Rattle.writing.specs.Pages.{Page, wrote_on}
use Rattle.making.specs.Made.{Waits, cut_line, longest_line}

made_few : (c : Call) (x y z w : List ℕ) → length (line_of c.byte c.numbers (fields_of c x y z w)) ≤ longest_line (length (take (get_or c.lengths 1 0) y)) (length (take (get_or c.lengths 2 0) z)) (length (take (get_or c.lengths 3 0) w))
made_few c x y z w = call_few c.byte (get_or c.numbers 0 0) (get_or c.numbers 1 0) (take (get_or c.lengths 0 0) x) (take (get_or c.lengths 1 0) y) (take (get_or c.lengths 2 0) z) (take (get_or c.lengths 3 0) w)

-- where so many bytes are left behind as many as there are, the line of the call fits there
pub made_fits : (c : Call) (x y z w : List ℕ) (at m : ℕ) → at + longest_line (get_or c.lengths 1 0) (get_or c.lengths 2 0) (get_or c.lengths 3 0) ≤ m → at + length (line_of c.byte c.numbers (fields_of c x y z w)) ≤ m
made_fits c x y z w at m h = omega (arith, made_few c x y z w, length-take (get_or c.lengths 1 0) y, length-take (get_or c.lengths 2 0) z, length-take (get_or c.lengths 3 0) w)

-- a text that was written where it fits, behind what waits or at the front, waits with it
pub waits_whole : {o p o' : Page} {w : List ℕ} → (p ≡ o) ⊎ (p ≡ record o { text = [] }) → o' ≡ wrote_on p w → length p.text + length w ≤ p.room → Waits o w o'
unfolding wrote_on
waits_whole {p = p} {w} (inl b) e h = record { before = p.text; behind = inl (ap (λ (x : Page). x.text) b); text = e ∙ ap (λ (t : List ℕ). record p { text = t }) (wrote_whole p.room p.text w h) ∙ ap (λ (x : Page). record x { text = p.text ++ w }) b }
waits_whole {p = p} {w} (inr b) e h = record { before = p.text; behind = inr (ap (λ (x : Page). x.text) b); text = e ∙ ap (λ (t : List ℕ). record p { text = t }) (wrote_whole p.room p.text w h) ∙ ap (λ (x : Page). record x { text = p.text ++ w }) b }

pub waits_cut : {o p o' : Page} → (p ≡ o) ⊎ (p ≡ record o { text = [] }) → o' ≡ wrote_on p cut_line → length p.text + 4 ≤ p.room → Waits o cut_line o'
waits_cut b e h = waits_whole b e h

-- what waits waits on
pub waits_none : (o : Page) → Waits o [] o
waits_none o = record { before = o.text; behind = inl refl; text = ap (λ (t : List ℕ). record o { text = t }) (sym (append-nil o.text)) }
