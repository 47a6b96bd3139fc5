-- Lines of sets, one by one. Assumes nothing.
use mathlib.Core.List.{List, [], ◌∷◌, ◌++◌, append_assoc, append-nil}
use mathlib.Core.Path.{◌∙◌, ◌≡◌, ap, sym}
use Prim.Native.Nat.{ℕ}
use Rattle.species_text.specs.Lines.{species_line}
use Rattle.sending.specs.Pulls.{species_lines}

-- one line more
pub lines_more : (w l : List ℕ) (s : ℕ) → species_lines w (l ++ (s ∷ [])) ≡ species_lines w l ++ species_line w s
lines_more w [] s = append-nil (species_line w s)
lines_more w (x ∷ l) s = ap (λ (z : List ℕ). species_line w x ++ z) (lines_more w l s) ∙ sym (append_assoc (species_line w x) (species_lines w l) (species_line w s))
