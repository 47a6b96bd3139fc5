-- The lines of the papers, one by one. Assumes nothing.
use mathlib.Core.List.{List, [], ◌++◌}
use mathlib.Core.Path.{◌∙◌, ◌≡◌, ap, refl, sym}
use Prim.Native.Nat.{ℕ, ◌+◌}
use native.Mathlib.Numerals.{add-one}
use Rattle.collections.specs.Layout.{body_at}
use Rattle.papers_text.specs.Lines.{paper_line, papers_text, side_line, sides_text}

module _ (c : List ℕ) where
  pub papers-none : papers_text c 0 ≡ []
  unfolding papers_text
  papers-none = refl

  pub sides-none : (u : ℕ) → sides_text u c 0 ≡ []
  unfolding sides_text
  sides-none u = refl

  -- one line more, of the body b
  module _ (k : ℕ) (b : List ℕ) (e : b ≡ body_at c k) where
    pub papers-next : papers_text c (k + 1) ≡ papers_text c k ++ paper_line k b
    unfolding papers_text
    papers-next = ap (papers_text c) (add-one k) ∙ ap (λ (x : List ℕ). papers_text c k ++ paper_line k x) (sym e)

    pub sides-next : (u : ℕ) → sides_text u c (k + 1) ≡ sides_text u c k ++ side_line u k b
    unfolding sides_text
    sides-next u = ap (sides_text u c) (add-one k) ∙ ap (λ (x : List ℕ). sides_text u c k ++ side_line u k x) (sym e)
