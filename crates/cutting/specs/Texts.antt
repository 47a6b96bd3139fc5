-- The text of a tree cut to a set of species.
use Rattle.std.specs.Prelude.{List, [], ℕ}
use Rattle.sets.specs.Species.{Species}
use Rattle.trees.specs.Cut.{cut}
use Rattle.trees.specs.Trees.{Forest, Tree, cons, nil}
use Rattle.rendering.specs.Texts.{subtree_text}

-- a cut leaves no tree or one
abbrev pub first_text : Forest → List ℕ
first_text nil = []
first_text (cons t f) = subtree_text t

-- without the semicolon
abbrev pub cut_text : Species → Tree → List ℕ
cut_text U t = first_text (cut U t)
