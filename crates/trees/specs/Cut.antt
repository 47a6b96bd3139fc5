-- A tree cut to a set of species: the others go, and a bracket of which one child is left becomes that child.
use Rattle.std.proofs.Math.Bool.{So}
use Rattle.std.specs.Prelude.{cond, ℕ}
use Rattle.sets.specs.Species.{Species}
use Rattle.trees.specs.Loosen.{append}
use Rattle.trees.specs.Trees.{Forest, Tree, cons, leaf, nil, node, under}

-- the children that are left, as no tree or one: a bracket stands around two or more
abbrev pub knot : Forest → Forest
knot nil = nil
knot (cons t nil) = cons t nil
knot (cons t (cons u f)) = cons (node (cons t (cons u f))) nil

-- no tree or one
abbrev mutual
  pub cut : Species → Tree → Forest
  cut U (leaf x) = cond (U x) (cons (leaf x) nil) nil
  cut U (node f) = knot (cut_f U f)

  pub cut_f : Species → Forest → Forest
  cut_f U nil = nil
  cut_f U (cons t f) = append (cut U t) (cut_f U f)

-- some species of U is under t
abbrev pub Touches : Species → Tree → Type 0
Touches U t = (x : ℕ) × So (under t x) × So (U x)
