-- Lines of sets, and the groups to pull by. "For each group of that tree that has two species or more and is not the root's, in preorder of house order:
-- `pull together: X Y Z`. If there is none: `pull nothing together: the tree has no group`."
use Rattle.std.proofs.Math.Bool.{So}
use Rattle.std.specs.Prelude.{List, [], ◌∷◌, ◌++◌, ◌≡◌, ℕ}
use Rattle.sets.specs.Species.{Below, Species}
use Rattle.trees.specs.Trees.{under, well_formed}
use Rattle.trees.specs.Visits.{inner_groups}
use Rattle.bodies.specs.Draws.{body_of, tree_of}
use Rattle.easing.specs.Eases.{numbers}
use Rattle.writing.specs.Texts.{ended}
use Rattle.species_text.specs.Lines.{species_line}
use Rattle.sending.specs.Words.{nothing_words, together_words}

-- a line for each set
abbrev pub species_lines : List ℕ → List ℕ → List ℕ
species_lines w [] = []
species_lines w (s ∷ l) = species_line w s ++ species_lines w l

-- all but the first
abbrev pub behind_first : List Species → List Species
behind_first [] = []
behind_first (G ∷ l) = l

-- the groups of a body's tree that have two species or more, and are not the root's, as numbers
abbrev pub pulled : List ℕ → List ℕ
pulled b = numbers (behind_first (inner_groups (tree_of b)))

abbrev pub pulled_text : List ℕ → List ℕ
pulled_text [] = ended nothing_words
pulled_text (s ∷ l) = species_lines together_words (s ∷ l)

abbrev pub groups_text : List ℕ → List ℕ
groups_text b = pulled_text (pulled b)

-- b is the body of a good tree, its nodes in preorder
pub record InPreorder (b : List ℕ) : Type 0 where
  pub formed : So (well_formed (tree_of b))
  pub below : Below 64 (under (tree_of b))
  pub body : b ≡ body_of (tree_of b)
