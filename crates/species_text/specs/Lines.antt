-- Lines of species, and lines of a tree, as `pull` prints them: "every line ends with byte 10. Species are printed as decimal numbers."
use Rattle.std.specs.Prelude.{List, ◌++◌, ℕ}
use Rattle.sets.specs.Sets.{has}
use Rattle.sets.specs.Species.{members}
use Rattle.writing.specs.Texts.{ended, spaced}
use Rattle.rendering.specs.Texts.{newick_text}

-- a word, and the species of a set: "in ascending order, each after a space"
abbrev pub species_line : List ℕ → ℕ → List ℕ
species_line w s = ended (w ++ spaced (members 64 (has s)))

-- a word, and the tree of a body: "its tree in house order (as `render` writes it, with the semicolon)"
abbrev pub tree_line : List ℕ → List ℕ → List ℕ
tree_line w b = ended (w ++ newick_text b)
