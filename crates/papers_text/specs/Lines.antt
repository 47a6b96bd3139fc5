-- The lines of the papers of a collection c: each as it was read, and what each says of some species. K is counted from 1, tree k of the collection from 0.
use Rattle.std.specs.Prelude.{cond, List, [], ◌∷◌, ◌++◌, ℕ, zero, suc, ◌+◌, leb}
use Rattle.sets.specs.Sets.{has, meet, size}
use Rattle.trees.specs.Trees.{house}
use Rattle.bodies.specs.Draws.{tree_of}
use Rattle.groups.specs.Groups.{set_of}
use Rattle.collections.specs.Layout.{body_at}
use Rattle.writing.specs.Texts.{decimal, ended}
use Rattle.species_text.specs.Lines.{tree_line}
use Rattle.cutting.specs.Texts.{cut_text}
use Rattle.papers_text.specs.Words.{colon_word, paper_word, says_words, silent_words}

-- "paper K"
abbrev pub numbered : ℕ → List ℕ
numbered k = paper_word ++ decimal (k + 1)

-- "For each paper `paper K: NEWICK`, its tree in house order"; b is its body
abbrev pub paper_line : ℕ → List ℕ → List ℕ
paper_line k b = numbered k ++ tree_line colon_word b

-- of the first k trees
unfoldable pub papers_text : List ℕ → ℕ → List ℕ
papers_text c zero = []
papers_text c (suc k) = papers_text c k ++ paper_line k (body_at c k)

-- how many species of the set u the tree of b has
abbrev pub shared : ℕ → List ℕ → ℕ
shared u b = size (meet (set_of (tree_of b)) u)

-- its tree cut to u, "children in the order of the paper's own line above [..], with a semicolon"
abbrev pub cut_line' : ℕ → List ℕ → List ℕ
cut_line' u b = ended (says_words ++ (cut_text (has u) (house (tree_of b)) ++ (59 ∷ [])))

-- "if three or more species of U are in its tree, `paper K says of these: NEWICK`, its tree cut to U [..]; else `paper K says nothing of these`"
abbrev pub side_line : ℕ → ℕ → List ℕ → List ℕ
side_line u k b = numbered k ++ cond (leb 3 (shared u b)) (cut_line' u b) (ended silent_words)

-- of the first k trees
unfoldable pub sides_text : ℕ → List ℕ → ℕ → List ℕ
sides_text u c zero = []
sides_text u c (suc k) = sides_text u c k ++ side_line u k (body_at c k)
