-- Aho's tree, said over trees and without the build. Document 01, "Triplets, links, building": "To build S: one species is a leaf. With two or more, take
-- the connected parts. [..] each part becomes a child, by lowest species, and each part is then split again by the same rule." Demand 2 asks that the
-- builder give it. Aho, Sagiv, Szymanski and Ullman (1981).
use Rattle.std.proofs.Math.Bool.{So}
use Rattle.std.specs.Prelude.{◌↔◌, ℕ}
use Rattle.sets.specs.Species.{Species}
use Rattle.trees.specs.Trees.{Child, Forest, Tree, cons, leaf, nil, node, under, under_f}
use Rattle.trees.specs.Triplets.{Triplets}
use Rattle.trees.specs.Links.{Walk}

-- x and y are under one child of the node over f
abbrev pub Together : Forest → ℕ → ℕ → Type 0
Together f x y = (s : Tree) × Child s f × So (under s x) × So (under s y)

-- "each part becomes a child": two species of S are under one child exactly when a walk of links on S leads from one to the other
abbrev pub Parted : Triplets → Species → Forest → Type 0
Parted E S f = (x y : ℕ) → So (S x) → So (S y) → Together f x y ↔ Walk E S x y

-- "one species is a leaf"; the children of a node part its own group, "and each part is then split again by the same rule"
abbrev mutual
  pub AhoTree : Triplets → Tree → Type 0
  AhoTree E (leaf x) = Unit {0}
  AhoTree E (node f) = Parted E (under_f f) f × AhoForest E f

  pub AhoForest : Triplets → Forest → Type 0
  AhoForest E nil = Unit {0}
  AhoForest E (cons t f) = AhoTree E t × AhoForest E f
