-- Loosening a candidate T: the groups that are not earned are dropped, one after the other. Request T-07; source 004, section 3 (Check_PI). N: a number that
-- every species is below.
use Rattle.std.specs.Prelude.{Bool, cond, true, ◌&&◌, ◌||◌, ◌≡◌, ℕ, zero, suc, get_or}
use mathlib.Core.List.{List, [], ◌∷◌, ◌++◌, Memᴰ}
use Rattle.sets.specs.Species.{Species, either, inside, members}
use Rattle.trees.specs.Trees.{Forest, Siblings, Tree, cons, house, leaf, nil, node, under}
use Rattle.trees.specs.Triplets.{Triplets}
use Rattle.trees.specs.Links.{part}
use Rattle.trees.specs.Check.{JoinedBeside, R}

-- ---- which groups are not earned

-- the links on S join all of A: A lies in the part of its lowest species
abbrev pub joins : Triplets → ℕ → Species → Species → Bool
joins E N S A = inside N A (part E N S (get_or (members N A) 0 0))

abbrev pub same_set : ℕ → Species → Species → Bool
same_set N A B = inside N A B && inside N B A

-- "for every sibling group B, the links on A and B together join all of A": the group A of a child, beside each other child
abbrev pub beside_all : Triplets → ℕ → Species → Forest → Bool
beside_all E N A nil = true
beside_all E N A (cons t f) = (same_set N A (under t) || joins E N (either A (under t)) A) && beside_all E N A f

-- the groups that are not earned, "the root's aside", in preorder: of a tree in house order, "the first in house order" comes first
abbrev mutual
  pub unearned : Triplets → ℕ → Tree → List Species
  unearned E N (leaf x) = []
  unearned E N (node f) = unearned_f E N f f

  -- at and below the children f of a node that has the children F
  pub unearned_f : Triplets → ℕ → Forest → Forest → List Species
  unearned_f E N F nil = []
  unearned_f E N F (cons t f) = cond (beside_all E N (under t) F) [] (under t ∷ []) ++ (unearned E N t ++ unearned_f E N F f)

-- the same in the check's words (`Earned`), without the list: G is the group of a node s that is not joined beside its sibling s'
abbrev pub NotEarned : Triplets → Tree → Species → Type 0
NotEarned E T G = (s : Tree) × (s' : Tree) × Siblings T s s' × (G ≡ under s) × (JoinedBeside E s s' → ⊥)

-- ---- a group is dropped

abbrev pub append : Forest → Forest → Forest
append nil f = f
append (cons t g) f = cons t (append g f)

-- the children of a node; a leaf has none to give and stays
abbrev pub opened : Tree → Forest
opened (leaf x) = cons (leaf x) nil
opened (node f) = f

-- below the root: the node with the group G goes, "giving its children to its parent"
abbrev mutual
  pub drop_below : ℕ → Species → Tree → Tree
  drop_below N G (leaf x) = leaf x
  drop_below N G (node f) = node (drop_among N G f)

  pub drop_among : ℕ → Species → Forest → Forest
  drop_among N G nil = nil
  drop_among N G (cons t f) = append (cond (same_set N G (under t)) (opened t) (cons (drop_below N G t) nil)) (drop_among N G f)

-- and the tree is in house order again
abbrev pub drop : ℕ → Species → Tree → Tree
drop N G T = house (drop_below N G T)

-- ---- again and again

-- "the final tree" and "the dropped sets in the order they went"
pub record Loosened : Type 0 where
  pub final : Tree
  pub dropped : List Species

-- "While an unearned one exists, drop the first in house order": `on` is what comes of the tree without it
abbrev pub step : List Species → Tree → (Species → Loosened) → Loosened
step [] T on = record { final = T; dropped = [] }
step (G ∷ l) T on = let r = on G in record { final = r.final; dropped = G ∷ r.dropped }

module _ (E : Triplets) (N : ℕ) where
  -- at most k drops, for a tree in house order; "R is worked out afresh each time"
  unfoldable pub loosen_in : ℕ → Tree → Loosened
  loosen_in zero T = record { final = T; dropped = [] }
  loosen_in (suc k) T = step (unearned (R E T) N T) T (λ G. loosen_in k (drop N G T))

  -- a tree has fewer groups to drop than species
  unfoldable pub loosened : Tree → Loosened
  loosened T = loosen_in N (house T)

-- no set stands twice in the list
abbrev pub Different : List Species → Type 0
Different [] = Unit {0}
Different (G ∷ l) = (Memᴰ G l → ⊥) × Different l
