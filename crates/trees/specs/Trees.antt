-- Rooted trees and their groups. Document 01, "A tree's body and the collection"; source 000, l.65.
use Rattle.std.specs.Prelude.{Bool, true, false, cond, not, ◌&&◌, ◌||◌, ◌↔◌, ◌≢◌, ◌⊎◌, ◌≡◌, ℕ, suc, min, eqb, leb, ltb}
use mathlib.Core.List.{List, [], ◌∷◌, ◌++◌, Memᴰ}
use Rattle.sets.specs.Species.{Species}

-- "The lone leaf is a good tree."
mutual
  pub data Tree : Type 0 where
    leaf : ℕ → Tree
    node : Forest → Tree

  pub data Forest : Type 0 where
    nil : Forest
    cons : Tree → Forest → Forest

-- the species under a node
abbrev mutual
  pub under : Tree → Species
  under (leaf x) i = eqb x i
  under (node f) i = under_f f i

  pub under_f : Forest → Species
  under_f nil i = false
  under_f (cons t f) i = under t i || under_f f i

-- "A group is the set of species under a node, leaves and root included." In preorder.
abbrev mutual
  pub groups : Tree → List Species
  groups (leaf x) = under (leaf x) ∷ []
  groups (node f) = under_f f ∷ groups_f f

  pub groups_f : Forest → List Species
  groups_f nil = []
  groups_f (cons t f) = groups t ++ groups_f f

abbrev pub Group : Tree → Species → Type 0
Group t G = Memᴰ G (groups t)

abbrev pub SameGroups : Tree → Tree → Type 0
SameGroups t t' = (G : Species) → Group t G ↔ Group t' G

-- the leaves' species, from left to right
abbrev mutual
  pub leaves : Tree → List ℕ
  leaves (leaf x) = x ∷ []
  leaves (node f) = leaves_f f

  pub leaves_f : Forest → List ℕ
  leaves_f nil = []
  leaves_f (cons t f) = leaves t ++ leaves_f f

abbrev pub degree : Forest → ℕ
degree nil = 0
degree (cons t f) = suc (degree f)

abbrev pub elem : ℕ → List ℕ → Bool
elem x [] = false
elem x (y ∷ l) = eqb y x || elem x l

abbrev pub distinct : List ℕ → Bool
distinct [] = true
distinct (x ∷ l) = not (elem x l) && distinct l

-- "A node with children has [..] at least two children."
abbrev mutual
  pub branching : Tree → Bool
  branching (leaf x) = true
  branching (node f) = leb 2 (degree f) && branching_f f

  pub branching_f : Forest → Bool
  branching_f nil = true
  branching_f (cons t f) = branching t && branching_f f

-- and "no species stands twice"
abbrev pub well_formed : Tree → Bool
well_formed t = branching t && distinct (leaves t)

-- "its lowest species"
abbrev pub least : ℕ → List ℕ → ℕ
least x [] = x
least x (y ∷ l) = least (min x y) l

abbrev pub least_of : List ℕ → ℕ
least_of [] = 0
least_of (x ∷ l) = least x l

abbrev pub lowest : Tree → ℕ
lowest t = least_of (leaves t)

-- "House order: nodes in preorder, children by their lowest species."
abbrev pub before : Tree → Forest → Bool
before t nil = true
before t (cons u f) = ltb (lowest t) (lowest u)

abbrev mutual
  pub in_house_order : Tree → Bool
  in_house_order (leaf x) = true
  in_house_order (node f) = in_house_order_f f

  pub in_house_order_f : Forest → Bool
  in_house_order_f nil = true
  in_house_order_f (cons t f) = in_house_order t && (before t f && in_house_order_f f)

-- the tree put in house order: each child hangs before the first one with a higher lowest species
abbrev pub hang : Tree → Forest → Forest
hang t nil = cons t nil
hang t (cons u f) = cond (ltb (lowest t) (lowest u)) (cons t (cons u f)) (cons u (hang t f))

abbrev mutual
  pub house : Tree → Tree
  house (leaf x) = leaf x
  house (node f) = node (house_f f)

  pub house_f : Forest → Forest
  house_f nil = nil
  house_f (cons t f) = hang (house t) (house_f f)

-- s is a child of the node over f
abbrev pub Child : Tree → Forest → Type 0
Child s nil = ⊥
Child s (cons t f) = (s ≡ t) ⊎ Child s f

-- s and s' are two children of one node of T
pub data Siblings : Tree → Tree → Tree → Type 0 where
  top : {f : Forest} {s s' : Tree} → Child s f → Child s' f → s ≢ s' → Siblings (node f) s s'
  deep : {f : Forest} {k s s' : Tree} → Child k f → Siblings k s s' → Siblings (node f) s s'
