-- What is promised of loosening. Request T-07: "While an unearned one exists, drop the first in house order, giving its children to its parent; R is worked out afresh
-- each time. Write the final tree in house order and the dropped sets in the order they went; return the node count and how many were dropped. The final tree passes
-- the whole check, and a tree that passed already comes back with nothing dropped."
use Rattle.std.proofs.Math.Bool.{So}
use mathlib.Core.List.{List, [], ◌∷◌, ◌++◌, Memᴰ}
use Rattle.std.specs.Prelude.{◌↔◌, ◌≢◌, ◌⊎◌, ◌≡◌, ℕ, ◌-◌, ◌≤◌, drop, length, take}
use Rattle.sets.specs.Species.{Species, Two, below, members}
use Rattle.trees.specs.Check.{Earned, PC, R}
use Rattle.trees.specs.Loosen.{Different, NotEarned}
use Rattle.trees.specs.Trees.{Group, Tree, groups, house, in_house_order, under, well_formed}
use Rattle.trees.specs.Triplets.{Triplets}
use Rattle.tables.specs.Bytes.{entered}
use Rattle.bodies.specs.Draws.{ordered, tree_of, written}
use Rattle.bodies.specs.Nodes.{nodes}
use Rattle.refusals.specs.Told.{dropped_count, number_of_nodes, told, value}
use Rattle.easing.specs.Eases.{Lent, lent, numbers}
use Rattle.promises.specs.Operations.{Checker, GivenOf, Loosener, Operations, gives}
use Rattle.promises.specs.Inputs.{Loosenable}
use Rattle.promises.specs.Demand2.{HouseBody, Wrote, front}

-- ---- which sets go, and in which order: E are the entered triplets

-- of a tree T in house order, G is "the first in house order" that is not earned, by the R of T itself: each group before it in preorder is
pub record FirstUnearned (E : Triplets) (T : Tree) (G : Species) : Type 0 where
  pub before : List Species
  pub behind : List Species
  pub place : groups T ≡ before ++ (G ∷ behind)
  pub unearned : NotEarned (R E T) T G
  pub earlier : (H : Species) → Memᴰ H before → NotEarned (R E T) T H → ⊥

-- T' is T with the node of G gone, "giving its children to its parent": a tree in house order with exactly the other groups
pub record TreeWithout (G : Species) (T T' : Tree) : Type 0 where
  pub formed : So (well_formed T')
  pub housed : So (in_house_order T')
  pub groups : (H : Species) → Group T' H ↔ (Group T H × (H ≢ G))

-- "While an unearned one exists, drop the first in house order": from T the sets of the list went, one after the other, and the last tree was left
pub data Drops : Triplets → Tree → List Species → Tree → Type 0 where
  done : {E : Triplets} {T : Tree} → Earned (R E T) T → Drops E T [] T
  next : {E : Triplets} {T U T' : Tree} {G : Species} {l : List Species} → FirstUnearned E T G → TreeWithout G T U → Drops E U l T' → Drops E T (G ∷ l) T'

-- ---- good input, the table of which does not contradict the candidate

-- o and d are the room and the list that were lent
pub record LoosensRight (n : ℕ) (t b o d : List ℕ) (g : GivenOf Lent) : Type 0 where
  pub count : ℕ
  pub dropped : List Species
  -- "return the node count and how many were dropped"
  pub told_is : g.told ≡ told 0 (value number_of_nodes count ∷ value dropped_count (length dropped) ∷ [])
  -- "Write the final tree in house order", and nothing behind it
  pub wrote : Wrote n count o g.after.room
  pub housed : HouseBody (front count g.after.room)
  -- "and the dropped sets in the order they went", and nothing behind them
  pub listed : take (length dropped) g.after.list ≡ numbers dropped
  pub behind : drop (length dropped) g.after.list ≡ drop (length dropped) d
  pub went : Drops (entered t) (house (tree_of b)) dropped (tree_of (front count g.after.room))
  -- the species are the candidate's; each dropped set was the group of an inner node, "the root's aside", and none went twice
  pub species : (x : ℕ) → under (tree_of (front count g.after.room)) x ≡ under (tree_of b) x
  pub were : (G : Species) → Memᴰ G dropped → Group (tree_of b) G × Two G × (G ≢ under (tree_of b))
  pub once : Different dropped
  -- the groups are exactly the candidate's less the dropped ones
  pub groups : (H : Species) → Group (tree_of (front count g.after.room)) H ↔ (Group (tree_of b) H × (Memᴰ H dropped → ⊥))
  -- at least two fewer were dropped than there are species, and so 62 at most
  pub few : length dropped ≤ length (members n (under (tree_of b))) - 2
  pub most : length dropped ≤ 62

abbrev pub LoosensAll : Loosener → Type 0
LoosensAll f = (n : ℕ) (t b o d : List ℕ) → Loosenable n t b o d → PC (entered t) (below n) (tree_of b) → LoosensRight n t b o d (f n t b o d)

-- that leaves nothing open: any two that keep it give the same to good input
abbrev pub OneLoosening : Type 0
OneLoosening = (f h : Loosener) → LoosensAll f → LoosensAll h → (n : ℕ) (t b o d : List ℕ) → Loosenable n t b o d → PC (entered t) (below n) (tree_of b) → f n t b o d ≡ h n t b o d

-- ---- and the check c

-- "The final tree passes the whole check": where f answers 0 with m nodes, the check of their bytes against the same table
abbrev pub FinalPasses : Loosener → Checker → Type 0
FinalPasses f c = (n m k : ℕ) (t b o d : List ℕ) → (f n t b o d).told ≡ told 0 (value number_of_nodes m ∷ value dropped_count k ∷ []) → c n t (front m (f n t b o d).after.room) ≡ told 0 []

-- "a tree that passed already comes back", in house order, "with nothing dropped"
abbrev pub ComesBack : Loosener → Checker → Type 0
ComesBack f c = (n : ℕ) (t b o d : List ℕ) → (c n t b).number ≡ 0 → length b ≤ length o → 62 ≤ length d
    → f n t b o d ≡ gives (told 0 (value number_of_nodes (nodes b).count ∷ value dropped_count 0 ∷ [])) (lent (written o (ordered b)) d)

-- "Refusals: 2, 7, 8, 5, 6, then 11 as in the check": with the same values, whatever is lent
abbrev pub RefusesAsCheck : Loosener → Checker → Type 0
RefusesAsCheck f c = (n : ℕ) (t b o d : List ℕ) → (c n t b).number ≢ 0 → (c n t b).number ≢ 12 → (f n t b o d).told ≡ c n t b

-- "then 9": no other number is left
abbrev pub ThenNine : Loosener → Checker → Type 0
ThenNine f c = (n : ℕ) (t b o d : List ℕ) → ((c n t b).number ≡ 0) ⊎ ((c n t b).number ≡ 12) → ((f n t b o d).told.number ≡ 0) ⊎ ((f n t b o d).told ≡ told 9 [])

pub record Loosening (L : Operations) : Type 0 where
  pub loosening : LoosensAll L.loosen
  pub passes : FinalPasses L.loosen L.check
  pub comes_back : ComesBack L.loosen L.check
  pub as_check : RefusesAsCheck L.loosen L.check
  pub then_9 : ThenNine L.loosen L.check
