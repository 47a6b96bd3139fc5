-- Beyond what request T-07 asks: the final tree does not depend on which unearned group goes first, and it is the finest tree that passes and has only groups of the
-- candidate. E are the entered triplets.
use Rattle.std.proofs.Math.Bool.{So}
use Rattle.std.specs.Prelude.{List, [], ◌∷◌, ◌≡◌, ℕ}
use Rattle.sets.specs.Species.{Species}
use Rattle.trees.specs.Check.{Earned, R}
use Rattle.trees.specs.Loosen.{NotEarned}
use Rattle.trees.specs.Trees.{Group, Tree, house, in_house_order, under, well_formed}
use Rattle.trees.specs.Triplets.{Triplets}
use Rattle.tables.specs.Bytes.{entered}
use Rattle.bodies.specs.Draws.{tree_of}
use Rattle.refusals.specs.Told.{dropped_count, number_of_nodes, told, value}
use Rattle.promises.specs.Operations.{Checker, Loosener, Operations}
use Rattle.promises.specs.Demand2.{front}
use Rattle.promises.specs.Loosening.{TreeWithout}

-- as `Drops`, but each time any group that is not earned may go
pub data DropsAny : Triplets → Tree → List Species → Tree → Type 0 where
  any_done : {E : Triplets} {T : Tree} → Earned (R E T) T → DropsAny E T [] T
  any_next : {E : Triplets} {T U T' : Tree} {G : Species} {l : List Species} → NotEarned (R E T) T G → TreeWithout G T U → DropsAny E U l T' → DropsAny E T (G ∷ l) T'

-- whatever goes, and when: the same tree is left
abbrev pub OneLeft : Type 0
OneLeft = (E : Triplets) (T F F' : Tree) (l l' : List Species) → So (well_formed T) → So (in_house_order T) → DropsAny E T l F → DropsAny E T l' F' → F ≡ F'

-- so what any other order leaves is the final tree of f
abbrev pub AnyOrder : Loosener → Type 0
AnyOrder f = (n m k : ℕ) (t b o d : List ℕ) → (f n t b o d).told ≡ told 0 (value number_of_nodes m ∷ value dropped_count k ∷ [])
    → (l : List Species) (F : Tree) → DropsAny (entered t) (house (tree_of b)) l F → tree_of (front m (f n t b o d).after.room) ≡ F

-- a body p that passes the check c against the same table, with the candidate's species and none but its groups, has none but groups of the final tree of f
abbrev pub HasAllGroups : Loosener → Checker → Type 0
HasAllGroups f c = (n m k : ℕ) (t b o d : List ℕ) → (f n t b o d).told ≡ told 0 (value number_of_nodes m ∷ value dropped_count k ∷ [])
    → (p : List ℕ) → (c n t p).number ≡ 0 → ((x : ℕ) → under (tree_of p) x ≡ under (tree_of b) x) → ((H : Species) → Group (tree_of p) H → Group (tree_of b) H)
    → (H : Species) → Group (tree_of p) H → Group (tree_of (front m (f n t b o d).after.room)) H

pub record Finest (L : Operations) : Type 0 where
  pub any_order : AnyOrder L.loosen
  pub all_groups : HasAllGroups L.loosen L.check
