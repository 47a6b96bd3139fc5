-- Useless functions in place of loosening, by what is wrong with them, and that each breaks what request T-07 promises. As in `Useless`, each kind is said on good input
-- alone, here that nothing contradicts.
use Rattle.std.specs.Prelude.{Bool, cond, false, true, ◌||◌, List, [], ◌∷◌, ◌≢◌, ◌≡◌, ℕ, eqb, leb, length, take}
use Rattle.std.proofs.Math.Bool.{So}
use Rattle.sets.specs.Species.{Species, Two, below, members}
use Rattle.trees.specs.Check.{PC, R}
use Rattle.trees.specs.Loosen.{Loosened, drop, same_set, unearned}
use Rattle.trees.specs.Trees.{Group, Tree, groups, groups_f, house, leaf, node, under}
use Rattle.trees.specs.Triplets.{Triplets}
use Rattle.tables.specs.Bytes.{entered}
use Rattle.bodies.specs.Draws.{tree_of}
use Rattle.refusals.specs.Told.{dropped_count, number_of_nodes, told, value}
use Rattle.easing.specs.Eases.{laid_out, lent, numbers, tally}
use Rattle.loosening.specs.Loosens.{tally_values}
use Rattle.promises.specs.Operations.{Loosener, gives, loosens}
use Rattle.promises.specs.Inputs.{Loosenable}
use Rattle.promises.specs.Demand2.{front}
use Rattle.promises.specs.Loosening.{LoosensAll}
use Rattle.promises.specs.Useless.{on_zero, star_of}

-- ---- the kinds

-- one that drops everything: of two species or more its tree has no group but the root's
abbrev pub DropsAll : Loosener → Type 0
DropsAll f = (n : ℕ) (t b o d : List ℕ) → Loosenable n t b o d → PC (entered t) (below n) (tree_of b) → (m k : ℕ) → (f n t b o d).told ≡ told 0 (value number_of_nodes m ∷ value dropped_count k ∷ [])
    → (G : Species) → Group (tree_of (front m (f n t b o d).after.room)) G → Two G → G ≡ under (tree_of b)

-- one that drops nothing
abbrev pub DropsNone : Loosener → Type 0
DropsNone f = (n : ℕ) (t b o d : List ℕ) → Loosenable n t b o d → PC (entered t) (below n) (tree_of b) → (m k : ℕ) → (f n t b o d).told ≡ told 0 (value number_of_nodes m ∷ value dropped_count k ∷ [])
    → k ≡ 0

-- the numbers of the first list stand in the second, in that order
abbrev pub in_order' : List ℕ → List ℕ → Bool
in_order' [] l = true
in_order' (x ∷ k) [] = false
in_order' (x ∷ k) (y ∷ l) = cond (eqb x y) (in_order' k l) (in_order' (x ∷ k) l)

-- one that tests each group once, in one pass: whatever the test, the sets that it drops stand in the order of the candidate's groups
abbrev pub OnePass : Loosener → Type 0
OnePass f = (n : ℕ) (t b o d : List ℕ) → Loosenable n t b o d → PC (entered t) (below n) (tree_of b) → (m k : ℕ) → (f n t b o d).told ≡ told 0 (value number_of_nodes m ∷ value dropped_count k ∷ [])
    → So (in_order' (take k (f n t b o d).after.list) (numbers (groups (house (tree_of b)))))

-- one that somewhere gives something else than ours
pub record Strays (f : Loosener) : Type 0 where
  pub n : ℕ
  pub t : List ℕ
  pub b : List ℕ
  pub o : List ℕ
  pub d : List ℕ
  pub good : Loosenable n t b o d
  pub pc : PC (entered t) (below n) (tree_of b)
  pub other : f n t b o d ≢ loosens n t b o d

-- ---- one of a kind, which refuses as ours does

-- on 0 it lays r out, of n, the entered triplets and the candidate in house order
abbrev pub laying : (ℕ → Triplets → Tree → Loosened) → Loosener
laying r n t b o d =
    let w = r n (entered t) (house (tree_of b)) in
    on_zero (loosens n t b o d) (gives (told 0 (tally_values (tally w))) (laid_out w (lent o d)))

-- the groups of inner nodes, in a list of groups
abbrev pub inner_ones : ℕ → List Species → List Species
inner_ones N [] = []
inner_ones N (G ∷ l) = cond (leb 2 (length (members N G))) (G ∷ inner_ones N l) (inner_ones N l)

-- those of a tree but the root's
abbrev pub inner_groups : ℕ → Tree → List Species
inner_groups N (leaf x) = []
inner_groups N (node f) = inner_ones N (groups_f f)

-- all of them go: the star is left
abbrev pub flattened : ℕ → Triplets → Tree → Loosened
flattened n E T = record { final = star_of (members n (under T)); dropped = inner_groups n T }

-- none goes
abbrev pub untouched : ℕ → Triplets → Tree → Loosened
untouched n E T = record { final = T; dropped = [] }

abbrev pub drop_each : ℕ → List Species → Tree → Tree
drop_each N [] T = T
drop_each N (G ∷ l) T = drop_each N l (drop N G T)

-- those go that are not earned in the candidate as it came
abbrev pub swept : ℕ → Triplets → Tree → Loosened
swept n E T = let l = unearned (R E T) n T in record { final = drop_each n l T; dropped = l }

abbrev pub has_set : ℕ → Species → List Species → Bool
has_set N G [] = false
has_set N G (H ∷ l) = same_set N G H || has_set N G l

-- of the list l those go that are not earned when their turn comes, R and the siblings afresh
abbrev pub in_turn : Triplets → ℕ → List Species → Tree → Loosened
in_turn E N [] T = record { final = T; dropped = [] }
in_turn E N (G ∷ l) T = cond (has_set N G (unearned (R E T) N T)) (let r = in_turn E N l (drop N G T) in record { final = r.final; dropped = G ∷ r.dropped }) (in_turn E N l T)

-- each group has one turn, in house order
abbrev pub passed_over : ℕ → Triplets → Tree → Loosened
passed_over n E T = in_turn E n (groups T) T

-- ---- what they break

abbrev pub DroppingAllBreaks : Type 0
DroppingAllBreaks = (f : Loosener) → DropsAll f → LoosensAll f → ⊥

abbrev pub DroppingNoneBreaks : Type 0
DroppingNoneBreaks = (f : Loosener) → DropsNone f → LoosensAll f → ⊥

abbrev pub OnePassBreaks : Type 0
OnePassBreaks = (f : Loosener) → OnePass f → LoosensAll f → ⊥

abbrev pub StrayingBreaks : Type 0
StrayingBreaks = (f : Loosener) → Strays f → LoosensAll f → ⊥

-- so each of those above
pub record EachBreaks : Type 0 where
  pub flat : LoosensAll (laying flattened) → ⊥
  pub still : LoosensAll (laying untouched) → ⊥
  pub old : LoosensAll (laying swept) → ⊥
  pub once : LoosensAll (laying passed_over) → ⊥
