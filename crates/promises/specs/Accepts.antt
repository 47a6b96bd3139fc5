-- Bad input gets its numbered refusal, and good input does not: an operation refuses what is handed in exactly when it is not good.
use Rattle.std.specs.Prelude.{List, ◌↔◌, ◌⊎◌, ◌≡◌, ℕ}
use Rattle.sets.specs.Species.{below}
use Rattle.trees.specs.Check.{PC}
use Rattle.tables.specs.Bytes.{entered}
use Rattle.bodies.specs.Draws.{tree_of}
use Rattle.collections.specs.Collection.{Collection}
use Rattle.promises.specs.Operations.{Operations}
use Rattle.promises.specs.Inputs.{Buildable, Checkable, Enterable, Listable, Loosenable, Orderable, Parsable, Renderable}

-- 10 of the build, 11 and 12 of the check, and 11 of loosening speak of the outcome: they are no refusals of input. In loosening 11 comes before 9: where the table
-- contradicts the candidate it is told, whatever is lent
pub record Accepts (L : Operations) : Type 0 where
  pub reading : (b : List ℕ) → ((L.read b).number ≡ 0) ↔ Collection b
  pub listing : (b t : List ℕ) → ((L.list b t).told.number ≡ 0) ↔ Listable b t
  pub entering : (n : ℕ) (rs : List (List ℕ)) (t : List ℕ) → ((L.enter n rs t).told.number ≡ 0) ↔ Enterable n rs t
  pub ordering : (n : ℕ) (b o : List ℕ) → ((L.order n b o).told.number ≡ 0) ↔ Orderable n b o
  pub building : (n s : ℕ) (t o : List ℕ) → (((L.build n s t o).told.number ≡ 0) ⊎ ((L.build n s t o).told.number ≡ 10)) ↔ Buildable n s t o
  pub vetoing : (n s : ℕ) (t o : List ℕ) → ((L.veto n s t o).told.number ≡ 0) ↔ Buildable n s t o
  pub checking : (n : ℕ) (t b : List ℕ) → (((L.check n t b).number ≡ 0) ⊎ (((L.check n t b).number ≡ 11) ⊎ ((L.check n t b).number ≡ 12))) ↔ Checkable n t b
  pub loosening : (n : ℕ) (t b o d : List ℕ) → ((L.loosen n t b o d).told.number ≡ 0) ↔ (Loosenable n t b o d × PC (entered t) (below n) (tree_of b))
  pub loosening_11 : (n : ℕ) (t b o d : List ℕ) → ((L.loosen n t b o d).told.number ≡ 11) ↔ (Checkable n t b × (PC (entered t) (below n) (tree_of b) → ⊥))
  pub parsing : (n : ℕ) (w o : List ℕ) → ((L.parse n w o).told.number ≡ 0) ↔ Parsable n w o
  pub rendering : (n : ℕ) (b o : List ℕ) → ((L.render n b o).told.number ≡ 0) ↔ Renderable n b o
