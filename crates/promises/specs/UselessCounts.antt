-- Useless counts of the triples looked at, by what is wrong with them, and which promise of request T-09 each breaks. v: false for the plain build, true for the veto build.
use Rattle.std.specs.Prelude.{Bool, cond, false, true, List, [], ◌∷◌, ◌++◌, ◌≢◌, ◌≡◌, ℕ, ◌+◌, eqb}
use Rattle.sets.specs.Sets.{has, size}
use Rattle.trees.specs.Combinations.{C}
use Rattle.trees.specs.Visits.{triples, visited}
use Rattle.tables.specs.Bytes.{entered}
use Rattle.refusals.specs.Told.{looked_count, told, value}
use Rattle.building.specs.Builds.{looked_by}
use Rattle.promises.specs.Operations.{Builder, Given, builds, gives, vetoes}
use Rattle.promises.specs.Inputs.{Buildable}
use Rattle.promises.specs.Demand2.{BuildsAll}
use Rattle.promises.specs.Counting.{CountsAll, Looked, OthersNone}

-- all but the last
abbrev pub but_last : {A : Type 0} → List A → List A
but_last [] = []
but_last (x ∷ []) = []
but_last (x ∷ (y ∷ l)) = x ∷ but_last (y ∷ l)

-- ---- the kinds

-- one that counts nothing
abbrev pub CountsNothing : Builder → Type 0
CountsNothing f = (n s : ℕ) (t o : List ℕ) → Buildable n s t o → Looked (f n s t o).told 0

-- one that counts the whole set twice
abbrev pub CountsTwice : Bool → Builder → Type 0
CountsTwice v f = (n s : ℕ) (t o : List ℕ) → Buildable n s t o → Looked (f n s t o).told (C (size s) 3 + triples n (visited v (entered t) n (has s)))

-- one that with 10 forgets the set at which it stopped, which is the last one visited
abbrev pub ForgetsStopped : Builder → Type 0
ForgetsStopped f = (n s : ℕ) (t o : List ℕ) → Buildable n s t o → (f n s t o).told.number ≡ 10 → Looked (f n s t o).told (triples n (but_last (visited false (entered t) n (has s))))

-- one that somewhere returns a count with another refusal
pub record CountsRefused (f : Builder) : Type 0 where
  pub n : ℕ
  pub s : ℕ
  pub t : List ℕ
  pub o : List ℕ
  pub refused : (f n s t o).told.number ≢ 0
  pub other : (f n s t o).told.number ≢ 10
  pub count : ℕ
  pub some : count ≢ 0
  pub tells : Looked (f n s t o).told count

-- ---- one of a kind

-- as g, but c is told for the triples looked at
abbrev pub telling : ℕ → Given → Given
telling c g = gives (told g.told.number (but_last g.told.values ++ (value looked_count c ∷ []))) g.after

-- as f, but so where f answers k
abbrev pub telling_at : ℕ → (ℕ → ℕ → List ℕ → ℕ) → Builder → Builder
telling_at k c f n s t o = cond (eqb (f n s t o).told.number k) (telling (c n s t) (f n s t o)) (f n s t o)

abbrev pub countless : Builder → Builder
countless f n s t o = telling 0 (f n s t o)

abbrev pub doubling : Bool → Builder → Builder
doubling v f = telling_at 0 (λ n s t. C (size s) 3 + looked_by v n s t) f

abbrev pub forgetful : Builder
forgetful = telling_at 10 (λ n s t. triples n (but_last (visited false (entered t) n (has s)))) builds

-- tells with 9, the room being too short, what it would have looked at
abbrev pub premature : Bool → Builder → Builder
premature v f = telling_at 9 (λ n s t. looked_by v n s t) f

-- ---- what they break

abbrev pub CountingNothingBreaks : Type 0
CountingNothingBreaks = (v : Bool) (f : Builder) → CountsNothing f → CountsAll v f → ⊥

abbrev pub CountingTwiceBreaks : Type 0
CountingTwiceBreaks = (v : Bool) (f : Builder) → CountsTwice v f → CountsAll v f → ⊥

abbrev pub ForgettingBreaks : Type 0
ForgettingBreaks = (f : Builder) → ForgetsStopped f → BuildsAll f → CountsAll false f → ⊥

abbrev pub CountingRefusedBreaks : Type 0
CountingRefusedBreaks = (f : Builder) → CountsRefused f → OthersNone f → ⊥

-- so each of those above, in place of either build
pub record EachMiscounts : Type 0 where
  pub nothing : CountsAll false (countless builds) → ⊥
  pub nothing_veto : CountsAll true (countless vetoes) → ⊥
  pub twice : CountsAll false (doubling false builds) → ⊥
  pub twice_veto : CountsAll true (doubling true vetoes) → ⊥
  pub stopped : CountsAll false forgetful → ⊥
  pub refused : OthersNone (premature false builds) → ⊥
  pub refused_veto : OthersNone (premature true vetoes) → ⊥
