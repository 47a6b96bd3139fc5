-- What a fan does not touch. Request T-05: "Build and check use only the bits 1, 2 and 4; refusals 8 and 16 read the whole byte, and 11 returns it."
use Rattle.std.specs.Prelude.{List, [], ◌∷◌, ◌≢◌, ◌⊎◌, ◌≡◌, ℕ, get_or, length}
use Rattle.sets.specs.Sets.{has}
use Rattle.tables.specs.Bytes.{Small, fan_bit}
use Rattle.outside.specs.Reaches.{Enclosed}
use Rattle.refusals.specs.Told.{Told, table_byte, told, triple_index, value}
use Rattle.promises.specs.Operations.{Operations}

-- two tables of one length that differ in the bits 8 alone, and in which no byte is over 15
pub record FansApart (t t' : List ℕ) : Type 0 where
  pub long : length t ≡ length t'
  pub bits : (i k : ℕ) → k ≢ fan_bit → has (get_or t i 0) k ≡ has (get_or t' i 0) k
  pub small : (i : ℕ) → Small (get_or t i 0)
  pub small' : (i : ℕ) → Small (get_or t' i 0)

-- the same answer, but for the byte that 11 returns
abbrev pub SameVerdict : List ℕ → List ℕ → Told → Told → Type 0
SameVerdict t t' r r' = (r ≡ r') ⊎ ((i : ℕ)
    × (r ≡ told 11 (value triple_index i ∷ value table_byte (get_or t i 0) ∷ []))
    × (r' ≡ told 11 (value triple_index i ∷ value table_byte (get_or t' i 0) ∷ [])))

-- such tables give the same build, the plain one and the veto build, where 16 refuses neither, the same check, and the same loosening, which uses what the check does
pub record FansAside (L : Operations) : Type 0 where
  pub building : (n s : ℕ) (t t' o : List ℕ) → FansApart t t' → Enclosed n s t → Enclosed n s t' → L.build n s t o ≡ L.build n s t' o
  pub vetoing : (n s : ℕ) (t t' o : List ℕ) → FansApart t t' → Enclosed n s t → Enclosed n s t' → L.veto n s t o ≡ L.veto n s t' o
  pub checking : (n : ℕ) (t t' b : List ℕ) → FansApart t t' → SameVerdict t t' (L.check n t b) (L.check n t' b)
  pub loosening : (n : ℕ) (t t' b o d : List ℕ) → FansApart t t'
      → SameVerdict t t' (L.loosen n t b o d).told (L.loosen n t' b o d).told × ((L.loosen n t b o d).after ≡ (L.loosen n t' b o d).after)
