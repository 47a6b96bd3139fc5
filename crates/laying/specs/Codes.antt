-- What document 01 returns with a number, as plain numbers laid into lent room. Document 01, "Numbers handed back".
use Rattle.std.specs.Prelude.{List, [], ◌∷◌, ◌++◌, ◌≡◌, ℕ}
use Rattle.bodies.specs.declared.Fault.{Fault}
use Rattle.bodies.specs.declared.Fault.TheVariants.{BadParent, BadSpecies, SeenBefore, OnlyChild}
use Rattle.refusals.specs.Told.{Told, unnamed}
use Rattle.std.specs.Prelude.{Option, Some, None}

-- which fault, 1 to 4 in document 01's order, and its own data: "bad parent (that parent), bad species (it), species seen before (the earlier
-- node), or only child", which has none and gives 0
abbrev pub fault_code : Fault → List ℕ
fault_code (BadParent p) = 1 ∷ p ∷ []
fault_code (BadSpecies s) = 2 ∷ s ∷ []
fault_code (SeenBefore i) = 3 ∷ i ∷ []
fault_code OnlyChild = 4 ∷ 0 ∷ []

-- the rule that is broken, where one is
abbrev pub rule_code : Option Fault → List ℕ
rule_code None = []
rule_code (Some f) = fault_code f

-- o with the numbers laid over it from place 0 on, as far as there is room; its length is kept
abbrev pub laid : List ℕ → List ℕ → List ℕ
laid [] o = o
laid (v ∷ vs) [] = []
laid (v ∷ vs) (x ∷ o) = v ∷ laid vs o

-- a number was answered with the numbers vs: it is the result r, and they are laid over o, which gives o'
pub record Lays (k : ℕ) (vs : List ℕ) (o : List ℕ) (r : ℕ) (o' : List ℕ) : Type 0 where
  pub is : r ≡ k
  pub holds : o' ≡ laid vs o

-- what is told was handed back: the values, and behind them the rule that is broken
abbrev pub Handed : Told → List ℕ → ℕ → List ℕ → Type 0
Handed t = Lays t.number (unnamed t.values ++ rule_code t.rule)
