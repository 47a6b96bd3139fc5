-- An operation looks at what is handed in, in document 01's order: the first look that refuses is its answer. Below, the looks that several operations share.
use Rattle.std.specs.Prelude.{Bool, cond, ◌||◌, List, [], ◌∷◌, ◌≡◌, ℕ, eqb, ltb}
use Rattle.tables.specs.Bytes.{over, wrong_byte, wrong_length}
use Rattle.rules.specs.Faults.{fault}
use Rattle.bodies.specs.Nodes.{bad_length, nodes}
use Rattle.refusals.specs.Told.{Told, Value, number_of_nodes, told, value}
use Rattle.refusals.specs.Refusals.{refusal_told}
use Rattle.refusals.specs.declared.Refusal.{Refusal}
use Rattle.answers.specs.declared.Written.{Written}
use Rattle.refusals.specs.declared.Refusal.TheVariants.{BadByte, BadCounts, BadLength, BadTable, BadTree, ShortRoom}
use Rattle.std.specs.Prelude.{Ok, Err, Result}
use Rattle.bodies.specs.declared.Broken.{Broken}

-- what a look at what is handed in comes to: it passes, or refuses
abbrev pub Look : Type 0
Look = Result (Unit {0}) Refusal

-- refused where the condition holds
abbrev pub refuse_if : Bool → Refusal → Look
refuse_if c x = cond c (Err x) (Ok tt)

abbrev pub look_then : Look → Look → Look
look_then (Ok _) b = b
look_then (Err x) b = Err x

-- the first look of an order that refuses
abbrev pub first_refusal : List Look → Look
first_refusal [] = Ok tt
first_refusal (a ∷ l) = look_then a (first_refusal l)

-- ---- what comes of a look, for an operation that answers `done w` or `refused x`

abbrev pub answered : {A W : Type 0} → (W → A) → (Refusal → A) → Look → W → A
answered done refused (Ok _) w = done w
answered done refused (Err x) w = refused x

-- "Every number but 0 changes no lent byte": m where nothing was refused, else what was lent, o
abbrev pub after : {B : Type 0} → Look → B → B → B
after (Ok _) m o = m
after (Err x) m o = o

-- The contract of an operation that looks at l and is lent o: it answers `done w` and leaves m, or it answers the first refusal and leaves o.
pub record Settled {A W B : Type 0} (done : W → A) (refused : Refusal → A) (l : List Look) (w : W) (m o : B) (r : A) (o' : B) : Type 0 where
  pub is : r ≡ answered done refused (first_refusal l) w
  pub holds : o' ≡ after (first_refusal l) m o

-- the number with its values: 0 with vs where nothing was refused
abbrev pub look_told : Look → List Value → Told
look_told (Ok _) vs = told 0 vs
look_told (Err x) vs = refusal_told x

-- "order and build: node count", and reading a Newick text
abbrev pub written_told : Written → Told
written_told w = told 0 (value number_of_nodes w.nodes ∷ [])

-- ---- the looks that several operations share

-- 2, where a number of species is handed in: "n is 0 or over 64"
abbrev pub wrong_count : ℕ → Bool
wrong_count n = eqb n 0 || ltb 64 n

abbrev pub look_count : ℕ → Look
look_count n = refuse_if (wrong_count n) BadCounts

-- 7: "table length is not C(n,3)", for a table of l bytes
abbrev pub look_table : ℕ → ℕ → Look
look_table n l = refuse_if (wrong_length n l) BadTable

-- 8: "a table byte is over" 15, with "first place"; request T-05: "Refusal 8 is now for a byte over 15"
abbrev pub look_bytes : List ℕ → Look
look_bytes t = refuse_if (wrong_byte t) (BadByte (over t))

-- 5: "body length 0, odd or over 254", for tree k and a body of l bytes
abbrev pub look_length : ℕ → ℕ → Look
look_length k l = refuse_if (bad_length l) (BadLength k)

-- 6: "a tree rule is broken"
abbrev pub ruled : Result (Unit {0}) Broken → Look
ruled (Ok _) = Ok tt
ruled (Err x) = Err (BadTree x)

abbrev pub look_rules : ℕ → ℕ → List ℕ → Look
look_rules k n b = ruled (fault k (nodes b) n)

-- 9: "output room is too short": under k bytes, for a room of l bytes
abbrev pub look_room : ℕ → ℕ → Look
look_room k l = refuse_if (ltb l k) ShortRoom
