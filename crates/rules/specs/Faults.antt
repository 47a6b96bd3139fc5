-- The first rule that nodes break. Document 01, "Numbers handed back": "Inside 6: parents of all nodes first; then node by node, bad species, seen
-- before, only child."
use Rattle.std.specs.Prelude.{Bool, cond, not, ◌&&◌, ℕ, zero, suc, eqb, ltb, length}
use Rattle.bodies.specs.declared.Fault.{Fault}
use Rattle.bodies.specs.declared.Fault.TheVariants.{BadParent, BadSpecies, SeenBefore, OnlyChild}
use Rattle.bodies.specs.Nodes.{Nodes, children}
use Rattle.std.specs.Prelude.{Ok, Err, Result}
use Rattle.bodies.specs.declared.Broken.{Broken}

-- the first verdict that is not fine
abbrev pub or_else : Result (Unit {0}) Broken → Result (Unit {0}) Broken → Result (Unit {0}) Broken
or_else (Ok _) w = w
or_else (Err b) w = Err b

-- the first of f i, f (i + 1), .., k of them
unfoldable pub first_break : (ℕ → Result (Unit {0}) Broken) → ℕ → ℕ → Result (Unit {0}) Broken
first_break f zero i = Ok tt
first_break f (suc k) i = or_else (f i) (first_break f k (suc i))

-- node 0's parent is 255, and a later node's parent is a smaller node number
abbrev pub right_parent : Nodes → ℕ → Bool
right_parent v i = cond (eqb i 0) (eqb (v.parent i) 255) (ltb (v.parent i) i)

-- a node without children has a species below n, and one with m > 0 children has 255
abbrev pub right_species : ℕ → ℕ → ℕ → Bool
right_species n s m = cond (eqb m 0) (ltb s n) (eqb s 255)

-- the first leaf with species s among the m nodes from j on; j + m where there is none
unfoldable pub seen : Nodes → ℕ → ℕ → ℕ → ℕ
seen v s zero j = j
seen v s (suc m) j = cond (eqb (v.species j) s && eqb (length (children v j)) 0) j (seen v s m (suc j))

-- the first leaf before node i with species s, where node i has no children (m is 0); i where there is none
abbrev pub earlier : Nodes → ℕ → ℕ → ℕ → ℕ
earlier v s m i = cond (eqb m 0) (seen v s i 0) i

module _ (k : ℕ) (v : Nodes) where
  -- tree k breaks a rule at node i
  abbrev pub breaks : ℕ → Fault → Result (Unit {0}) Broken
  breaks i f = Err (record { tree = k; node = i; fault = f })

  abbrev pub parent_fault : ℕ → Result (Unit {0}) Broken
  parent_fault i = cond (right_parent v i) (Ok tt) (breaks i (BadParent (v.parent i)))

  -- "node by node, bad species, seen before, only child", of a node with species s and m children
  abbrev pub rule_fault : ℕ → ℕ → ℕ → ℕ → Result (Unit {0}) Broken
  rule_fault n s m i =
      cond (not (right_species n s m)) (breaks i (BadSpecies s))
      (cond (ltb (earlier v s m i) i) (breaks i (SeenBefore (earlier v s m i)))
      (cond (eqb m 1) (breaks i OnlyChild)
      (Ok tt)))

  abbrev pub node_fault : ℕ → ℕ → Result (Unit {0}) Broken
  node_fault n i = rule_fault n (v.species i) (length (children v i)) i

  unfoldable pub fault : ℕ → Result (Unit {0}) Broken
  fault n = or_else (first_break parent_fault v.count 0) (first_break (node_fault n) v.count 0)
