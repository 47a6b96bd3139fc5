-- Document 01, "Numbers handed back": a number, and what is returned with it.
use Rattle.std.specs.Prelude.{List, [], ◌∷◌, ℕ}
use Rattle.std.specs.Prelude.{Option, None}
use Rattle.bodies.specs.declared.Fault.{Fault}

-- what the table lists as returned with a number, by its name there
pub data Name : Type 0 where
  species_count : Name
  tree_count : Name
  number_of_nodes : Name
  tree_number : Name
  node_number : Name
  left_over : Name
  first_place : Name
  stopping_set : Name
  triple_index : Name
  table_byte : Name
  first_record : Name
  byte_place : Name
  text_length : Name
  -- request T-03: "Listing and entering now also return the set that occurs"
  occurring_set : Name
  -- request T-07: "return the node count and how many were dropped"
  dropped_count : Name
  -- request T-09: "the number of triples it looked at"
  looked_count : Name

-- a number with its name
pub record Value : Type 0 where
  pub name : Name
  pub number : ℕ

abbrev pub value : Name → ℕ → Value
value k x = record { name = k; number = x }

-- the values without their names
abbrev pub unnamed : List Value → List ℕ
unnamed [] = []
unnamed (v ∷ l) = v.number ∷ unnamed l

-- the number, its values, and the rule that is broken, with its own data: in 6 alone
pub record Told : Type 0 where
  pub number : ℕ
  pub values : List Value
  pub rule : Option Fault

abbrev pub told : ℕ → List Value → Told
told k vs = record { number = k; values = vs; rule = None }
