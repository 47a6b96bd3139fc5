-- Good input of each operation, in document 01's sentences; of reading it is `Collection`. What a count, a table and a body are, `answers` says.
use Rattle.std.specs.Prelude.{List, [], ◌≢◌, ◌≡◌, ℕ, ◌<◌, ◌≤◌, get_or, length}
use Rattle.sets.specs.Sets.{size}
use Rattle.triples.specs.Index.{C}
use Rattle.trees.specs.Trees.{Tree}
use Rattle.bodies.specs.Draws.{body_of}
use Rattle.bodies.specs.Nodes.{Good, nodes, room_for}
use Rattle.newick.specs.Texts.{Readable}
use Rattle.answers.specs.Inputs.{Body, Count, Table}
use Rattle.outside.specs.Reaches.{Enclosed}
use Rattle.admitting.specs.GoodSet.{GoodSet}
use Rattle.collections.specs.Collection.{Collection}
use Rattle.collections.specs.Layout.{species}
use Rattle.records.specs.Records.{left, outer, right}
use Rattle.rendering.specs.Texts.{newick_text}

-- "Listing: the collection's refusals, then 7"
pub record Listable (b t : List ℕ) : Type 0 where
  pub collection : Collection b
  pub long : length t ≡ C (species b) 3

-- a record that does not repeat a species, and has none that is not below n
pub record Triplet (n : ℕ) (r : List ℕ) : Type 0 where
  pub left_below : left r < n
  pub right_below : right r < n
  pub outer_below : outer r < n
  pub pair : left r ≢ right r
  pub left_outer : left r ≢ outer r
  pub right_outer : right r ≢ outer r

-- "Entering: 2, 7, 13"
pub record Enterable (n : ℕ) (rs : List (List ℕ)) (t : List ℕ) : Type 0 where
  pub count : Count n
  pub long : length t ≡ C n 3
  pub records : (i : ℕ) → i < length rs → Triplet n (get_or rs i [])

-- "House order: 2, 5, 6, 9 (room shorter than the body)"
pub record Orderable (n : ℕ) (b o : List ℕ) : Type 0 where
  pub count : Count n
  pub body : Body n b
  pub room : length b ≤ length o

-- "Build: 2, 7, 8, 9"; request T-03: "in the build after 8 and before 9: 15 [..]; 16"; "Room becomes 4s - 2 bytes for s species in the set"
pub record Buildable (n s : ℕ) (t o : List ℕ) : Type 0 where
  pub count : Count n
  pub table : Table n t
  pub set : GoodSet n s
  pub enclosed : Enclosed n s t
  pub room : room_for (size s) ≤ length o

-- "Check: 2, 7, 8, 5, 6"
pub record Checkable (n : ℕ) (t b : List ℕ) : Type 0 where
  pub count : Count n
  pub table : Table n t
  pub body : Body n b

-- request T-07: "2, 7, 8, 5, 6, [..] then 9 where the tree room is shorter than the candidate's body or the lent list has under 62 places"; 11, between them, speaks
-- of the outcome
pub record Loosenable (n : ℕ) (t b o d : List ℕ) : Type 0 where
  pub count : Count n
  pub table : Table n t
  pub body : Body n b
  pub tree_room : length b ≤ length o
  pub list : 62 ≤ length d

-- request T-01: "2; then 14 with the byte place [..]; then 6; then 9 where the room is shorter than the body"
pub record Parsable (n : ℕ) (w o : List ℕ) : Type 0 where
  pub count : Count n
  pub tree : Tree
  pub text : Readable w tree
  pub rules : Good n (nodes (body_of tree))
  pub room : length (body_of tree) ≤ length o

-- request T-02: "2, 5, 6, 9 where the room is shorter than the text"
pub record Renderable (n : ℕ) (b o : List ℕ) : Type 0 where
  pub count : Count n
  pub body : Body n b
  pub room : length (newick_text b) ≤ length o
