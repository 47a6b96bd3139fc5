-- What `shelf` prints, in document 01's three forms and one more of request T-03, and in the words of the demands: "Line 1 has the number and the node count; line 2 the body; line 3 the check's
-- number, with the triple index after it (index 0 too) unless the check's number is 0. Refusal 10 prints only `build 10` and the set in decimal. A collection
-- refused prints `read`, the number, tree number and node, with 0 for what that refusal lacks."
use Rattle.std.specs.Prelude.{List, [], ◌∷◌, ◌++◌, ◌⊎◌, ◌≡◌, ℕ, ◌≤◌, replicate}
use Rattle.contracts.specs.AnyCall.{After}
use Rattle.sets.specs.Sets.{has}
use Rattle.trees.specs.Held.{CanBeHeld}
use Rattle.tables.specs.Bytes.{entered}
use Rattle.triples.specs.Index.{C}
use Rattle.bodies.specs.Nodes.{longest}
use Rattle.refusals.specs.Told.{Name, Told, Value, node_number, told, tree_number, triple_index, value}
use Rattle.collections.specs.Collection.{Collection}
use Rattle.collections.specs.Layout.{species}
use Rattle.collections.specs.Occurs.{occurring}
use Rattle.shelf_text.specs.contracts.shelf as shelf
use Rattle.shelf_text.specs.Shelf.{build_word, check_word, read_word}
use Rattle.shelf_text.specs.Texts.{line, numbers}
use Rattle.promises.specs.Operations.{Given, Operations}
use Rattle.promises.specs.Demand2.{Keeps, Shows, SomeTreeHas, front}

-- ---- the values that are returned with a number, by their names

abbrev pub Among : Value → List Value → Type 0
Among v [] = ⊥
Among v (u ∷ l) = (v ≡ u) ⊎ Among v l

-- x is what vs has under the name k, "with 0 for what that refusal lacks"
abbrev pub ValueOr0 : Name → List Value → ℕ → Type 0
ValueOr0 k vs x = Among (value k x) vs ⊎ (((y : ℕ) → Among (value k y) vs → ⊥) × (x ≡ 0))

-- ---- the numbers of line 3, where the check tells r: it passes, or it names the first triple that is not forced. 11 does not come, nor any other refusal

pub record NotForced (r : Told) (ns : List ℕ) : Type 0 where
  pub index : ℕ
  pub told_is : r ≡ told 12 (value triple_index index ∷ [])
  pub shown : ns ≡ 12 ∷ index ∷ []

abbrev pub CheckShown : Told → List ℕ → Type 0
CheckShown r ns = ((r ≡ told 0 []) × (ns ≡ 0 ∷ [])) ⊎ NotForced r ns

module _ (L : Operations) (b : List ℕ) where
  -- the table of the collection b, listed over zeros; a room of zeros that holds the longest body; and what the builder gives
  abbrev pub shelf_table : List ℕ
  shelf_table = (L.list b (replicate (C (species b) 3) 0)).after

  abbrev pub shelf_room : List ℕ
  shelf_room = replicate longest 0

  -- request T-03: the build is over the set that occurs
  abbrev pub shelf_built : Given
  shelf_built = L.build (species b) (occurring b) shelf_table shelf_room

  -- b is no collection: one line, with the refusal of reading
  pub record ShowsUnread (text : List ℕ) : Type 0 where
    pub unread : Collection b → ⊥
    pub number : (1 ≤ (L.read b).number) × ((L.read b).number ≤ 6)
    pub tree : ℕ
    pub tree_is : ValueOr0 tree_number (L.read b).values tree
    pub node : ℕ
    pub node_is : ValueOr0 node_number (L.read b).values node
    pub is : text ≡ line read_word ((L.read b).number ∷ tree ∷ node ∷ [])

  -- b is a collection in which no species occurs: "it prints only `build 15`"
  pub record ShowsNobody (text : List ℕ) : Type 0 where
    pub collection : Collection b
    pub nobody : (x : ℕ) → SomeTreeHas b x → ⊥
    pub is : text ≡ line build_word (15 ∷ [])

  -- b is a collection, and no tree of the species that occur holds all that its trees say: one line, with the stopping set
  pub record ShowsStop (text : List ℕ) : Type 0 where
    pub collection : Collection b
    pub no_tree : CanBeHeld (entered shelf_table) (has (occurring b)) → ⊥
    pub stops : Shows (entered shelf_table) (has (occurring b)) shelf_built
    pub is : text ≡ line build_word (10 ∷ stops.set ∷ [])

  -- b is a collection, and a tree of the species that occur holds all: three lines, with the tree that was built and its check
  pub record ShowsTree (text : List ℕ) : Type 0 where
    pub collection : Collection b
    pub keeps : Keeps (entered shelf_table) (species b) (has (occurring b)) shelf_room shelf_built
    pub check : List ℕ
    pub checked : CheckShown (L.check (species b) shelf_table (front keeps.count shelf_built.after)) check
    pub is : text ≡ line build_word (0 ∷ keeps.count ∷ []) ++ (numbers (front keeps.count shelf_built.after) ++ line check_word check)

  abbrev pub Forms : List ℕ → Type 0
  Forms text = ShowsUnread text ⊎ (ShowsNobody text ⊎ (ShowsStop text ⊎ ShowsTree text))

-- after any call of `shelf_text::shelf`, whatever bytes are handed in: the text has one of these forms, and the bytes alone say which
pub record ShowsForms (L : Operations) : Type 2 where
  pub one_of : After shelf.ended (λ M 𝓤. shelf.clauses) (λ κs a r s. Forms L a.0.now s.1.1.0.now.text)
  pub unread_alone : (b x y : List ℕ) → ShowsUnread L b x → (ShowsNobody L b y ⊎ (ShowsStop L b y ⊎ ShowsTree L b y)) → ⊥
  pub nobody_alone : (b x y : List ℕ) → ShowsNobody L b x → (ShowsStop L b y ⊎ ShowsTree L b y) → ⊥
  pub stop_alone : (b x y : List ℕ) → ShowsStop L b x → ShowsTree L b y → ⊥
