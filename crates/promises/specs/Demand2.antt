-- Demand 2, in words over trees: nothing here mentions how a tree is built. The builder gives Aho's tree, which holds every triplet entered; it refuses
-- good input exactly when no rooted tree holds them all, naming three or more species whose links inside that set join them all. The check passes a
-- good tree exactly when no entered triplet contradicts it and each of its own triplets is forced by the entered ones on the triples that it resolves.
use Rattle.std.proofs.Math.Bool.{So}
use Rattle.std.specs.Prelude.{List, [], ◌∷◌, ◌↔◌, ◌⊎◌, ◌≡◌, ℕ, ◌<◌, ◌≤◌, drop, get_or, length, take}
use Rattle.sets.specs.Sets.{has, size}
use Rattle.sets.specs.Species.{Inside, Species, below}
use Rattle.trees.specs.Aho.{AhoTree}
use Rattle.trees.specs.Check.{Forced, PC, PI, R, differs}
use Rattle.trees.specs.Held.{CanBeHeld, HeldBy}
use Rattle.trees.specs.Links.{JoinedByWalks}
use Rattle.trees.specs.Trees.{SameGroups, Tree, in_house_order, under}
use Rattle.trees.specs.Triplets.{Triplets, fan, holds, on_triple}
use Rattle.tables.specs.Bytes.{entered}
use Rattle.triples.specs.Index.{index}
use Rattle.tables.specs.Tells.{TableTells}
use Rattle.bodies.specs.Draws.{body_of, tree_of}
use Rattle.bodies.specs.Nodes.{body_length, nodes}
use Rattle.answers.specs.Inputs.{Body}
use Rattle.refusals.specs.Told.{Told, looked_count, number_of_nodes, occurring_set, species_count, stopping_set, table_byte, told, tree_count, triple_index, value}
use Rattle.collections.specs.Collection.{Collection}
use Rattle.collections.specs.Layout.{body_at, species, trees}
use Rattle.records.specs.Records.{left, outer, right}
use Rattle.promises.specs.Operations.{Builder, Checker, Enterer, Given, Lister, Operations, Orderer, Reader}
use Rattle.promises.specs.Inputs.{Buildable, Checkable, Enterable, Listable, Orderable}

-- ---- reading: 0 for what is a collection, and for nothing else

-- u is the number of the set of those x of which P is so
abbrev pub IsSet : ℕ → (ℕ → Type 0) → Type 0
IsSet u P = (x : ℕ) → So (has u x) ↔ P x

-- x is under the root of some tree of the collection, whether a triplet mentions it or not
abbrev pub SomeTreeHas : List ℕ → ℕ → Type 0
SomeTreeHas b x = (k : ℕ) × (k < trees b) × So (under (tree_of (body_at b k)) x)

-- "list: n and tree count"; request T-03: "also [..] the set that occurs"
pub record ReadsRight (b : List ℕ) (r : Told) : Type 0 where
  pub set : ℕ
  pub told_is : r ≡ told 0 (value species_count (species b) ∷ value tree_count (trees b) ∷ value occurring_set set ∷ [])
  pub occurs : IsSet set (SomeTreeHas b)

abbrev pub ReadsAll : Reader → Type 0
ReadsAll f = (b : List ℕ) → (((f b).number ≡ 0) ↔ Collection b) × (Collection b → ReadsRight b (f b))

-- ---- listing: the bits of all trees

-- some tree of the collection holds xy|z
abbrev pub SomeTreeHolds : List ℕ → ℕ → ℕ → ℕ → Type 0
SomeTreeHolds b x y z = (k : ℕ) × (k < trees b) × So (holds (tree_of (body_at b k)) x y z)

-- some tree of the collection has x, y and z as a fan
abbrev pub SomeTreeFans : List ℕ → ℕ → ℕ → ℕ → Type 0
SomeTreeFans b x y z = (k : ℕ) × (k < trees b) × So (fan (tree_of (body_at b k)) x y z)

-- "sets exactly the bits that at least one of its trees holds, over all trees"; request T-05: "adds 8 to a table byte where some tree holds all three as a fan"
pub record ListsRight (b : List ℕ) (g : Given) : Type 0 where
  pub reads : ReadsRight b g.told
  pub table : TableTells (species b) (SomeTreeHolds b) (SomeTreeFans b) g.after

abbrev pub ListsAll : Lister → Type 0
ListsAll f = (b t : List ℕ) → Listable b t → ListsRight b (f b t)

-- ---- entering: exactly the triplets in the records

-- the record says xy|z, "the first two being the close pair in either order"
abbrev pub RecordSays : List ℕ → ℕ → ℕ → ℕ → Type 0
RecordSays r x y z = (((left r ≡ x) × (right r ≡ y)) ⊎ ((left r ≡ y) × (right r ≡ x))) × (outer r ≡ z)

abbrev pub SomeRecordSays : List (List ℕ) → ℕ → ℕ → ℕ → Type 0
SomeRecordSays rs x y z = (i : ℕ) × (i < length rs) × RecordSays (get_or rs i []) x y z

-- the record names x
abbrev pub RecordHas : List ℕ → ℕ → Type 0
RecordHas r x = (left r ≡ x) ⊎ ((right r ≡ x) ⊎ (outer r ≡ x))

abbrev pub SomeRecordHas : List (List ℕ) → ℕ → Type 0
SomeRecordHas rs x = (i : ℕ) × (i < length rs) × RecordHas (get_or rs i []) x

-- "entering returns n"; request T-03: "also [..] the set that occurs"; request T-05: "Entering never sets 8"
pub record EntersRight (n : ℕ) (rs : List (List ℕ)) (g : Given) : Type 0 where
  pub set : ℕ
  pub told_is : g.told ≡ told 0 (value species_count n ∷ value occurring_set set ∷ [])
  pub occurs : IsSet set (SomeRecordHas rs)
  pub table : TableTells n (SomeRecordSays rs) (λ x y z. ⊥) g.after

abbrev pub EntersAll : Enterer → Type 0
EntersAll f = (n : ℕ) (rs : List (List ℕ)) (t : List ℕ) → Enterable n rs t → EntersRight n rs (f n rs t)

-- ---- a body that was written

-- the bytes of the room that k nodes take
abbrev pub front : ℕ → List ℕ → List ℕ
front k o = take (body_length k) o

-- in the room o a good body of k nodes was written, which gave o': behind it nothing has changed
pub record Wrote (n k : ℕ) (o o' : List ℕ) : Type 0 where
  pub body : Body n (front k o')
  pub count : (nodes (front k o')).count ≡ k
  pub behind : drop (body_length k) o' ≡ drop (body_length k) o

-- ---- house order

-- "House order: nodes in preorder, children by their lowest species."
pub record HouseBody (b : List ℕ) : Type 0 where
  pub preorder : b ≡ body_of (tree_of b)
  pub children : So (in_house_order (tree_of b))

pub record OrdersRight (n : ℕ) (b o : List ℕ) (g : Given) : Type 0 where
  pub count : ℕ
  pub told_is : g.told ≡ told 0 (value number_of_nodes count ∷ [])
  pub wrote : Wrote n count o g.after
  pub housed : HouseBody (front count g.after)
  pub groups : SameGroups (tree_of (front count g.after)) (tree_of b)

abbrev pub OrdersAll : Orderer → Type 0
OrdersAll f = (n : ℕ) (b o : List ℕ) → Orderable n b o → OrdersRight n b o (f n b o)

-- ---- the builder, for the entered triplets E and the species S; how many triples it looks at, `Counting` says

-- Aho's tree, with exactly the species, which holds every entered triplet, in house order
pub record Keeps (E : Triplets) (n : ℕ) (S : Species) (o : List ℕ) (g : Given) : Type 0 where
  pub count : ℕ
  pub looked : ℕ
  pub told_is : g.told ≡ told 0 (value number_of_nodes count ∷ value looked_count looked ∷ [])
  pub wrote : Wrote n count o g.after
  pub held : HeldBy E S (tree_of (front count g.after))
  pub aho : AhoTree E (tree_of (front count g.after))
  pub housed : HouseBody (front count g.after)

-- a set of three or more species, which links inside it join
pub record Shows (E : Triplets) (S : Species) (g : Given) : Type 0 where
  pub set : ℕ
  pub looked : ℕ
  pub told_is : g.told ≡ told 10 (value stopping_set set ∷ value looked_count looked ∷ [])
  pub inside : Inside (has set) S
  pub three : 3 ≤ size set
  pub joined : JoinedByWalks E (has set)

pub record BuildsRight (E : Triplets) (n : ℕ) (S : Species) (o : List ℕ) (g : Given) : Type 0 where
  pub one_of : (g.told.number ≡ 0) ⊎ (g.told.number ≡ 10)
  pub keeps : g.told.number ≡ 0 → Keeps E n S o g
  pub refuses : (g.told.number ≡ 10) ↔ (CanBeHeld E S → ⊥)
  pub shows : g.told.number ≡ 10 → Shows E S g

-- request T-03: "exactly the species of the set"
abbrev pub BuildsAll : Builder → Type 0
BuildsAll f = (n s : ℕ) (t o : List ℕ) → Buildable n s t o → BuildsRight (entered t) n (has s) o (f n s t o)

-- ---- the check of a tree T, against the entered triplets E, over trees with exactly the species S

-- an entered triplet on the triple differs from what T holds there
abbrev pub Contradicts : Triplets → Tree → ℕ → ℕ → ℕ → Type 0
Contradicts E T a b c = So (on_triple (differs E T) a b c)

-- T holds ab|c, and it is not forced
abbrev pub Loose : Triplets → Species → Tree → ℕ → ℕ → ℕ → Type 0
Loose E S T a b c = So (holds T a b c) × (Forced (R E T) S a b c → ⊥)

-- one of the three triplets on the triple is so
abbrev pub Unforced : Triplets → Species → Tree → ℕ → ℕ → ℕ → Type 0
Unforced E S T a b c = Loose E S T a b c ⊎ (Loose E S T a c b ⊎ Loose E S T b c a)

-- i is the place of the first triple in index order for which P is so
pub record FirstTriple (n : ℕ) (P : ℕ → ℕ → ℕ → Type 0) (i : ℕ) : Type 0 where
  pub low : ℕ
  pub mid : ℕ
  pub high : ℕ
  pub triple : (low < mid) × (mid < high) × (high < n)
  pub place : i ≡ index low mid high
  pub here : P low mid high
  pub before : (a b c : ℕ) → a < b → b < c → c < n → index a b c < i → P a b c → ⊥

pub record ChecksRight (n : ℕ) (t : List ℕ) (S : Species) (T : Tree) (r : Told) : Type 0 where
  pub one_of : (r.number ≡ 0) ⊎ ((r.number ≡ 11) ⊎ (r.number ≡ 12))
  -- no entered triplet contradicts T, and each triplet of T is forced
  pub passes : (r.number ≡ 0) ↔ (((a b c : ℕ) → Contradicts (entered t) T a b c → ⊥) × PI (entered t) S T)
  -- "11 | PC fails": no tree holds the triplets of T and R together
  pub fails : (r.number ≡ 11) ↔ (PC (entered t) S T → ⊥)
  pub contradicted : r.number ≡ 11 → (i : ℕ) × (r ≡ told 11 (value triple_index i ∷ value table_byte (get_or t i 0) ∷ [])) × FirstTriple n (Contradicts (entered t) T) i
  pub unforced : r.number ≡ 12 → (i : ℕ) × (r ≡ told 12 (value triple_index i ∷ [])) × ((a b c : ℕ) → Contradicts (entered t) T a b c → ⊥) × FirstTriple n (Unforced (entered t) S T) i

abbrev pub ChecksAll : Checker → Type 0
ChecksAll f = (n : ℕ) (t b : List ℕ) → Checkable n t b → ChecksRight n t (below n) (tree_of b) (f n t b)

pub record Demand2 (L : Operations) : Type 0 where
  pub reading : ReadsAll L.read
  pub listing : ListsAll L.list
  pub entering : EntersAll L.enter
  pub ordering : OrdersAll L.order
  pub building : BuildsAll L.build
  pub checking : ChecksAll L.check
