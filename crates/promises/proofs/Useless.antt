-- Each useless function breaks the demand that document 01 names for it, as the very same record; and the one that closes a gap breaks demand 2.
-- Assumes nothing.
use mathlib.Core.Bool.{Bool, So, cond, false, false≢true, true}
use mathlib.Core.List.{List, [], ◌∷◌}
use mathlib.Core.Logic.{◌≢◌, inl, ⊎_elim}
use mathlib.Core.Path.{◌∙◌, ◌≡◌, ap, ap₂, refl, subst, sym}
use Prim.Native.Nat.{◌<◌, ◌≤◌, ◌^◌, suc, zero, ℕ}
use native.Mathlib.Omega.{arith}
use borrow.Author.Tests.{eq-eqb, eqb-false, eqb-true, lt-ltb, ltb-false, ltb-true}
use lib.Dec.{eqb, ltb}
use lib.ListN.{get_or, length, take}
use Rattle.sets.proofs.Bools.{bool_ext}
use Rattle.sets.proofs.Digits.{lt_of_has}
use Rattle.sets.proofs.Least.{some_member}
use Rattle.sets.proofs.Sizes.{not_empty, size-upto}
use Rattle.sets.proofs.Tests.{has-below, has-upto, true_has}
use Rattle.sets.specs.Sets.{digit, has, size}
use Rattle.sets.specs.Species.{Below, Species, below, members}
use Rattle.trees.proofs.Groups.{same_holds}
use Rattle.trees.proofs.Theorems.{aho_one, built_tree}
use Rattle.trees.specs.Aho.{AhoTree}
use Rattle.trees.specs.Build.{build, build_by, build_in, tree}
use Rattle.trees.specs.Held.{CanBeHeld, HeldBy}
use Rattle.trees.specs.Links.{Walk, leads, part, parts, stay, via}
use Rattle.trees.specs.Trees.{SameGroups, Tree, cons, in_house_order, leaf, nil, node}
use Rattle.tables.proofs.Bytes.{entered_empty, entered_proper, entered-zeros}
use Rattle.tables.specs.Bytes.{bit_of, entered, fan_bit, over, place_of}
use Rattle.tables.specs.Filled.{bytes_from, plain, table_for}
use Rattle.triples.specs.Index.{C, high_at, index, largest, low_at, mid_at}
use Rattle.rules.proofs.Rules.{no_fault}
use Rattle.bodies.specs.Draws.{body_of, node_count, tree_at, tree_of, written}
use Rattle.rules.specs.Faults.{fault, first_break, seen}
use Rattle.bodies.specs.Nodes.{body_length, children, nodes, room_for}
use Rattle.refusals.specs.Told.{Told, looked_count, number_of_nodes, table_byte, told, triple_index, value}
use Rattle.answers.specs.Inputs.{Body, Count}
use Rattle.collections.proofs.Whole.{read_pass}
use Rattle.collections.specs.Collection.{Collection}
use Rattle.collections.specs.Layout.{start}
use Rattle.collections.specs.Reads.{looks_from, read_looks}
use Rattle.listing.specs.Lists.{said_up_to}
use Rattle.building.specs.Builds.{looked_by, outcome, outcome_by}
use Rattle.promises.specs.Operations.{Builder, Given, GivenOf, builds, checks, gives, lists}
use Rattle.promises.specs.Inputs.{Buildable, Listable}
use Rattle.promises.specs.Demand2.{ChecksRight, FirstTriple, Keeps, front}
use Rattle.promises.specs.Demand3.{Full, table_of}
use Rattle.promises.specs.Runs.{cherry_body, fan_body}
use Rattle.promises.specs.Useless.{ClosingBreaks, ClosingHeld, FanlessBreaks, FirstAloneBreaks, FirstBreaks, FixedBreaks, Gives, Invents, InventingBreaks, LenientBreaks, ListsFirst, Misjudges, MisjudgingBreaks, RefusingBreaks, RefusingBreaksRebuilding, SilentBreaks, StarryBreaks, Tells99Breaks, first_alone, lenient, on_zero, star, starry, tells99}
use Rattle.promises.proofs.Alone.{alone_table}
use Rattle.promises.proofs.Built.{builds_tree, good_built}
use Rattle.promises.proofs.Checked.{good_checked}
use Rattle.promises.proofs.Chosen.{value_is}
use Rattle.promises.proofs.Listed.{lists_is}
use Rattle.promises.proofs.Runs.{all_good, starred_given}
use Rattle.promises.proofs.Rebuilt.{its_buildable}
use Rattle.promises.proofs.Star.{star_sound, star-species}
use Rattle.promises.proofs.Wrote.{tree_back}

-- ---- one species, its empty table, and room for the leaf

abbrev two_bytes : List ℕ
two_bytes = 0 ∷ 0 ∷ []

one_good : Buildable 1 1 [] two_bytes
unfolding C over
one_good = all_good 1 [] (omega arith) (omega arith) refl refl

-- the lone leaf holds all that is entered
lone : CanBeHeld (entered []) (has 1)
lone = (
  leaf 0,
  record {
    species = λ x. bool_ext (eqb 0 x) (has 1 x)
        (λ h. let e = eqb-true 0 x h in ap (λ (S : Species). S x) (has-upto 1) ∙ lt-ltb x 1 (omega arith))
        (λ h. let l = ltb-true x 1 (sym (ap (λ (S : Species). S x) (has-upto 1)) ∙ h) in eq-eqb 0 x (omega arith));
    formed = refl;
    keeps = λ a b c ha hb hc h. absurd (false≢true (sym (entered_empty a b c) ∙ h));
  },
)

pub refusing_breaks : RefusingBreaks
refusing_breaks f never d = let r = d 1 1 [] two_bytes one_good in ⊎_elim (never 1 1 [] two_bytes one_good) (λ z. r.refuses.0 z lone) r.one_of

-- bytes of zeros are no body
zeros : (k : ℕ) → Body 1 (take k two_bytes) → ⊥
zeros zero w = false≢true (sym w.long)
zeros (suc zero) w = false≢true (sym w.long)
zeros (suc (suc k)) w = let e : ◌≡◌ {A = ℕ} 0 255 = w.good.root (omega arith) in omega arith

pub silent_breaks : SilentBreaks
silent_breaks f still d =
    let r = d 1 1 [] two_bytes one_good in
    ⊎_elim
    (λ z. let k = r.keeps z in zeros (body_length k.count) (subst (λ (b : List ℕ). Body 1 (front k.count b)) (still 1 1 [] two_bytes one_good) k.wrote.body))
    (λ z. r.refuses.0 z lone)
    r.one_of

-- ---- an invented node count

-- demand 2 fixes the count: Aho's tree is one, and so is its body in house order
keeps_count : (t : List ℕ) (n : ℕ) (S : Species) (o : List ℕ) {g g' : Given} (k : Keeps (entered t) n S o g) (k' : Keeps (entered t) n S o g') → k.count ≡ k'.count
keeps_count t n S o {g} {g'} k k' =
    let one = aho_one (entered t) (entered_proper t) (tree_of (front k.count g.after)) (tree_of (front k'.count g'.after)) k.held.formed k'.held.formed k.housed.children k'.housed.children
    (λ x. k.held.species x ∙ sym (k'.held.species x)) k.aho k'.aho in
    sym k.wrote.count ∙ ap (λ (b : List ℕ). (nodes b).count) (k.housed.preorder ∙ ap body_of one ∙ sym k'.housed.preorder) ∙ k'.wrote.count

pub inventing_breaks : InventingBreaks
inventing_breaks f i d =
    let r = d i.n i.s i.t i.o i.good in
    let ours = (good_built i.n i.s i.t i.o i.good).keeps (ap (λ (x : Told). x.number) i.built) in
    ⊎_elim
    (λ z.
    let k = r.keeps z in
    let c = keeps_count i.t i.n (has i.s) i.o k ours ∙ value_is ours.count i.count (sym ours.told_is ∙ i.built) in
    i.other k.looked (k.told_is ∙ ap (λ (m : ℕ). told 0 (value number_of_nodes m ∷ value looked_count k.looked ∷ [])) c))
    (λ z. r.refuses.0 z (_, ours.held))
    r.one_of

-- on 0 it is h, and it answers 0 nowhere else
pub on_zero_lem : {B : Type 0} (g h : GivenOf B) → g.told.number ≡ 0 → on_zero g h ≡ h
on_zero_lem g h z = rw (eq-eqb g.told.number 0 z) refl

zero_on : (g h : Given) → (on_zero g h).told.number ≡ 0 → on_zero g h ≡ h
zero_on g h = go (eqb g.told.number 0) refl
  where
    go : (c : Bool) → eqb g.told.number 0 ≡ c → (cond c h g).told.number ≡ 0 → cond c h g ≡ h
    go true e z = refl
    go false e z = absurd (eqb-false g.told.number 0 e z)

lone_built : outcome 1 1 [] ≡ tree (leaf 0)
unfolding outcome_by build_by build_in members part leads parts entered place_of bit_of index C digit
lone_built = refl

pub tells99_invents : Invents tells99
tells99_invents =
    let ours = builds_tree 1 1 [] two_bytes one_good (leaf 0) lone_built in
    let built = ap (λ (g : Given). g.told) ours in
    record {
      writes = λ n s t o g z. ap (λ (h : Given). h.after) (on_zero_lem (builds n s t o) _ z);
      n = 1;
      s = 1;
      t = [];
      o = two_bytes;
      good = one_good;
      count = 1;
      looked = looked_by false 1 1 [];
      built = built;
      other = λ c e. let m = value_is 99 1 (sym (ap (λ (g : Given). g.told) (on_zero_lem (builds 1 1 [] two_bytes) _ (ap (λ (x : Told). x.number) built))) ∙ e) in omega arith;
    }

pub tells99-breaks : Tells99Breaks
tells99-breaks = inventing_breaks tells99 tells99_invents

-- ---- three species: the fan, and ((0,1),2), which has the group of 0 and 1 besides

three : Count 3
three = record { some = omega arith; most = omega arith }

abbrev pub ten_bytes : List ℕ
ten_bytes = 0 ∷ 0 ∷ 0 ∷ 0 ∷ 0 ∷ 0 ∷ 0 ∷ 0 ∷ 0 ∷ 0 ∷ []

abbrev pub unsaid : List ℕ
unsaid = 0 ∷ []

-- all three
three-below : Below 3 (has 7)
three-below x h = ltb-true x 3 (sym (ap (λ (S : Species). S x) (has-upto 3)) ∙ h)

module _ (t : List ℕ) (T : Tree) (e : build (entered t) 3 (has 7) ≡ tree T) where
  pub three_built : HeldBy (entered t) (has 7) T × So (in_house_order T)
  three_built = built_tree (entered t) (entered_proper t) 3 (has 7) three-below 0 (ap (λ (S : Species). S 0) (has-upto 3)) T e

pub fan_built : build (entered unsaid) 3 (has 7) ≡ tree (tree_of fan_body)
unfolding build_by build_in members part leads parts entered place_of bit_of index C digit children tree_at
fan_built = refl

pub cherry_built : build (entered (1 ∷ [])) 3 (has 7) ≡ tree (tree_of cherry_body)
unfolding build_by build_in members part leads parts entered place_of bit_of index C digit children tree_at
cherry_built = refl

fan_full : Full 3 7 fan_body
unfolding fault first_break seen children
fan_full = record { body = record { good = (no_fault 0 3 (nodes fan_body)).0 refl; long = refl }; every = (three_built unsaid (tree_of fan_body) fan_built).0.species }

pub cherry_full : Full 3 7 cherry_body
unfolding fault first_break seen children
cherry_full = record { body = record { good = (no_fault 0 3 (nodes cherry_body)).0 refl; long = refl }; every = (three_built (1 ∷ []) (tree_of cherry_body) cherry_built).0.species }

three-room : (o : List ℕ) → room_for 3 ≤ length o → room_for (size 7) ≤ length o
three-room o h = omega (arith, h, size-upto 3)

-- the table of one of them, in the hands of a builder
three_good : (b : List ℕ) → Full 3 7 b → Buildable 3 7 (table_of lists 3 b unsaid) ten_bytes
unfolding C
three_good b f = subst (λ (t : List ℕ). Buildable 3 7 t ten_bytes) (sym (alone_table 3 b three f.body unsaid refl)) (its_buildable 3 7 b three f ten_bytes (three-room ten_bytes (omega arith)))

pub fixed_breaks : FixedBreaks
unfolding children tree_at C
fixed_breaks f T same d =
    let r = d.rebuilt 3 7 fan_body unsaid ten_bytes three fan_full refl (three-room ten_bytes (omega arith)) in
    let r' = d.rebuilt 3 7 cherry_body unsaid ten_bytes three cherry_full refl (three-room ten_bytes (omega arith)) in
    let s : SameGroups (T 7) (tree_of fan_body) = subst (λ (u : Tree). SameGroups u (tree_of fan_body)) (same 3 7 _ _ (three_good fan_body fan_full) r.count r.looked r.told_is) r.groups in
    let s' : SameGroups (T 7) (tree_of cherry_body) = subst (λ (u : Tree). SameGroups u (tree_of cherry_body)) (same 3 7 _ _ (three_good cherry_body cherry_full) r'.count r'.looked r'.told_is) r'.groups in
    false≢true (sym (same_holds (T 7) (tree_of fan_body) s 0 1 2) ∙ same_holds (T 7) (tree_of cherry_body) s' 0 1 2)

-- the one that refuses always breaks this demand too
pub refusing_breaks_rebuilding : RefusingBreaksRebuilding
unfolding C
refusing_breaks_rebuilding f never d =
    let r = d.rebuilt 3 7 fan_body unsaid ten_bytes three fan_full refl (three-room ten_bytes (omega arith)) in
    never 3 7 _ ten_bytes (three_good fan_body fan_full) (ap (λ (x : Told). x.number) r.told_is)

-- whatever builds where it does not
pub starry-gives : (f : Builder) → Gives star (starry f)
starry-gives f n s t o g k c e =
    let T = star s in
    let small : s < 2 ^ 64 = lt_of_has 64 s (λ x h. omega (arith, g.set.below x h, g.count.most)) in
    let m = some_member s (not_empty s g.set.some) in
    let formed = star_sound 64 (has s) in
    let species = star-species 64 (has s) (has-below 64 s small) m.0 (true_has s m.0 m.1) in
    let q = zero_on (f n s t o) (gives (told 0 (value number_of_nodes (node_count T) ∷ value looked_count (C (size s) 3) ∷ [])) (written o (body_of T))) (ap (λ (x : Told). x.number) e) in
    let j = value_is k (node_count T) (sym e ∙ ap (λ (h : Given). h.told) q) in
    ap₂ (λ (j : ℕ) (u : List ℕ). tree_of (front j u)) j (ap (λ (h : Given). h.after) q)
    ∙ tree_back n s t o g T formed species

pub starry-breaks : StarryBreaks
starry-breaks = fixed_breaks (starry builds) star (starry-gives builds)

-- ---- a gap that is closed: no source says anything of three species, and ((0,1),2) puts two of them together

pub unsaid_good : Buildable 3 7 unsaid ten_bytes
unfolding C over
unsaid_good = all_good 3 unsaid (omega arith) (omega arith) refl refl

unsaid_empty : (a b c : ℕ) → So (entered unsaid a b c) → ⊥
unsaid_empty a b c h = false≢true (sym (entered-zeros 1 a b c) ∙ h)

-- where nothing is said there is no walk from a species to another
unsaid_walk : {S : Species} {a b : ℕ} → Walk (entered unsaid) S a b → a ≢ b → ⊥
unsaid_walk (stay a) n = n refl
unsaid_walk (via a b c ha hb hc e w) n = unsaid_empty a b c e

pub closing_held : ClosingHeld
closing_held =
    let b = three_built (1 ∷ []) (tree_of cherry_body) cherry_built in
    (record { species = b.0.species; formed = b.0.formed; keeps = λ x y z hx hy hz e. absurd (unsaid_empty x y z e) }, b.1)

pub closing-breaks : ClosingBreaks
unfolding children tree_at
closing-breaks d =
    let k = (d.building 3 7 unsaid ten_bytes unsaid_good).keeps refl in
    let a : AhoTree (entered unsaid) (tree_of cherry_body) = subst (λ (m : ℕ). AhoTree (entered unsaid) (tree_of (front m cherry_body))) (sym (value_is 5 k.count k.told_is)) k.aho in
    unsaid_walk ((a.0 0 1 refl refl).0 (node (cons (leaf 0) (cons (leaf 1) nil)), inl refl, refl, refl)) (omega arith)

-- ---- a check that misjudges

-- demand 2 fixes the triple: the first is one
first_least : (n : ℕ) (P : ℕ → ℕ → ℕ → Type 0) (i j : ℕ) → FirstTriple n P i → FirstTriple n P j → i < j → ⊥
first_least n P i j f g l = g.before f.low f.mid f.high f.triple.0 f.triple.1 f.triple.2 (omega (arith, f.place)) f.here

first_one : (n : ℕ) (P : ℕ → ℕ → ℕ → Type 0) (i j : ℕ) → FirstTriple n P i → FirstTriple n P j → i ≡ j
first_one n P i j f g = go (ltb i j) (ltb j i) refl refl
  where
    go : (p q : Bool) → ltb i j ≡ p → ltb j i ≡ q → i ≡ j
    go true q p' q' = absurd (first_least n P i j f g (ltb-true i j p'))
    go false true p' q' = absurd (first_least n P j i g f (ltb-true j i q'))
    go false false p' q' = omega (arith, ltb-false i j p', ltb-false j i q')

-- and so what is told where a tree does not pass
told_one : (n : ℕ) (t : List ℕ) (S : Species) (T : Tree) (r q : Told) → ChecksRight n t S T r → ChecksRight n t S T q → q.number ≢ 0 → r ≡ q
told_one n t S T r q c d some = ⊎_elim (λ z. absurd (some z)) (⊎_elim eleven twelve) d.one_of
  where
    eleven : q.number ≡ 11 → r ≡ q
    eleven z =
        let x = c.contradicted (c.fails.1 (d.fails.0 z)) in
        let y = d.contradicted z in
        x.1 ∙ ap (λ (i : ℕ). told 11 (value triple_index i ∷ value table_byte (get_or t i 0) ∷ [])) (first_one n _ x.0 y.0 x.2 y.2) ∙ sym y.1

    twelve : q.number ≡ 12 → r ≡ q
    twelve z =
        let y = d.unforced z in
        let x = c.unforced (⊎_elim
        (λ k. absurd (some (d.passes.1 (c.passes.0 k))))
        (⊎_elim (λ k. let e = d.fails.1 (c.fails.0 k) in absurd (omega arith)) (λ k. k)) c.one_of) in
        x.1 ∙ ap (λ (i : ℕ). told 12 (value triple_index i ∷ [])) (first_one n _ x.0 y.0 x.3 y.3) ∙ sym y.1

pub misjudging_breaks : MisjudgingBreaks
misjudging_breaks f m d = m.other (told_one m.n m.t (below m.n) (tree_of m.b) (f m.n m.t m.b) (checks m.n m.t m.b)
    (d m.n m.t m.b m.good) (good_checked m.n m.t m.b m.good) m.failed)

-- ((0,1),2) where nothing is said, a run of document 01
loose : checks 3 unsaid cherry_body ≡ told 12 (value triple_index 0 ∷ [])
loose = starred_given.1.1.1.1.1.1.1.1.1.0

lenient_passes : lenient 3 unsaid cherry_body ≡ told 0 []
lenient_passes = rw loose refl

pub lenient_misjudges : Misjudges lenient
lenient_misjudges = record {
  n = 3;
  t = unsaid;
  b = cherry_body;
  good = record { count = three; table = unsaid_good.table; body = cherry_full.body };
  failed = λ z. let e = sym (ap (λ (r : Told). r.number) loose) ∙ z in omega arith;
  other = λ z. let e = ap (λ (r : Told). r.number) (sym lenient_passes ∙ z ∙ loose) in omega arith;
}

pub lenient-breaks : LenientBreaks
lenient-breaks = misjudging_breaks lenient lenient_misjudges

-- ---- the first tree alone: of a fan, and then ((0,1),2)

abbrev papers : List ℕ
papers = 1 ∷ 3 ∷ 2 ∷ 0 ∷ 8 ∷ 255 ∷ 255 ∷ 0 ∷ 0 ∷ 0 ∷ 1 ∷ 0 ∷ 2 ∷ 0 ∷ 10 ∷ 255 ∷ 255 ∷ 0 ∷ 255 ∷ 1 ∷ 0 ∷ 1 ∷ 1 ∷ 0 ∷ 2 ∷ []

papers_good : Collection papers
unfolding read_looks looks_from start fault first_break seen children
papers_good = (read_pass papers).0 refl

first_table : List ℕ
first_table = table_for 3 (said_up_to papers 1)

first_lacks : has (get_or first_table (index 0 1 2) 0) 0 ≡ false
unfolding first_table start children tree_at table_for bytes_from said_up_to index C largest high_at mid_at low_at digit
first_lacks = refl

pub first_alone_breaks : FirstBreaks
unfolding first_table start children tree_at C
first_alone_breaks f alone d =
    let g : Listable papers unsaid = record { collection = papers_good; long = refl } in
    let h = ((d papers unsaid g).table.bytes 0 1 2 (omega arith) (omega arith) (omega arith)).ab.1 (1, omega arith, refl) in
    false≢true (sym first_lacks ∙ subst (λ (t : List ℕ). So (has (get_or t (index 0 1 2) 0) 0)) (alone papers unsaid g) h)

pub first_alone-lists : ListsFirst first_alone
first_alone-lists b t g = ap (λ (h : Given). h.after) (on_zero_lem (lists b t) _ (ap (λ (h : Given). h.told.number) (lists_is b t g)))

pub first_alone-breaks : FirstAloneBreaks
first_alone-breaks = first_alone_breaks first_alone first_alone-lists

-- ---- no fan: of the same two trees

fanless_table : List ℕ
fanless_table = table_for 3 (plain (said_up_to papers 2).triplets)

fanless_lacks : has (get_or fanless_table (index 0 1 2) 0) fan_bit ≡ false
unfolding fanless_table start children tree_at table_for bytes_from said_up_to index C largest high_at mid_at low_at digit
fanless_lacks = refl

pub fanless-breaks : FanlessBreaks
unfolding fanless_table start children tree_at C
fanless-breaks d =
    let g : Listable papers unsaid = record { collection = papers_good; long = refl } in
    let h = ((d papers unsaid g).table.bytes 0 1 2 (omega arith) (omega arith) (omega arith)).fan.1 (0, omega arith, refl) in
    let e = ap (λ (h : Given). h.after) (on_zero_lem (lists papers unsaid) _ (ap (λ (h : Given). h.told.number) (lists_is papers unsaid g))) in
    false≢true (sym fanless_lacks ∙ subst (λ (t : List ℕ). So (has (get_or t (index 0 1 2) 0) fan_bit)) e h)
