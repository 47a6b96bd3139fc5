-- The front of the table is the collection's table. Assumes nothing.
use Rattle.std.proofs.Common.{ℕ, List, ◌∙◌, ◌≡◌, ◌≤◌, ap, sym, arith, drop, length, take}
use lib.ListN.{length-append}
use lib.Seq.{length-take-le, take_at}
use Rattle.tables.proofs.Fillings.{table_length}
use Rattle.trees.proofs.Combinations.{C-more}
use Rattle.triples.proofs.Values.{C-64_3}
use Rattle.triples.specs.Index.{C}
use Rattle.collections.specs.Collection.{Collection}
use Rattle.collections.specs.Layout.{species, trees}
use Rattle.listing.specs.Lists.{list_of, said_up_to}
use Rattle.shelf_text.specs.Shelf.{table_text}
use Rattle.shelf_text.proofs.Told.{list_whole}
use Rattle.writing.specs.Pages.{wrote_on}
use Rattle.shelf_text.proofs.listed_lines.Goals as goal
use Rattle.shelf_text.proofs.listed_lines.Goals.{After-list}

-- the table is long enough
inside : (n k : ℕ) (b t : List ℕ) → length t ≡ 41664 → Collection b × (n ≡ species b) → k ≡ C n 3 → k ≤ length t
inside n k b t l w e =
    let few : n ≤ 64 = omega (arith, w.1, w.0.most) in
    omega (arith, e, C-more 3 n 64 few, C-64_3, l)

-- what the listing wrote
whole : (c : After-list) → c.list.new.t ≡ list_of c.args.b.now
whole c =
    let b = c.args.b.now in
    let s = c.requires.collection in
    let e : length (take c.count-k.result c.args.table.now) ≡ C (species b) 3 = length-take-le _ _ (inside _ _ _ _ c.requires.table_len s c.count-k.ensures) ∙ c.count-k.ensures ∙ ap (λ (n : ℕ). C n 3) s.1 in
    c.list.ensures.holds ∙ list_whole b s.0 (take c.count-k.result c.args.table.now) e

-- it is as long as the front
whole_length : (c : After-list) → length c.list.new.t ≡ c.count-k.result
whole_length c =
    let b = c.args.b.now in
    ap length (whole c) ∙ table_length (species b) (said_up_to b (trees b)) ∙ ap (λ (n : ℕ). C n 3) (sym c.requires.collection.1) ∙ sym c.count-k.ensures

pub slice_bounds-list-end : goal.slice_bounds-list-end
slice_bounds-list-end c = inside _ _ _ _ c.requires.table_len c.requires.collection c.count-k.ensures

pub slice_bounds-list-end-2 : goal.slice_bounds-list-end-2
slice_bounds-list-end-2 c = sym (length-take-le _ _ (inside _ _ _ _ c.requires.table_len c.requires.collection c.count-k.ensures))

pub slice_bounds-build_lines-end : goal.slice_bounds-build_lines-end
slice_bounds-build_lines-end c =
    omega (arith, length-append c.list.new.t (drop c.count-k.result c.args.table.now), whole_length (goal.at.slice_bounds-build_lines-end c).After-list)

pub slice_bounds-build_lines-end-2 : goal.slice_bounds-build_lines-end-2
slice_bounds-build_lines-end-2 c =
    let e = whole_length (goal.at.slice_bounds-build_lines-end-2 c).After-list in
    sym (ap length (take_at c.list.new.t _ c.count-k.result e) ∙ e)

pub returns : goal.returns
returns c =
    let l = (goal.at.returns c).After-list in
    let e = take_at c.list.new.t _ c.count-k.result (whole_length l) ∙ whole l in
    c.build_lines.ensures ∙ ap (λ (t : List ℕ). wrote_on c.args.out.now (table_text c.args.n c.args.set t)) e
