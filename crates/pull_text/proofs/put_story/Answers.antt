-- The lines of the papers; the front of the table is the collection's table. Assumes nothing.
use Rattle.std.proofs.Common.{ℕ, List, ◌++◌, ◌∙◌, ◌≡◌, ◌≤◌, ap, arith, drop, length, sym, take}
use lib.ListN.{length-append}
use lib.Seq.{length-take-le, take_at}
use Rattle.trees.proofs.Combinations.{C-more}
use Rattle.tables.proofs.Fillings.{table_length}
use Rattle.triples.proofs.Values.{C-64_3}
use Rattle.triples.specs.Index.{C}
use Rattle.collections.specs.Layout.{species, trees}
use Rattle.listing.specs.Lists.{list_of, said_up_to}
use Rattle.writing.proofs.Writing.{wrote_on_both}
use Rattle.writing.specs.Pages.{Page, wrote_on}
use Rattle.pull_text.proofs.Told.{list_whole, story_listed}
use Rattle.pull_text.proofs.put_story.Goals as goal
use Rattle.pull_text.proofs.put_story.Goals.{After-count-k, After-list}

-- the table is long enough
inside : (m : After-count-k) → m.count-k.result ≤ length m.args.table.now
inside m =
    let w = m.requires.collection in
    let few : m.args.n ≤ 64 = omega (arith, w.2, w.0.most) in
    omega (arith, m.count-k.ensures, C-more 3 m.args.n 64 few, C-64_3, m.requires.table_len)

-- what the listing wrote
whole : (l : After-list) → l.list.new.t ≡ list_of l.args.c.now
whole l =
    let c = l.args.c.now in
    let few : l.args.n ≤ 64 = omega (arith, l.requires.collection.2, l.requires.collection.0.most) in
    let long : l.count-k.result ≤ length l.args.table.now = omega (arith, l.count-k.ensures, C-more 3 l.args.n 64 few, C-64_3, l.requires.table_len) in
    let e : length (take l.count-k.result l.args.table.now) ≡ C (species c) 3 = length-take-le _ _ long ∙ l.count-k.ensures ∙ ap (λ (n : ℕ). C n 3) l.requires.collection.2 in
    l.list.ensures.holds ∙ list_whole c l.requires.collection.0 (take l.count-k.result l.args.table.now) e

-- it is as long as the front
whole_length : (l : After-list) → length l.list.new.t ≡ l.count-k.result
whole_length l =
    let c = l.args.c.now in
    ap length (whole l) ∙ table_length (species c) (said_up_to c (trees c)) ∙ ap (λ (n : ℕ). C n 3) (sym l.requires.collection.2) ∙ sym l.count-k.ensures

pub slice_bounds-list-end : goal.slice_bounds-list-end
slice_bounds-list-end c = inside (goal.at.slice_bounds-list-end c).After-count-k

pub slice_bounds-list-end-2 : goal.slice_bounds-list-end-2
slice_bounds-list-end-2 c = sym (length-take-le _ _ (inside (goal.at.slice_bounds-list-end-2 c).After-count-k))

pub slice_bounds-put_built-end : goal.slice_bounds-put_built-end
slice_bounds-put_built-end c =
    omega (arith, length-append c.list.new.t (drop c.count-k.result c.args.table.now), whole_length (goal.at.slice_bounds-put_built-end c).After-list)

pub slice_bounds-put_built-end-2 : goal.slice_bounds-put_built-end-2
slice_bounds-put_built-end-2 c =
    let e = whole_length (goal.at.slice_bounds-put_built-end-2 c).After-list in
    sym (ap length (take_at c.list.new.t _ c.count-k.result e) ∙ e)

both : (o o₁ o₂ : Page) (w v u : List ℕ) → o₁ ≡ wrote_on o w → o₂ ≡ wrote_on o₁ v → w ++ v ≡ u → o₂ ≡ wrote_on o u
both o o₁ o₂ w v u e f h = f ∙ ap (λ (z : Page). wrote_on z v) e ∙ wrote_on_both o w v ∙ ap (wrote_on o) h

pub returns : goal.returns
returns c =
    let l = (goal.at.returns c).After-list in
    let s = c.args in
    let w = c.requires.collection in
    let e = take_at c.list.new.t _ c.count-k.result (whole_length l) ∙ whole l in
    both s.out.now _ _ _ _ _ c.put_papers.ensures c.put_built.ensures (story_listed s.c.now w.0 s.n s.set s.count _ w.2 w.1 e)
