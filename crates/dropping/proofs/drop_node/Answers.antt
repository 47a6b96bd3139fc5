-- `loosening::drop_node` meets its contract: the nodes without node k, put in house order, are the tree without its group. Assumes nothing.
use mathlib.Core.Path.{◌∙◌, ap, subst, sym}
use native.Mathlib.Omega.{arith}
use lib.Seq.{length-take-le}
use Rattle.std.proofs.Common.{◌≡◌, ℕ, ◌-◌, ◌≤◌, length, take, List}
use Rattle.bodies.proofs.Good.{good_more}
use Rattle.bodies.specs.Nodes.{body_length, longest, most_nodes, nodes}
use Rattle.dropping.proofs.Drops.{dropped_node, less_good}
use Rattle.dropping.proofs.Held.{held_count, held_few}
use Rattle.dropping.specs.Drafts.{HouseDraft}
use Rattle.dropping.specs.Without.{Without}
use Rattle.dropping.proofs.drop_node.Goals as goal

-- the tree of the draft
module _ (m : ℕ) (draft : List ℕ) (r : ((n : ℕ) × (n ≤ 64) × HouseDraft n m draft) × (length draft ≡ longest)) where
  m_few : m ≤ most_nodes
  m_few = let (n, small, h) = r.0 in held_few n small m draft h

  fits : body_length m ≤ length draft
  fits = omega (arith, m_few, r.1)

  counted : (nodes (take (body_length m) draft)).count ≡ m
  counted = let (n, small, h) = r.0 in held_count n small m draft h

  -- the first m nodes of the draft
  module _ (end : ℕ) (end_is : end ≡ body_length m) where
    front : take end draft ≡ take (body_length m) draft
    front = ap (λ (j : ℕ). take j draft) end_is

    front_count : (nodes (take end draft)).count ≡ m
    front_count = ap (λ (b : List ℕ). (nodes b).count) front ∙ counted

    -- the nodes that are left
    module _ (k less : ℕ) (less_is : less ≡ body_length (m - 1)) (short : List ℕ)
        (w : Without (nodes (take end draft)) k (nodes (take (body_length ((nodes (take end draft)).count - 1)) short))) where
      left_is : take less short ≡ take (body_length ((nodes (take end draft)).count - 1)) short
      left_is = ap (λ (j : ℕ). take j short) (less_is ∙ ap (λ (j : ℕ). body_length (j - 1)) (sym front_count))

      without : Without (nodes (take (body_length m) draft)) k (nodes (take less short))
      without = subst (λ (b : List ℕ). Without (nodes b) k (nodes (take less short))) front
          (subst (λ (o : List ℕ). Without (nodes (take end draft)) k (nodes o)) (sym left_is) w)

-- what is left fits into `less`
fits_short : (m less : ℕ) (short : List ℕ) → m ≤ most_nodes → less ≡ body_length (m - 1) → length short ≡ longest → less ≤ length short
fits_short m less short few e size = omega (arith, e, size, few)

pub body_length-end-requires : goal.body_length-end-requires
body_length-end-requires c = m_few c.args.m c.args.draft.now c.requires.by_index

pub slice_bounds-leave_out-end : goal.slice_bounds-leave_out-end
slice_bounds-leave_out-end c = omega (arith, c.body_length-end.ensures, fits c.args.m c.args.draft.now c.requires.by_index)

pub slice_bounds-leave_out-end-2 : goal.slice_bounds-leave_out-end-2
slice_bounds-leave_out-end-2 c =
    sym (length-take-le c.body_length-end.result c.args.draft.now
    (omega (arith, c.body_length-end.ensures, fits c.args.m c.args.draft.now c.requires.by_index)))

pub body_length-less_end-requires : goal.body_length-less_end-requires
body_length-less_end-requires c = omega (arith, m_few c.args.m c.args.draft.now c.requires.by_index)

pub slice_bounds-less-end : goal.slice_bounds-less-end
slice_bounds-less-end c =
    fits_short c.args.m c.body_length-less_end.result c.leave_out.new.out (m_few c.args.m c.args.draft.now c.requires.by_index)
    c.body_length-less_end.ensures c.leave_out.ensures.out_len

pub slice_bounds-arrange-end : goal.slice_bounds-arrange-end
slice_bounds-arrange-end c =
    sym (length-take-le c.body_length-less_end.result c.leave_out.new.out
    (fits_short c.args.m c.body_length-less_end.result c.leave_out.new.out (m_few c.args.m c.args.draft.now c.requires.by_index)
    c.body_length-less_end.ensures c.leave_out.ensures.out_len))

pub arrange-requires-clause-good : goal.arrange-requires-clause-good
arrange-requires-clause-good c =
    let m = c.args.m in
    let draft = c.args.draft.now in
    let k = c.args.k in
    let less = c.body_length-less_end.result in
    let short = c.leave_out.new.out in
    let w = without m draft c.requires.by_index c.body_length-end.result c.body_length-end.ensures k less c.body_length-less_end.ensures short c.leave_out.ensures.without in
    let (n, small, h) = c.requires.by_index.0 in
    let (pos, lt, inner) = c.requires.k_nonzero in
    good_more n 64 (nodes (take less short)) small (less_good n small m draft h k pos lt c.requires.by_index.1 inner (take less short) w)

pub returns : goal.returns
returns c =
    let m = c.args.m in
    let draft = c.args.draft.now in
    let k = c.args.k in
    let less = c.body_length-less_end.result in
    let short = c.leave_out.new.out in
    let w = without m draft c.requires.by_index c.body_length-end.result c.body_length-end.ensures k less c.body_length-less_end.ensures short c.leave_out.ensures.without in
    let (pos, lt, inner) = c.requires.k_nonzero in
    λ n small h. dropped_node n small m draft h k pos lt c.requires.by_index.1 inner (take less short) w _ c.arrange.ensures.room_after
