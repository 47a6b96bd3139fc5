-- `easing::turns` meets its contract. Assumes nothing.
use mathlib.Core.Bool.{false}
use mathlib.Core.List.{List}
use mathlib.Core.Path.{◌∙◌, ◌≡◌, ap, subst, sym}
use Prim.Native.Nat.{◌≤◌, ℕ}
use native.Mathlib.Omega.{arith}
use lib.ListN.{length, take}
use lib.Seq.{length-take-le}
use Rattle.tables.proofs.Bytes.{entered_proper}
use Rattle.bodies.specs.Draws.{body_of}
use Rattle.bodies.specs.Nodes.{Good, bad_length, body_length, longest, nodes}
use Rattle.dropping.proofs.Held.{held_few, held_good, held_length, held_some}
use Rattle.dropping.specs.Drafts.{HouseDraft, draft_tree}
use Rattle.easing.proofs.Going.{going_end, going_more, going_place, going_start}
use Rattle.easing.proofs.turns.Goals as goal

-- the first m nodes of the draft
module _ (n : ℕ) (small : n ≤ 64) (m : ℕ) (draft : List ℕ) (h : HouseDraft n m draft) (size : length draft ≡ longest) (end : ℕ) (end_is : end ≡ body_length m) where
  fits : end ≤ length draft
  fits = omega (arith, held_few n small m draft h, size, end_is)

  front : take end draft ≡ take (body_length m) draft
  front = ap (λ (k : ℕ). take k draft) end_is

  front_body : take end draft ≡ body_of (draft_tree m draft)
  front_body = front ∙ h.body

  front_good : Good n (nodes (take end draft))
  front_good = subst (λ (b : List ℕ). Good n (nodes b)) (sym front) (held_good n small m draft h)

  front_length : bad_length (length (take end draft)) ≡ false
  front_length = ap (λ (b : List ℕ). bad_length (length b)) front ∙ held_length n small m draft h

pub loop-x-init : goal.loop-x-init
loop-x-init c = going_start _ (entered_proper c.args.t.now) c.args.n c.requires.0 c.args.draft.now c.args.m c.args.list.now c.requires.1 c.requires.2

pub body_length-requires : goal.body_length-requires
body_length-requires c = omega (arith, held_few c.args.n c.requires.0 c.args.m c.args.draft.now c.requires.1, c.loop-x.invariant.less)

pub slice_bounds-find_unearned-end : goal.slice_bounds-find_unearned-end
slice_bounds-find_unearned-end c =
    let g = c.loop-x.invariant in fits c.args.n c.requires.0 c.loop-x.nodes c.loop-x.draft g.house g.size c.body_length.result c.body_length.ensures

pub slice_bounds-find_unearned-end-in-loop-x : goal.slice_bounds-find_unearned-end-in-loop-x
slice_bounds-find_unearned-end-in-loop-x c =
    let g = c.loop-x.invariant in
    sym (length-take-le c.body_length.result c.loop-x.draft (fits c.args.n c.requires.0 c.loop-x.nodes c.loop-x.draft g.house g.size c.body_length.result c.body_length.ensures))

pub find_unearned-requires : goal.find_unearned-requires
find_unearned-requires c =
    let g = c.loop-x.invariant in (
      c.requires.0,
      front_good c.args.n c.requires.0 c.loop-x.nodes c.loop-x.draft g.house g.size c.body_length.result c.body_length.ensures,
      front_length c.args.n c.requires.0 c.loop-x.nodes c.loop-x.draft g.house g.size c.body_length.result c.body_length.ensures,
    )

pub bounds-list-dropped : goal.bounds-list-dropped
bounds-list-dropped c =
    let g = c.loop-x.invariant in
    let b = front_body c.args.n c.requires.0 c.loop-x.nodes c.loop-x.draft g.house g.size c.body_length.result c.body_length.ensures in
    let q = c.in-Some.ensures.finds_unearned (draft_tree c.loop-x.nodes c.loop-x.draft) g.house.formed g.house.below b in
    omega (arith, going_place _ _ _ g c.in-Some.x q, g.long, c.requires.3)

pub loop-x-preserved : goal.loop-x-preserved
loop-x-preserved c =
    let n = c.args.n in
    let m = c.loop-x.nodes in
    let draft = c.loop-x.draft in
    let g = c.loop-x.invariant in
    let end = c.body_length.result in
    let b = front_body n c.requires.0 m draft g.house g.size end c.body_length.ensures in
    let q = c.in-Some.ensures.finds_unearned (draft_tree m draft) g.house.formed g.house.below b in
    going_more _ _ _ g c.in-Some.x q c.drop_node.new.draft (c.drop_node.ensures n c.requires.0 g.house) _ (omega (arith, held_some n c.requires.0 m draft g.house))

pub returns-clause-turned : goal.returns-clause-turned
returns-clause-turned c =
    let g = c.loop-x.invariant in
    let b = front_body c.args.n c.requires.0 c.loop-x.nodes c.loop-x.draft g.house g.size c.body_length.result c.body_length.ensures in
    going_end _ _ _ g (c.in_default.ensures.finds_unearned (draft_tree c.loop-x.nodes c.loop-x.draft) g.house.formed g.house.below b)
