-- The loop's invariant: what is reached has all that is linked to what is done, and the rest is to do. Assumes nothing.
use mathlib.Core.Bool.{So}
use mathlib.Core.Path.{◌∙◌, ◌≡◌, refl, sym}
use Prim.Native.Nat.{◌-◌, ◌<◌, ◌^◌}
use native.Mathlib.Omega.{arith}
use borrow.Author.Rules.{rules}
use Rattle.sets.proofs.Facts.{minus_empty}
use Rattle.sets.proofs.Floods.{Spread, spread_end, spread_next, spread_start, todo_in, todo_less}
use Rattle.sets.specs.Sets.{has, minus, number, size}
use Rattle.trees.proofs.Flooding.{flooded_part}
use Rattle.masks.proofs.Links.{fresh_ties, ties_kept, ties-linked}
use Rattle.masks.specs.Filling.{ties}
use Rattle.masks.proofs.part.Statement.{statement}
use Rattle.masks.proofs.part.Tie as tie

abbrev invariant-loop : tie.invariant-loop-todo
invariant-loop masks s a reached₀ done₀ todo₀ reached done todo =
    (So (has s a) → Spread (ties masks s) a reached done) × (todo ≡ minus reached done) × (reached < 2 ^ 64)

abbrev decreases-loop : tie.decreases-loop-todo
decreases-loop masks s a reached₀ done₀ todo₀ reached done todo = 64 - size done

single-requires : tie.Need-single-reached-requires invariant-loop decreases-loop
single-requires c κs = search rules

loop_holds : tie.Need-loop-todo-init invariant-loop decreases-loop
loop_holds c =
    let a = c.before.args in
    let r = c.single-reached.result in
    (λ h. spread_start (ties a.masks.now a.s) a.a r c.single-reached.ensures, sym (minus_empty r), omega arith)

lowest_requires : tie.Need-lowest-i-requires invariant-loop decreases-loop
lowest_requires c κs = search rules

minus_requires : tie.Need-minus-fresh-requires invariant-loop decreases-loop
minus_requires c κs = search rules

near-requires : tie.Need-near-requires invariant-loop decreases-loop
near-requires c κs = c.before.lowest-i.ensures.small c.before.before.loop-todo-test.true

union-requires : tie.Need-union-reached-requires invariant-loop decreases-loop
union-requires c κs = search rules

with-requires : tie.Need-with-done-requires invariant-loop decreases-loop
with-requires c κs = let k = c.before.before.before in k.lowest-i.ensures.small k.before.loop-todo-test.true

minus-requires-2 : tie.Need-minus-todo-requires invariant-loop decreases-loop
minus-requires-2 c κs = search rules

loop_less : tie.Need-loop-todo-smaller invariant-loop decreases-loop
loop_less c =
    let w = c.before in
    let k = w.before.before.before.before in
    let i = k.before in
    let l = i.before.loop-todo in
    todo_less l.reached l.done l.todo k.lowest-i.result l.invariant.1 i.loop-todo-test.true k.lowest-i.ensures
    w.with-done.result (omega arith) w.with-done.ensures

loop_again : tie.Need-loop-todo-preserved invariant-loop decreases-loop
loop_again c =
    let w = c.before in
    let u = w.before in
    let n = u.before in
    let f = n.before in
    let k = f.before in
    let i = k.before in
    let l = i.before.loop-todo in
    let a = i.before.before.before.args in
    let m = a.masks.now in
    let j = k.lowest-i.result in
    let t = todo_in l.reached l.done l.todo j l.invariant.1 i.loop-todo-test.true k.lowest-i.ensures in (
      λ h. let s = l.invariant.0 h in
          let e = fresh_ties m a.s j l.reached f.minus-fresh.result n.near.result l.invariant.2 f.minus-fresh.ensures n.near.ensures
          (s.least (has a.s) (ties_kept m a.s) h j t) in
          spread_next (ties m a.s) a.a l.reached l.done j (number 64 (ties m a.s j)) u.union-reached.result w.with-done.result
          t refl (u.union-reached.ensures ∙ e) w.with-done.ensures s,
      c.minus-todo.ensures,
      omega arith,
    )

returns : tie.Need-returns invariant-loop decreases-loop
returns c =
    let l = c.before.loop-todo in
    let a = c.before.before.before.args in
    let m = a.masks.now in
    λ E pr k h. flooded_part E pr a.s (omega arith) (ties m a.s) a.a l.reached h (ties-linked E m k a.s (omega arith))
    (spread_end (ties m a.s) a.a l.reached l.done (sym l.invariant.1 ∙ c.loop-todo-test.false) (l.invariant.0 h))

pub part_spec : {M : Type 1} → statement M
part_spec =
    tie.close
    (tie.spec
    invariant-loop
    decreases-loop
    single-requires
    loop_holds
    lowest_requires
    minus_requires
    near-requires
    union-requires
    with-requires
    minus-requires-2
    loop_less
    loop_again
    returns)
