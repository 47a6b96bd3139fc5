-- What is linked to the lowest species that is to do is reached, and that species is done.
use Rattle.std.proofs.Common.{◌∙◌, arith, get_or, sym}
use Rattle.sets.proofs.Facts.{minus_empty}
use Rattle.sets.proofs.Floods.{spread_end, spread_next, spread_start, todo_in, todo_less}
use Rattle.splitting.proofs.Stores.{row_number}
use Rattle.splitting.specs.Rows.{flag}
use Rattle.splitting.proofs.part.Goals as goal

pub loop-todo-init : goal.loop-todo-init
loop-todo-init c = let r = c.single-reached in record { spread = spread_start (flag c.args.g.now) c.args.a r.result r.ensures; left = sym (minus_empty r.result) }

pub loop-todo-smaller : goal.loop-todo-smaller
loop-todo-smaller c =
    let l = c.loop-todo in
    todo_less l.reached l.done l.todo c.lowest-i.result l.invariant.left c.loop-todo-test.true c.lowest-i.ensures c.with-done.result (omega arith) c.with-done.ensures

pub loop-todo-preserved : goal.loop-todo-preserved
loop-todo-preserved c =
    let l = c.loop-todo in
    let g = c.args.g.now in
    let i = c.lowest-i.result in
    let n = get_or g i 0 in
    let u = c.union-reached in
    record {
      spread = spread_next (flag g) c.args.a l.reached l.done i n u.result c.with-done.result
          (todo_in l.reached l.done l.todo i l.invariant.left c.loop-todo-test.true c.lowest-i.ensures)
          (row_number l.reached n u.result u.ensures (omega arith)) u.ensures c.with-done.ensures l.invariant.spread;
      left = c.minus-todo.ensures;
    }

pub returns : goal.returns
returns c =
    let l = c.loop-todo in
    spread_end (flag c.args.g.now) c.args.a l.reached l.done (sym l.invariant.left ∙ c.loop-todo-test.false) l.invariant.spread
