-- `collections::one_tree` meets its contract: each refusal by its law of a turn; then what is said of the body.
use Rattle.std.proofs.Common.{◌∙◌, ap, sym, arith, rules}
use Rattle.bodies.specs.Nodes.{bad_length}
use Rattle.collections.proofs.Steps.{judged, next-cut}
use Rattle.collections.proofs.one_tree.Goals as goal

pub returns-then-left-l : goal.returns-then-left-l
returns-then-left-l c =
    let l = c.length_at-l.ensures.0 in
    next-cut c.args.b.now c.args.k c.args.at c.requires.0 (omega arith) (ap bad_length (sym l) ∙ sym c.bad_length.ensures ∙ c.if-bad_length.false) (omega arith)

pub returns-in_err-first_fault : goal.returns-in_err-first_fault
returns-in_err-first_fault c =
    let e = judged c.args.b.now c.args.k c.args.at c.args.n c.length_at-l.result c.first_fault.result c.requires.0 (omega arith) c.requires.2 c.length_at-l.ensures.0
    (sym c.bad_length.ensures ∙ c.if-bad_length.false) c.first_fault.ensures in
    rw (sym e, c.in_err-first_fault.was) (search rules)

pub returns : goal.returns
returns c =
    let e = judged c.args.b.now c.args.k c.args.at c.args.n c.length_at-l.result c.first_fault.result c.requires.0 (omega arith) c.requires.2 c.length_at-l.ensures.0
    (sym c.bad_length.ensures ∙ c.if-bad_length.false) c.first_fault.ensures in
    rw (sym e, c.in_ok-first_fault.was) (search rules)
