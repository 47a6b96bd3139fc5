-- The lines of the papers' collection, or the line of the refusal. Assumes nothing.
use Rattle.std.proofs.Common.{◌∙◌, Err, ap, arith}
use Rattle.pull_text.proofs.Input.{bad_place, input_told, pull_written, stored_fits, stored_told}
use Rattle.pull_text.proofs.pull.Goals as goal

pub put_collection-requires : goal.put_collection-requires
put_collection-requires c =
    let f = stored_fits c.args.input.now _ c.read.ensures.value c.in-Ok.f c.in-Ok.is _ c.read.ensures.stored.0 in
    (omega (arith, f, c.read.ensures.stored.1), c.requires.1)

pub put_refused-requires : goal.put_refused-requires
put_refused-requires c =
    let b = bad_place c.args.input.now _ c.read.ensures.value c.in-Err-Bad.x (c.in-Err-Bad.is ∙ ap Err c.in-Err-Bad.field-0-is) in
    record { start_le_end = b.0; why_bound = b.1 }

pub returns-in-Ok : goal.returns-in-Ok
returns-in-Ok c =
    let told = stored_told c.args.input.now _ c.read.ensures.value c.in-Ok.f c.in-Ok.is _ c.read.ensures.stored.0 in
    pull_written c.args.input.now c.args.out.now _ _ _ c.requires.2 c.clear.ensures told c.put_collection.ensures

pub returns-in-Err-Long : goal.returns-in-Err-Long
returns-in-Err-Long c = pull_written c.args.input.now c.args.out.now _ _ _ c.requires.2 c.clear.ensures (input_told c.args.input.now _ c.read.ensures.value _ (c.in-Err-Long.is ∙ ap Err c.in-Err-Long.field-0-is)) c.word.ensures

pub returns-in-Err-Empty : goal.returns-in-Err-Empty
returns-in-Err-Empty c = pull_written c.args.input.now c.args.out.now _ _ _ c.requires.2 c.clear.ensures (input_told c.args.input.now _ c.read.ensures.value _ (c.in-Err-Empty.is ∙ ap Err c.in-Err-Empty.field-0-is)) c.word-in-Err-Empty.ensures

pub returns-in-Err-Many : goal.returns-in-Err-Many
returns-in-Err-Many c = pull_written c.args.input.now c.args.out.now _ _ _ c.requires.2 c.clear.ensures (input_told c.args.input.now _ c.read.ensures.value _ (c.in-Err-Many.is ∙ ap Err c.in-Err-Many.field-0-is)) c.word-in-Err-Many.ensures

pub returns-in-Err-Bad : goal.returns-in-Err-Bad
returns-in-Err-Bad c = pull_written c.args.input.now c.args.out.now _ _ _ c.requires.2 c.clear.ensures (input_told c.args.input.now _ c.read.ensures.value _ (c.in-Err-Bad.is ∙ ap Err c.in-Err-Bad.field-0-is)) c.put_refused.ensures
