-- The byte, and what follows it. Assumes nothing.
use Rattle.calls.proofs.Written.{call_read}
use Rattle.calls.proofs.read_call.Goals as goal

pub returns-in-Some-clause-read_call : goal.returns-in-Some-clause-read_call
returns-in-Some-clause-read_call c =
    let p = rw c.in_ok-byte.ensures.ok_part at c.byte.ensures in
    call_read _ c.read_rest.new.fields c.in-Some.call c.if-reader.true p.took c.in-Some.ensures.took
