-- The line of the check, and what may be sent. Assumes nothing.
use Rattle.writing.proofs.Writing.{writes}
use Rattle.sending.specs.Sends.{send_text}
use Rattle.sending.proofs.send.Goals as goal

pub returns : goal.returns
unfolding send_text
returns c = simp (c.put_sent.ensures, c.put_verdict.ensures, writes)
