-- The number, the values and the rule, one behind the other.
use Rattle.std.proofs.Common.{append_assoc}
use Rattle.writing.proofs.Writing.{writes}
use Rattle.reply_text.proofs.put_reply.Goals as goal

pub returns : goal.returns
returns c = simp (c.put_rule.ensures, c.numbers.ensures, c.as_slice.ensures.value, c.decimal.ensures, writes, append_assoc)
