-- The last digit, behind the digits before it. Assumes nothing.
use Rattle.std.proofs.Common.{arith}
use Rattle.std.proofs.lemmas.Grind.{common_steps}
use Rattle.writing.proofs.Digits.{decimal_digit, decimal_more}
use Rattle.writing.proofs.Writing.{wrote_on_both}
use Rattle.writing.proofs.Text.+decimal.Goals.{then-n-ge10, else-n-ge10}
use Rattle.writing.proofs.Text.+decimal.Goals as goal

pub returns : goal.returns
returns t c = elim c.if-n-ge10.branch [
  | then-n-ge10 w ↦ grind (arith, common_steps, wrote_on_both, decimal_more)
  | else-n-ge10 w ↦ let one = decimal_digit c.args.n w.if-n-ge10.false in grind (arith, common_steps)
]
