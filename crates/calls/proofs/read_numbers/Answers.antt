-- The bytes that were read are the numbers. Assumes nothing.
use Rattle.std.proofs.Common.{ℕ, arith}
use Rattle.std.proofs.Math.Seq.{length-take-le}
use Rattle.input.proofs.Reading.{some_took}
use Rattle.calls.proofs.Written.{numbers_front}
use Rattle.calls.proofs.read_numbers.Goals as goal

pub returns-clause-took : goal.returns-clause-took
returns-clause-took c = some_took c.in_ok-fill.ensures.took (numbers_front c.args.k _ _ _ c.fill.new.to _ c.requires (omega (arith, length-take-le {A = ℕ})) c.eight.ensures c.eight-2.ensures c.eight-3.ensures)
