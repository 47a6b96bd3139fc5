-- Nothing stands in the buffer of a new reader. Assumes nothing.
use Rattle.std.proofs.Common.{refl}
use Rattle.input.proofs.Reading.{none_left}
use Rattle.input.proofs.Reader.new.Goals as goal

pub returns-clause-buffered : goal.returns-clause-buffered
returns-clause-buffered c = none_left _ refl
