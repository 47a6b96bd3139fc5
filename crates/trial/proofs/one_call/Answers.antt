-- The call that was read is the one whose line waits, and behind it nothing of the input is lost or read again. Assumes nothing.
use Rattle.std.proofs.Common.{rules}
use Rattle.input.specs.Inputs.{buffered}
use Rattle.trial.proofs.one_call.Goals as goal

pub returns-in-Ok : goal.returns-in-Ok
unfolding buffered
returns-in-Ok c =
    let r = rw c.in-Ok.is at c.read_call-call.ensures.read_call in
    record {
      text = _;
      waits = rw c.in-Ok.is at c.make.ensures;
      step = record {
        whole = r.whole;
        bytes = _;
        took = record { uncut = r.bytes.took.uncut; follows = r.bytes.took.follows };
        byte = _;
        numbers = _;
        fields = _;
        call = r.bytes.are;
        line = search rules;
      };
    }
