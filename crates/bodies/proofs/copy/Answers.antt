-- `bodies::copy` meets its contract.
use Rattle.std.proofs.Common.{List, ℕ, ◌++◌, ◌∙◌, ap, drop}
use Rattle.bodies.specs.Nodes.{body_length}
use Rattle.bodies.proofs.Written.{copied}
use Rattle.bodies.proofs.copy.Goals as goal

pub returns : goal.returns
returns c =
    ap (λ (l : List ℕ). l ++ drop (body_length c.args.k) c.args.room.now) c.copy_from_slice.ensures.after
    ∙ copied c.args.room.now c.args.body.now (body_length c.args.k) c.requires.0 c.requires.1
