-- The chunks of three bytes. Assumes nothing.
use Rattle.std.proofs.Common.{◌∙◌, arith}
use Rattle.items.proofs.Items.{chunks_records}
use Rattle.items.proofs.records.Goals as goal

pub returns : goal.returns
returns c = c.as_chunks.ensures.front ∙ chunks_records c.args.b.now _ (omega arith)
