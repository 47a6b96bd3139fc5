-- From any papers to a tree that may be sent: it follows from what is promised of the veto build and of loosening. Assumes nothing.
use native.Mathlib.Omega.{arith}
use lib.ListN.{length}
use Rattle.bodies.proofs.Good.{length_good}
use Rattle.promises.specs.Loosening.{Loosening}
use Rattle.promises.specs.Operations.{Operations, koodhaxil}
use Rattle.promises.specs.Sent.{AnyPapers}
use Rattle.promises.specs.Veto.{Veto}
use Rattle.promises.specs.Demand2.{front}
use Rattle.promises.proofs.Loosened.{loosening_keeps}
use Rattle.promises.proofs.Vetoed.{vetoes_keep}

-- So of any functions that keep both.
pub sent_by : (L : Operations) → Veto L → Loosening L → AnyPapers L
sent_by L v l n s t o o' d g room list =
    let r = v.vetoing n s t o g in
    let b = front r.count (L.veto n s t o).after in
    let z = length_good b r.wrote.body.long in
    let q = l.loosening n t b o' d (record { count = g.count; table = g.table; body = r.wrote.body; tree_room = omega (arith, z.1, z.2, room); list = list }) r.pc in
    record {
      nodes = r.count;
      looked = r.looked;
      built = r.told_is;
      left = q.count;
      dropped = length q.dropped;
      loosened = q.told_is;
      passes = l.passes n q.count (length q.dropped) t b o' d q.told_is;
    }

pub any-papers : AnyPapers koodhaxil
any-papers = sent_by koodhaxil vetoes_keep loosening_keeps
