-- `pi::sure_at` meets its contract: in each arm one look decides. Assumes nothing.
use Rattle.std.proofs.Common.{◌∙◌, ap, arith, not}
use Rattle.std.proofs.Math.Bool.{So}
use Rattle.trees.proofs.Agreement.{R-proper}
use Rattle.trees.proofs.Triplets.{different_i}
use Rattle.trees.specs.Check.{R}
use Rattle.trees.specs.Triplets.{different}
use Rattle.pi.proofs.Unforced.{look_ab, look_ac, look_bc}
use Rattle.pi.proofs.sure_at.Goals.{After-ask}
use Rattle.pi.proofs.sure_at.Goals as goal

apart : (c : After-ask) → let a = c.args in So (different a.a a.b a.c)
apart c = let a = c.args in different_i a.a a.b a.c (λ e. omega arith) (λ e. omega arith) (λ e. omega arith)

pub returns-in-AB-clause-decides : goal.returns-in-AB-clause-decides
returns-in-AB-clause-decides c = λ E n T u m.
    let a = c.args in
    let r = c.core_of.ensures.recalls (R E T) (R-proper E u.proper T) u.masked m in (
      r.0,
      ap not c.has.ensures
          ∙ look_ab E n T a.d.whole a.d.meets.now a.masks.now u a.a a.b a.c (apart (goal.at.returns-in-AB-clause-decides c).After-ask) c.ask.result
          (c.ask.ensures T u.tree.drawn.meet u.tree.drawn.all) c.in-AB.is c.core_of.result r.1,
    )

pub returns-in-AC-clause-decides : goal.returns-in-AC-clause-decides
returns-in-AC-clause-decides c = λ E n T u m.
    let a = c.args in
    let r = c.core_of-in-AC.ensures.recalls (R E T) (R-proper E u.proper T) u.masked m in (
      r.0,
      ap not c.has-in-AC.ensures
          ∙ look_ac E n T a.d.whole a.d.meets.now a.masks.now u a.a a.b a.c (apart (goal.at.returns-in-AC-clause-decides c).After-ask) c.ask.result
          (c.ask.ensures T u.tree.drawn.meet u.tree.drawn.all) c.in-AC.is c.core_of-in-AC.result r.1,
    )

pub returns-in-BC-clause-decides : goal.returns-in-BC-clause-decides
returns-in-BC-clause-decides c = λ E n T u m.
    let a = c.args in
    let r = c.core_of-in-BC.ensures.recalls (R E T) (R-proper E u.proper T) u.masked m in (
      r.0,
      ap not c.has-in-BC.ensures
          ∙ look_bc E n T a.d.whole a.d.meets.now a.masks.now u a.a a.b a.c (apart (goal.at.returns-in-BC-clause-decides c).After-ask) c.ask.result
          (c.ask.ensures T u.tree.drawn.meet u.tree.drawn.all) c.in-BC.is c.core_of-in-BC.result r.1,
    )
