-- The set is empty, or a species of it is not among all n. Assumes nothing.
use Rattle.std.proofs.Common.{◌≡◌, ◌↔◌, ℕ, true, subst}
use Rattle.sets.specs.Sets.{Subset}
use Rattle.admitting.proofs.Chosen.{bad_subset}
use Rattle.admitting.proofs.bad_set.Goals as goal

pub returns-else-s-eq0 : goal.returns-else-s-eq0
returns-else-s-eq0 c =
    bad_subset c.args.n c.args.s c.if-s-eq0.false c.subset.result
    (subst (λ (u : ℕ). (c.subset.result ≡ true) ↔ Subset c.args.s u) c.all.ensures c.subset.ensures)
