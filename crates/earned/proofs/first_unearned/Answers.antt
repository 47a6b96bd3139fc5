-- `earned::first_unearned` meets its contract. Assumes nothing.
use Prim.Native.Nat.{◌<◌, ℕ}
use native.Mathlib.Omega.{arith}
use borrow.Author.Count.{below_more}
use borrow.Author.Rules.{rules}
use Rattle.bodies.specs.Nodes.{nodes}
use Rattle.earned.specs.Siblings.{Beside}
use Rattle.earned.proofs.Earning.{leaf_beside}
use Rattle.earned.proofs.first_unearned.Goals.{else-species-via-then-species+else-not-beside_all, else-species-via-else-species}
use Rattle.earned.proofs.first_unearned.Goals as goal

pub returns-then-not-beside_all-clause-first_unearned_node :
    goal.returns-then-not-beside_all-clause-first_unearned_node
returns-then-not-beside_all-clause-first_unearned_node c = λ E pr m. record {
  later = omega arith;
  within = omega (arith, c.loop-i-test.true, c.node_count-i-end.ensures);
  before = λ i p h. c.loop-i.invariant E pr m i h p;
  inner = omega (arith, c.if-species.true, c.species.ensures);
  apart = (c.beside_all.ensures E pr m).apart (search rules);
}

pub loop-i-preserved : goal.loop-i-preserved
loop-i-preserved c = λ E pr m. below_more (λ k. 0 < k → (j : ℕ) → Beside E (nodes c.args.tree.body.now) k j) c.loop-i.i (c.loop-i.invariant E pr m) (elim c.else-species.branch [
  | else-species-via-then-species+else-not-beside_all w ↦ (λ _. (w.beside_all.ensures E pr m).joined (search rules))
  | else-species-via-else-species w ↦ (λ _ j. leaf_beside _ c.args.tree.good E c.loop-i.i j (omega (arith, c.loop-i-test.true, c.node_count-i-end.ensures))
      (λ e. omega (arith, w.if-species.false, c.species.ensures, e)))
])

pub returns-clause-first_unearned_node : goal.returns-clause-first_unearned_node
returns-clause-first_unearned_node c = λ E pr m i p h. c.loop-i.invariant E pr m i (omega (arith, c.loop-i-test.false, c.node_count-i-end.ensures)) p
