-- `pi::core` meets its contract. The loop's invariant: the chain came to x, and y is next; y lies in x, whatever the masks are. Assumes nothing.
use mathlib.Core.Bool.{So}
use Prim.Native.Nat.{◌<◌, ◌^◌}
use native.Mathlib.Omega.{arith}
use borrow.Author.Rules.{rules}
use Rattle.sets.proofs.Sizes.{size_proper}
use Rattle.sets.specs.Sets.{Subset, has, size}
use Rattle.trees.specs.Triplets.{Proper, Triplets}
use Rattle.masks.specs.Masks.{Masks}
use Rattle.pi.proofs.Cores.{Chain, chain_end, chain_next, chain_start, next_a, next_c}
use Rattle.pi.proofs.core.Statement.{statement}
use Rattle.pi.proofs.core.Tie as tie

abbrev invariant-loop : tie.invariant-loop-y
invariant-loop masks s a c x₀ y₀ x y =
    (x < 2 ^ 64) × (y < 2 ^ 64) × ((E : Triplets) → Proper E → Masks E masks → So (has s a) → So (has s c) → Chain E s a c x y) × Subset y x

abbrev decreases-loop : tie.decreases-loop-y
decreases-loop masks s a c x₀ y₀ x y = size x

pair-requires : tie.Need-pair-y-requires invariant-loop decreases-loop
pair-requires c κs = search rules

loop_holds : tie.Need-loop-y-init invariant-loop decreases-loop
loop_holds c = (omega arith, omega arith, (λ E pr m ha hc. chain_start E _ _ _ _ ha hc (c.pair-y.ensures.1 E pr m ha hc)), c.pair-y.ensures.0)

pair-requires-2 : tie.Need-pair-y-requires-in-loop-y invariant-loop decreases-loop
pair-requires-2 c κs = search rules

loop_less : tie.Need-loop-y-smaller invariant-loop decreases-loop
loop_less c = let l = c.before.before.loop-y in size_proper l.y l.x l.invariant.3 c.before.loop-y-test.true

loop_again : tie.Need-loop-y-preserved invariant-loop decreases-loop
loop_again c =
    let l = c.before.before.loop-y in
    let p = c.pair-y-in-loop-y.ensures in (
      l.invariant.1,
      omega arith,
      (λ E pr m ha hc. let h = l.invariant.2 E pr m ha hc in
          chain_next E pr _ _ _ _ _ l.invariant.0 h _ (p.1 E pr m (next_a E pr _ _ _ _ _ l.invariant.0 h) (next_c E pr _ _ _ _ _ l.invariant.0 h))),
      p.0,
    )

returns : tie.Need-returns invariant-loop decreases-loop
returns c E pr m ha hc = let l = c.before.loop-y in chain_end E _ _ _ _ _ c.loop-y-test.false (l.invariant.2 E pr m ha hc)

pub core_spec : {M : Type 1} → statement M
core_spec =
    tie.close
    (tie.spec
    invariant-loop
    decreases-loop
    pair-requires
    loop_holds
    pair-requires-2
    loop_less
    loop_again
    returns)
