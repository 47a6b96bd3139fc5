-- `collections::body_span` meets its contract: each turn goes on to the next tree.
use Rattle.std.proofs.Common.{ℕ, ◌≡◌, ◌+◌, ◌∙◌, ap, sym, arith}
use Rattle.collections.proofs.Starts.{inside-at, start-next, start-zero}
use Rattle.collections.specs.Layout.{start}
use Rattle.collections.proofs.body_span.Goals as goal

pub loop-init : goal.loop-init
loop-init c =
    let b = c.args.b.now in
    let e : 3 ≡ start b 0 = sym (start-zero b) in
    (e, inside-at b 0 3 e (c.requires 0 (omega arith)))

pub loop-preserved : goal.loop-preserved
loop-preserved c =
    let b = c.args.b.now in
    let k = c.loop.counter in
    let e : c.loop.at + (2 + c.length_at.result) ≡ start b (k + 1) = omega (arith, c.length_at.ensures.0, start-next b k c.loop.at c.loop.invariant.0) in
    (e, inside-at b (k + 1) _ e (c.requires (k + 1) (omega arith)))

pub returns : goal.returns
returns c =
    let b = c.args.b.now in
    let k = c.loop.counter in
    let e : k ≡ c.args.k = omega arith in
    let n : c.loop.at + 2 + c.length_at-2.result ≡ start b (k + 1) = omega (arith, c.length_at-2.ensures.0, start-next b k c.loop.at c.loop.invariant.0) in
    (ap (λ (x : ℕ). x + 2) (c.loop.invariant.0 ∙ ap (start b) e), n ∙ ap (start b) (omega arith))
