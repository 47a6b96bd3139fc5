-- Down from 64, the first number that has at most i sets of k is the largest. Assumes nothing.
use Rattle.std.proofs.Common.{◌-◌, ◌<◌, ◌≡◌, ◌∙◌, arith, refl, subst, suc, sym, ℕ}
use Rattle.triples.proofs.Indices.{largest_down, largest_here}
use Rattle.triples.specs.Index.{C, largest}
use Rattle.triples.proofs.largest.Goals as goal

pub loop-m-init : goal.loop-m-init
loop-m-init c = (omega arith, omega arith, refl)

pub returns-then-combinations-i : goal.returns-then-combinations-i
returns-then-combinations-i c =
    let a = c.args in
    sym (largest_here a.k (c.loop-m.m - 1) a.i (omega arith)) ∙ c.loop-m.invariant.2

pub loop-m-preserved : goal.loop-m-preserved
loop-m-preserved c =
    let a = c.args in
    let m = c.loop-m.m - 1 in
    let e : m ≡ suc (m - 1) = omega arith in
    let l : a.i < C m a.k = omega arith in (
      omega arith,
      omega arith,
      sym (largest_down a.k (m - 1) a.i (subst (λ (x : ℕ). a.i < C x a.k) e l))
          ∙ subst (λ (x : ℕ). largest a.k x a.i ≡ largest a.k 64 a.i) e c.loop-m.invariant.2,
    )

pub returns : goal.returns
unfolding largest
returns c =
    let a = c.args in
    let e : c.loop-m.m - 1 ≡ 0 = omega arith in
    subst (λ (x : ℕ). largest a.k x a.i ≡ largest a.k 64 a.i) e c.loop-m.invariant.2
