-- The three species are those that the index gives back, by `triple_back`. Assumes nothing.
use Rattle.std.proofs.Common.{◌-◌, ◌<◌, ◌≡◌, ◌≤◌, ◌∙◌, ap, ap₂, arith, subst, sym, ℕ}
use Rattle.triples.proofs.Indices.{triple_back}
use Rattle.triples.proofs.Names.{named_as, named_beyond}
use Rattle.triples.specs.Index.{C, high_at, index, largest, low_at, mid_at}
use Rattle.triples.proofs.triple_at.Goals as goal

-- k is how many triples there are, h the highest species, p what it adds to the index, m the middle species and q what that adds
module _ (i k h : ℕ) (ek : k ≡ C 64 3) (l : i < k) (eh : h ≡ largest 3 64 i) where
  inside : i < C 64 3
  inside = subst (λ (x : ℕ). i < x) ek l

  highest : h ≡ high_at 64 i
  unfolding high_at
  highest = eh

  high_below : h < 64
  high_below = omega (arith, (triple_back 64 i inside).2, highest)

  module _ (p : ℕ) (ep : p ≡ C h 3) where
    added : p ≡ C (high_at 64 i) 3
    added = ep ∙ ap (λ (x : ℕ). C x 3) highest

    high_fits : p ≤ i
    unfolding index
    high_fits = omega (arith, (triple_back 64 i inside).3, added)

    module _ (m : ℕ) (em : m ≡ largest 2 64 (i - p)) where
      middle : m ≡ mid_at 64 i
      unfolding mid_at
      middle = em ∙ ap (λ (r : ℕ). largest 2 64 (i - r)) added

      mid_below : m < 64
      mid_below = let t = triple_back 64 i inside in omega (arith, t.1, t.2, middle)

      module _ (q : ℕ) (eq : q ≡ C m 2) where
        also : q ≡ C (mid_at 64 i) 2
        also = eq ∙ ap (λ (x : ℕ). C x 2) middle

        mid_fits : q ≤ i - p
        unfolding index
        mid_fits = omega (arith, (triple_back 64 i inside).3, added, also)

        lowest : i - p - q ≡ low_at 64 i
        unfolding low_at
        lowest = ap₂ (λ (x y : ℕ). i - x - y) added also

pub returns-then-i-count : goal.returns-then-i-count
returns-then-i-count c = sym (named_beyond c.args.i (subst (λ (x : ℕ). x ≤ c.args.i) c.count.ensures c.if-i-count.true))

pub count-requires-2 : goal.count-requires-2
count-requires-2 c = omega (arith, high_below c.args.i _ _ c.count.ensures c.if-i-count.false c.largest-high.ensures)

pub overflow_sub-rest : goal.overflow_sub-rest
overflow_sub-rest c = high_fits c.args.i _ _ c.count.ensures c.if-i-count.false c.largest-high.ensures _ c.count-2.ensures

pub pairs-requires : goal.pairs-requires
pairs-requires c = omega (arith, mid_below c.args.i _ _ c.count.ensures c.if-i-count.false c.largest-high.ensures _ c.count-2.ensures _ c.largest-mid.ensures)

pub overflow_sub-result : goal.overflow_sub-result
overflow_sub-result c = mid_fits c.args.i _ _ c.count.ensures c.if-i-count.false c.largest-high.ensures _ c.count-2.ensures _ c.largest-mid.ensures _ c.pairs.ensures

pub returns : goal.returns
returns c =
    let i = c.args.i in
    let n = c.count.ensures in
    let l = c.if-i-count.false in
    let h = c.largest-high.ensures in
    let p = c.count-2.ensures in
    let m = c.largest-mid.ensures in
    sym (named_as i _ _ _ (inside i _ _ n l h) (sym (lowest i _ _ n l h _ p _ m _ c.pairs.ensures)) (sym (middle i _ _ n l h _ p _ m)) (sym (highest i _ _ n l h)))
