-- Each refusal by the header's law; then what the trees answer. Assumes nothing.
use mathlib.Core.Bool.{Bool, ◌||◌}
use mathlib.Core.List.{List}
use mathlib.Core.Path.{◌∙◌, ◌≡◌, ap₂, sym}
use Prim.Native.Nat.{ℕ}
use native.Mathlib.Omega.{arith}
use lib.Dec.{eqb, ltb}
use Rattle.collections.proofs.Header.{read_counts, read_none, read_short, read_trees, read_version}
use Rattle.collections.specs.Layout.{species, trees, version, wrong_counts}
use Rattle.collections.proofs.read.Goals as goal

-- what wrong_counts answers speaks of the bytes
counts : (b : List ℕ) {n m : ℕ} {r : Bool} → r ≡ (eqb n 0 || (ltb 64 n || ltb 16 m)) → n ≡ species b → m ≡ trees b → wrong_counts b ≡ r
counts b e n m = sym (e ∙ ap₂ (λ (x y : ℕ). eqb x 0 || (ltb 64 x || ltb 16 y)) n m)

pub returns-then-b-eq0 : goal.returns-then-b-eq0
returns-then-b-eq0 c = read_none c.args.b.now c.if-b-eq0.true

pub returns-then-b-ne1 : goal.returns-then-b-ne1
returns-then-b-ne1 c = read_version c.args.b.now c.if-b-eq0.false c.if-b-ne1.true

pub returns-then-b-lt3 : goal.returns-then-b-lt3
returns-then-b-lt3 c =
    let one : version c.args.b.now ≡ 1 = omega arith in
    read_short c.args.b.now c.if-b-eq0.false one c.if-b-lt3.true

pub returns-then-wrong_counts : goal.returns-then-wrong_counts
returns-then-wrong_counts c =
    let one : version c.args.b.now ≡ 1 = omega arith in
    let w = counts c.args.b.now c.wrong_counts.ensures c.from-n.ensures c.from-m.ensures in
    read_counts c.args.b.now c.if-b-eq0.false one c.if-b-lt3.false (w ∙ c.if-wrong_counts.true)

pub returns : goal.returns
returns c =
    let one : version c.args.b.now ≡ 1 = omega arith in
    let w = counts c.args.b.now c.wrong_counts.ensures c.from-n.ensures c.from-m.ensures in
    c.all_trees.ensures ∙ read_trees c.args.b.now c.if-b-eq0.false one c.if-b-lt3.false (w ∙ c.if-wrong_counts.false)
