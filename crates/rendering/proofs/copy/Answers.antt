-- One byte more is the text's; at the end all of it stands at the front. Assumes nothing.
use Rattle.std.proofs.Common.{List, ℕ, ◌++◌, ◌+◌, ◌<◌, ◌≡◌, ◌∙◌, ap, ap₂, arith, drop, get_or, length, set, suc, sym, take, zero-add}
use lib.Seq.{paste-suc, take-length}
use native.Mathlib.Numerals.{add-one}
use Rattle.bodies.proofs.Written.{written-cut}
use Rattle.rendering.proofs.copy.Goals as goal

copy_more : (o w : List ℕ) (j : ℕ) → j < length o → j < length w → set (take j w ++ drop j o) j (get_or w j 0) ≡ take (j + 1) w ++ drop (j + 1) o
copy_more o w j ho hw =
    ap₂ (λ (i k : ℕ). set (take j w ++ drop i o) k (get_or w j 0)) (sym (zero-add j)) (sym (zero-add j)) ∙ paste-suc o 0 w j 0 (omega arith) hw
    ∙ ap₂ (λ (i k : ℕ). take i w ++ drop k o) (sym (add-one j)) (zero-add (suc j) ∙ sym (add-one j))

pub loop-i-preserved : goal.loop-i-preserved
loop-i-preserved c =
    let w = c.args.text.now in
    let i = c.loop-i.i in
    ap (λ (o : List ℕ). set o i (get_or w i 0)) c.loop-i.invariant ∙ copy_more c.args.room.now w i (omega arith) (omega arith)

pub returns : goal.returns
returns c =
    let o = c.args.room.now in
    let w = c.args.text.now in
    let e : c.loop-i.i ≡ length w = omega arith in
    c.loop-i.invariant ∙ ap (λ (k : ℕ). take k w ++ drop k o) e ∙ ap (λ (t : List ℕ). t ++ drop (length w) o) (take-length w) ∙ sym (written-cut o w c.requires)
