-- By the closed form of C(n,2) up to 64. Assumes nothing.
use Rattle.std.proofs.Common.{◌≡◌, ◌∙◌, ap, arith, sym, ℕ}
use Rattle.trees.proofs.Combinations.{C-none}
use Rattle.triples.proofs.Indices.{halves}
use Rattle.triples.specs.Index.{C}
use Rattle.triples.proofs.pairs.Goals as goal

pub returns-then-n-lt1 : goal.returns-then-n-lt1
returns-then-n-lt1 c = let e : c.args.n ≡ 0 = omega arith in sym (ap (λ (k : ℕ). C k 2) e ∙ C-none 1)

pub returns : goal.returns
returns c = halves c.args.n (omega arith)
