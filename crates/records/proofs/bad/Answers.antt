-- `records::bad` meets its contract. Assumes nothing.
use mathlib.Core.Logic.{⊎_elim}
use mathlib.Core.Path.{sym}
use native.Mathlib.Omega.{arith}
use Rattle.trees.proofs.Triplets.{different_e, different_i}
use Rattle.records.proofs.Records.{Good, bad_i, good_i}
use Rattle.records.proofs.bad.Goals as goal

pub returns-then-a-b : goal.returns-then-a-b
returns-then-a-b c =
    let a = c.args in
    let no : Good a.n a.a a.b a.c → ⊥ = λ g.
    let e = different_e a.a a.b a.c g.apart in
    ⊎_elim (λ w. e.0 w) (⊎_elim (λ w. search (e.1, e.2)) (λ w. search (e.1, e.2))) c.then-a-b.either in
    sym (bad_i a.n a.a a.b a.c no)

pub returns-then-a-n : goal.returns-then-a-n
returns-then-a-n c =
    let a = c.args in
    let no : Good a.n a.a a.b a.c → ⊥ = λ g.
    ⊎_elim (λ w. omega arith) (⊎_elim (λ w. omega arith) (λ w. omega arith)) c.then-a-n.either in
    sym (bad_i a.n a.a a.b a.c no)

pub returns : goal.returns
returns c =
    let a = c.args in
    sym (good_i a.n a.a a.b a.c (record {
      apart = different_i a.a a.b a.c (search) (search) (search);
      first = search;
      second = search;
      third = search;
    }))
