-- A list of zeros is 0 at every place, and behind its end. Assumes nothing.
use Rattle.std.proofs.Common.{◌≡◌, ℕ, ltb, get_or, replicate, arith, ltb-false, ltb-true}
use borrow.Author.Tests.{not-true}
use lib.ListN.{get_or-eq_default, get_or-replicate, length-replicate}
use Rattle.sets.proofs.Bools.{test}

pub zero-at : (n i : ℕ) → get_or {A = ℕ} (replicate n 0) i 0 ≡ 0
zero-at n i = test (ltb i n)
    (λ l. get_or-replicate n i 0 0 (ltb-true i n l))
    (λ l. get_or-eq_default (replicate n 0) 0 (omega (arith, ltb-false i n (not-true (ltb i n) l), length-replicate {A = ℕ} n 0)))
