-- The body of a paper, as the code finds it in the collection. Assumes nothing.
use mathlib.Core.List.{List}
use mathlib.Core.Path.{◌≡◌}
use Prim.Native.Nat.{ℕ, suc, ◌<◌, ◌≤◌}
use native.Mathlib.Omega.{arith}
use lib.ListN.{length}
use Rattle.bodies.proofs.Good.{good_more}
use Rattle.bodies.specs.Nodes.{nodes}
use Rattle.answers.specs.Inputs.{Body, Count}
use Rattle.collections.proofs.Whole.{whole_long}
use Rattle.collections.specs.Collection.{Collection}
use Rattle.collections.specs.Layout.{body_at, species, start, trees}

module _ (c : List ℕ) (w : Collection c) (k : ℕ) (h : k < trees c) where
  -- the trees up to it lie inside the bytes
  pub inside : (j : ℕ) → j ≤ k → start c (suc j) ≤ length c
  inside j l = w.inside j (omega arith)

  -- "A collection has 0 to 16 trees"
  pub one_of_16 : k < 16
  one_of_16 = omega (arith, w.few)

  -- the bytes that the code hands on are good
  module _ (u : List ℕ) (i : u ≡ body_at c k) where
    pub body_good : (n : ℕ) → n ≡ species c → Count n × Body n u
    body_good n e = rw (e, i) (record { some = w.some; most = w.most }, record { good = w.good k h; long = whole_long c w k h })

    pub body_64 : Body 64 u
    body_64 = rw i (record { good = good_more (species c) 64 (nodes (body_at c k)) w.most (w.good k h); long = whole_long c w k h })
