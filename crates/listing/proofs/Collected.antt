-- A collection: its bodies, and the table after each tree. Assumes nothing.
use mathlib.Core.Bool.{false}
use mathlib.Core.List.{List}
use mathlib.Core.Path.{◌≡◌}
use Prim.Native.Nat.{◌<◌, ◌≤◌, suc, ℕ}
use native.Mathlib.Omega.{arith}
use lib.ListN.{length}
use Rattle.bodies.specs.Draws.{tree_of}
use Rattle.bodies.specs.Nodes.{Good, bad_length, nodes}
use Rattle.collections.proofs.Whole.{whole_long}
use Rattle.collections.specs.Collection.{Collection}
use Rattle.collections.specs.Layout.{body_at, species, start, trees}
use Rattle.tables.proofs.Adding.{adds_both, adds_nothing}
use Rattle.tables.specs.Adds.{Adds}
use Rattle.tables.specs.Filled.{byte_for, said_by, tree_byte}
use Rattle.triples.specs.Index.{C}
use Rattle.listing.specs.Lists.{said_up_to}

module _ (b : List ℕ) (r : Collection b) where
  module _ (k : ℕ) (h : k < trees b) where
    -- the trees up to it lie inside the bytes
    pub inside : (j : ℕ) → j ≤ k → start b (suc j) ≤ length b
    inside j l = r.inside j (omega arith)

    body_good : Good (species b) (nodes (body_at b k))
    body_good = r.good k h

    body_long : bad_length (length (body_at b k)) ≡ false
    body_long = whole_long b r k h

    -- the bytes that the code hands on
    pub part_good : (n : ℕ) (u : List ℕ) → n ≡ species b → u ≡ body_at b k → (n ≤ 64) × Good n (nodes u) × (bad_length (length u) ≡ false)
    part_good n u e q = rw (e, q) (r.most, body_good, body_long)

    -- the table after it
    pub said_next : (n : ℕ) (u t₀ t t' : List ℕ) → u ≡ body_at b k → Adds (byte_for (said_up_to b k)) 0 (C n 3) t₀ t → Adds (tree_byte (tree_of u)) 0 (C n 3) t t'
        → Adds (byte_for (said_up_to b (suc k))) 0 (C n 3) t₀ t'
    unfolding said_up_to
    said_next n u t₀ t t' q f a = adds_both (said_up_to b k) (said_by (tree_of (body_at b k))) 0 (C n 3) t₀ t t' f (rw (← q) a)

-- no tree was listed
pub said_none : (b t : List ℕ) (l : ℕ) → Adds (byte_for (said_up_to b 0)) 0 l t t
unfolding said_up_to
said_none b t l = adds_nothing 0 l t
