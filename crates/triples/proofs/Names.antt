-- The triple that an index is named by. Assumes nothing.
use mathlib.Core.Bool.{Bool, cond}
use Rattle.std.specs.Prelude.{None, Some}
use mathlib.Core.Path.{◌∙◌, ◌≡◌, ap}
use Prim.Native.Nat.{◌<◌, ◌≤◌, ℕ}
use borrow.Author.Tests.{le-ltb, lt-ltb}
use Rattle.triples.proofs.Indices.{high_of, index-lt, low_of, mid_of}
use Rattle.triples.specs.Index.{C, high_at, index, low_at, mid_at}
use Rattle.triples.specs.Named.{named, triple_at}

pub named_beyond : (i : ℕ) → C 64 3 ≤ i → named i ≡ None
unfolding named
named_beyond i h = ap (λ (b : Bool). cond b (Some (triple_at i)) None) (le-ltb i (C 64 3) h)

pub named_as : (i l m h : ℕ) → i < C 64 3 → low_at 64 i ≡ l → mid_at 64 i ≡ m → high_at 64 i ≡ h → named i ≡ Some (record { low = l; mid = m; high = h })
unfolding named triple_at
named_as i l m h lt el em eh = ap (λ (b : Bool). cond b (Some (triple_at i)) None) (lt-ltb i (C 64 3) lt) ∙ rw (el, em, eh)

-- the index of a < b < c is named by them
pub named-index : (a b c : ℕ) → a < b → b < c → c < 64 → named (index a b c) ≡ Some (record { low = a; mid = b; high = c })
named-index a b c p q r = named_as (index a b c) a b c (index-lt a b c 64 p q r) (low_of a b c 64 p q r) (mid_of a b c 64 p q r) (high_of a b c 64 p q r)
