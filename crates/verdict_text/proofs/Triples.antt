-- The triple that an index is named by. Assumes nothing.
use mathlib.Core.Bool.{So}
use mathlib.Core.Path.{◌≡◌, refl, subst, sym, ◌∙◌}
use Prim.Native.Nat.{ℕ, ◌<◌}
use native.Mathlib.Decide.{dec_lt}
use native.Mathlib.Omega.{arith}
use Rattle.trees.proofs.Triplets.{different_i}
use Rattle.trees.specs.Triplets.{different}
use Rattle.triples.proofs.Indices.{triple_back}
use Rattle.triples.proofs.Names.{named_as, named_beyond}
use Rattle.triples.specs.Index.{C, high_at, low_at, mid_at}
use Rattle.triples.specs.Named.{named}
use Rattle.std.specs.Prelude.{None, Some}
use Rattle.triples.specs.declared.Triple.{Triple}

-- its species are in increasing order, and below 64
abbrev Rising : Triple → Type 0
Rising x = (x.low < x.mid) × (x.mid < x.high) × (x.high < 64)

rising : (i : ℕ) (x : Triple) → named i ≡ Some x → Rising x
rising i x e = go (dec_lt i (C 64 3))
  where
    go : Dec (i < C 64 3) → Rising x
    go (yes l) =
        let y : Triple = record { low = low_at 64 i; mid = mid_at 64 i; high = high_at 64 i } in
        let q : Some x ≡ Some y = sym e ∙ named_as i (low_at 64 i) (mid_at 64 i) (high_at 64 i) l refl refl refl in
        let s : y ≡ x = cc in
        let b = triple_back 64 i l in
        subst Rising s (b.0, b.1, b.2)
    go (no n) =
        let q : Some x ≡ None = sym e ∙ named_beyond i (omega arith) in
        let z : ◌≡◌ {A = ℕ} 0 1 = cc in
        absurd (omega arith)

-- so that a tree can be asked about them
pub askable : (i : ℕ) (x : Triple) → named i ≡ Some x → So (different x.low x.mid x.high) × (x.low < 64) × (x.mid < 64) × (x.high < 64)
askable i x e =
    let r = rising i x e in
    (different_i x.low x.mid x.high (λ z. omega (arith, r.0, z)) (λ z. omega (arith, r.0, r.1, z)) (λ z. omega (arith, r.1, z)), omega (arith, r), omega (arith, r), r.2)
