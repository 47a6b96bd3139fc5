-- How a table grows: stretch after stretch, source after source, by one triple and by one record; and what a table of zeros grows into. Assumes nothing.
use mathlib.Core.Bool.{Bool, So, ◌&&◌, ◌||◌, cond, false, or_assoc, true}
use mathlib.Core.List.{List}
use mathlib.Core.Path.{◌∙◌, ◌≡◌, ap, ap₂, refl, subst, sym}
use Prim.Native.Nat.{◌<◌, ◌≤◌, suc, zero, ℕ}
use native.Mathlib.Omega.{arith}
use borrow.Author.Tests.{eqb-true, ltb-false, ltb-true, not-true}
use lib.Bits.{or_zero_l, or_zero_r}
use lib.Dec.{eqb, ltb}
use lib.ListN.{get_or, length, length-replicate, length-set, replicate}
use lib.Seq.{ext_get_or, get_or-set_other, get_or-set_same}
use Rattle.sets.proofs.Bools.{ne_e, test}
use Rattle.sets.proofs.Digits.{ext_has}
use Rattle.sets.proofs.Tests.{has-union}
use Rattle.sets.proofs.Zeros.{zero-at}
use Rattle.sets.specs.Sets.{has, single, union}
use Rattle.trees.proofs.Triplets.{different_i}
use Rattle.trees.specs.Triplets.{different, only}
use Rattle.tables.proofs.Bytes.{enter-length, enter_stays}
use Rattle.tables.proofs.Fillings.{byte_both, table_at, table_length}
use Rattle.triples.proofs.Indices.{index_inj, triple_back}
use Rattle.tables.proofs.Places.{bit_ab, bit_ac, bit_bc, bit_most, place_ab, place_ac, place_bc, same_only}
use Rattle.tables.specs.Adds.{Adds}
use Rattle.tables.specs.Bytes.{added, bit_of, enter, place_of}
use Rattle.tables.specs.Filled.{Said, both_said, byte_for, byte_of, plain, table_for}
use Rattle.triples.specs.Index.{C, high_at, index, low_at, mid_at}

-- ---- stretch after stretch

module _ (w : ℕ → ℕ → ℕ → ℕ) where
  pub adds_none : (i : ℕ) (t : List ℕ) → Adds w i i t t
  adds_none i t = record { long = refl; within = λ a b c p q u v. absurd (omega arith); before = λ j u. refl; behind = λ j u. refl }

  pub adds_join : (lo m hi : ℕ) (t t₁ t₂ : List ℕ) → lo ≤ m → m ≤ hi → Adds w lo m t t₁ → Adds w m hi t₁ t₂ → Adds w lo hi t t₂
  adds_join lo m hi t t₁ t₂ u v p q = record {
    long = q.long ∙ p.long;
    within = λ a b c x y l h. test (ltb (index a b c) m)
        (λ k. let j = ltb-true (index a b c) m k in q.before (index a b c) j ∙ p.within a b c x y l j)
        (λ k. let j = ltb-false (index a b c) m (not-true _ k) in q.within a b c x y j h ∙ ap (λ (z : ℕ). union z (w a b c)) (p.behind (index a b c) j));
    before = λ i l. q.before i (omega arith) ∙ p.before i l;
    behind = λ i h. q.behind i h ∙ p.behind i (omega arith);
  }

  -- one triple
  pub adds_triple : (t : List ℕ) (a b c : ℕ) → a < b → b < c → index a b c < length t → Adds w (index a b c) (suc (index a b c)) t (added t (index a b c) (w a b c))
  adds_triple t a b c p q l = record {
    long = length-set t (index a b c) _;
    within = λ x y z u v j k.
        let e = index_inj x y z a b c u v p q (omega arith) in
        rw (e.0, e.1, e.2) (get_or-set_same t (index a b c) _ 0 l);
    before = λ i h. get_or-set_other t (index a b c) i _ 0 (λ e. omega arith);
    behind = λ i h. get_or-set_other t (index a b c) i _ 0 (λ e. omega arith);
  }

-- ---- source after source

-- what says nothing adds nothing
pub adds_nothing : (lo hi : ℕ) (t : List ℕ) → Adds (byte_for (plain (λ a b c. false))) lo hi t t
adds_nothing lo hi t = record { long = refl; within = λ a b c p q u v. sym (or_zero_r (get_or t (index a b c) 0)); before = λ j u. refl; behind = λ j u. refl }

union_assoc : (u v w : ℕ) → union (union u v) w ≡ union u (union v w)
union_assoc u v w = ext_has _ _ (λ i.
    has-union (union u v) w i ∙ ap (λ (x : Bool). x || has w i) (has-union u v i)
    ∙ or_assoc (has u i) (has v i) (has w i)
    ∙ sym (has-union u (union v w) i ∙ ap (λ (x : Bool). has u i || x) (has-union v w i)))

pub adds_both : (S Z : Said) (lo hi : ℕ) (t t₁ t₂ : List ℕ) → Adds (byte_for S) lo hi t t₁ → Adds (byte_for Z) lo hi t₁ t₂ → Adds (byte_for (both_said S Z)) lo hi t t₂
adds_both S Z lo hi t t₁ t₂ p q = record {
  long = q.long ∙ p.long;
  within = λ a b c x y l h.
      q.within a b c x y l h
      ∙ ap (λ (z : ℕ). union z (byte_for Z a b c)) (p.within a b c x y l h)
      ∙ union_assoc (get_or t (index a b c) 0) (byte_for S a b c) (byte_for Z a b c)
      ∙ ap (union (get_or t (index a b c) 0)) (sym (byte_both S Z a b c));
  before = λ i l. q.before i l ∙ p.before i l;
  behind = λ i h. q.behind i h ∙ p.behind i h;
}

-- ---- one record

-- the byte of one triplet: its bit in the byte of its triple, and nothing in any other
only_byte : (a b c l m h : ℕ) → So (different a b c) → l < m → m < h → byte_for (plain (only a b c)) l m h ≡ cond (eqb (index l m h) (place_of a b c)) (single (bit_of a b c)) 0
only_byte a b c l m h d p q =
    let k = bit_of a b c in
    let e = eqb (index l m h) (place_of a b c) in
    let x : only a b c l m h ≡ (e && eqb k 0) = at l m h 0 (different_i l m h (omega arith) (omega arith) (omega arith)) (place_ab l m h p q) (bit_ab l m h p q) in
    let y : only a b c l h m ≡ (e && eqb k 1) = at l h m 1 (different_i l h m (omega arith) (omega arith) (omega arith)) (place_ac l m h p q) (bit_ac l m h p q) in
    let z : only a b c m h l ≡ (e && eqb k 2) = at m h l 2 (different_i m h l (omega arith) (omega arith) (omega arith)) (place_bc l m h p q) (bit_bc l m h p q) in
    rw (x, y, z) (go e k (bit_most a b c))
  where
    at : (x y z k : ℕ) → So (different x y z) → place_of x y z ≡ index l m h → bit_of x y z ≡ k → only a b c x y z ≡ (eqb (index l m h) (place_of a b c) && eqb (bit_of a b c) k)
    at x y z k n e f = sym (same_only a b c x y z d) ∙ rw (n, e, f) refl

    go : (e : Bool) (k : ℕ) → k < 3 → byte_of (e && eqb k 0) (e && eqb k 1) (e && eqb k 2) false ≡ cond e (single k) 0
    go false k l = refl
    go true zero l = refl
    go true (suc zero) l = refl
    go true (suc (suc zero)) l = refl
    go true (suc (suc (suc k))) l = absurd (omega arith)

pub adds_record : (t : List ℕ) (a b c hi : ℕ) → So (different a b c) → place_of a b c < length t → place_of a b c < hi → Adds (byte_for (plain (only a b c))) 0 hi t (enter t a b c)
unfolding enter
adds_record t a b c hi d l h = record {
  long = enter-length t a b c;
  within = λ x y z p q _ _. test (eqb (index x y z) (place_of a b c))
      (λ k. let e = eqb-true (index x y z) (place_of a b c) k in
      ap (λ (i : ℕ). get_or (enter t a b c) i 0) e
      ∙ get_or-set_same t (place_of a b c) _ 0 l
      ∙ ap₂ (λ (i v : ℕ). union (get_or t i 0) v) (sym e) (sym (only_byte a b c x y z d p q ∙ ap (λ (f : Bool). cond f (single (bit_of a b c)) 0) k)))
      (λ k. enter_stays t a b c (index x y z) (ne_e (index x y z) (place_of a b c) k)
      ∙ sym (or_zero_r (get_or t (index x y z) 0))
      ∙ ap (union (get_or t (index x y z) 0)) (sym (only_byte a b c x y z d p q ∙ ap (λ (f : Bool). cond f (single (bit_of a b c)) 0) (not-true (eqb (index x y z) (place_of a b c)) k))));
  before = λ i j. absurd (omega arith);
  behind = λ i j. enter_stays t a b c i (λ e. omega arith);
}

-- ---- a whole table

pub adds_table : (n : ℕ) (S : Said) (t : List ℕ) → Adds (byte_for S) 0 (C n 3) (replicate (C n 3) 0) t → t ≡ table_for n S
adds_table n S t p = ext_get_or 0 t (table_for n S) (p.long ∙ length-replicate {A = ℕ} (C n 3) 0 ∙ sym (table_length n S)) (λ i h.
    let k : i < C n 3 = omega (arith, p.long, length-replicate {A = ℕ} (C n 3) 0) in
    let r = triple_back n i k in
    let a = low_at n i in
    let b = mid_at n i in
    let c = high_at n i in
    subst (λ (j : ℕ). get_or t j 0 ≡ byte_for S a b c) r.3
    (p.within a b c r.0 r.1 (omega arith) (omega (arith, r.3))
    ∙ ap (λ (z : ℕ). union z (byte_for S a b c)) (zero-at (C n 3) (index a b c)) ∙ or_zero_l (byte_for S a b c))
    ∙ sym (table_at n S i k))
